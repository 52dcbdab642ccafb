-- Which slots clash, from what the pair test promises of their numbers. Assumes nothing.
use mathlib.Core.Path.{◌≡◌, sym, ◌∙◌}
use mathlib.Core.Bool.{Bool}
use mathlib.Core.List.{List}
use Prim.Native.Nat.{ℕ, ◌<◌}
use lib.IntN.{ℤ}
use lib.ListN.{get_or}
use Rattle.shape.proofs.VerdictLaws.{says_fixed}
use Rattle.kernel.specs.Meeting.{Judges}
use Rattle.slots.specs.Slots.{Slot, free}
use Rattle.slots.specs.Arrays.{mark_of}
use Rattle.slots.specs.Counting.{meets, strikes}
use Rattle.slots.specs.Showing.{nine_at, Shown}
use Rattle.slots.proofs.Counts.{strikes_test}
use Rattle.slots.proofs.Clashing.{meets_says}
use Rattle.slots.proofs.Arrays.{mark_is, numbers_are}

-- Two slots with marks that differ and are not 0 clash as the test of their numbers says.
pub strikes_tested : {S : List Slot} {coords : List ℤ} {parts : List ℕ} → Shown S coords parts → (i j : ℕ) → i < 64 → j < 64 →
    (get_or parts i 0 ≡ 0 → ⊥) → (get_or parts j 0 ≡ 0 → ⊥) → (get_or parts i 0 ≡ get_or parts j 0 → ⊥) → {s t : List ℤ} {r : Bool} →
    s ≡ nine_at i coords → t ≡ nine_at j coords → Judges 3 3 3 s t r → r ≡ strikes (get_or S i free) (get_or S j free)
strikes_tested {S} {parts} h i j hi hj a b d of_i of_j promised =
    let filled : (k : ℕ) → (get_or parts k 0 ≡ 0 → ⊥) → mark_of (get_or S k free) ≡ 0 → ⊥ = λ k f z. f (mark_is h k ∙ z) in
    says_fixed promised (meets_says _ _)
    ∙ (λ n. meets ((of_i ∙ numbers_are h i hi) n) ((of_j ∙ numbers_are h j hj) n))
    ∙ sym (strikes_test _ _ (filled i a) (filled j b) (λ e. d (mark_is h i ∙ e ∙ sym (mark_is h j))))
