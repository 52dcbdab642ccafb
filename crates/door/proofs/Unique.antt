-- No second result and no second buffer meet a door's contract: both are fixed by the numbers of its answer and by the buffer
-- before. Assumes nothing.
use mathlib.Core.Path.{◌≡◌, refl, sym, ap, ◌∙◌, subst}
use mathlib.Core.Bool.{Bool, true≢false}
use mathlib.Core.List.{List}
use Prim.Native.Nat.{ℕ}
use lib.IntN.{ℤ}
use Rattle.checks.specs.Answers.{Answer, with_served}
use Rattle.checks.specs.Rules.{FlatShapes}
use Rattle.predicate.specs.Rules.{sign_rule}
use Rattle.predicate.proofs.Unique.{rule_fixed}
use Rattle.listing.proofs.Unique.{list_unique}
use Rattle.shape.specs.Signs.{digit}
use Rattle.telling.specs.Numbers.{verdict_code, four_numbers, one_number}
use Rattle.telling.specs.Buffer.{Written}
use Rattle.door.specs.Doors.{VerdictWritten, VerdictTold, BytesTold, wrong_length, judged, ListWritten, undone, done}

-- Whatever the numbers are.
pub written_unique : {numbers before : List ℕ} {r s : ℕ} {after after' : List ℕ} →
    Written numbers before r after → Written numbers before s after' → (r ≡ s) × (after ≡ after')
written_unique w v = (w.gives ∙ sym v.gives, w.leaves ∙ sym v.leaves)

-- Two results that meet the contract of `zg_turn` (n = 2) or of `zg_side` (n = 3), for the same points and the same buffer
-- before, are equal, and so are the buffers that they leave.
pub sign_door_unique : (n : ℕ) (points : List ℤ) (before : List ℕ) (r s : ℕ) (after after' : List ℕ) →
    Written (four_numbers (with_served digit (sign_rule n points))) before r after →
    Written (four_numbers (with_served digit (sign_rule n points))) before s after' → (r ≡ s) × (after ≡ after')
sign_door_unique n points before r s after after' w v = written_unique w v

-- The same of the door of a verdict call (`zg_flat` refuses flat shapes and has n = 2, k = m = 3; `zg_segment` and `zg_pair` take them, with n = 3,
-- k = 2, m = 3 and n = k = m = 3).
pub verdict_door_unique : (flats : FlatShapes) (n k m : ℕ) (first second : List ℤ) (before : List ℕ) (r s : ℕ) (after after' : List ℕ) →
    VerdictWritten flats n k m first second before r after → VerdictWritten flats n k m first second before s after' → (r ≡ s) × (after ≡ after')
verdict_door_unique flats n k m first second before r s after after' w v =
    written_unique
    (subst (λ (a : Answer Bool). Written (four_numbers (with_served verdict_code a)) before r after) (rule_fixed w.right v.right) w.written)
    v.written

-- And of the listing's door: result, pairs and answer.
pub list_door_unique : {a b : List ℤ} {buffer : List ℕ} {start : ℕ} {before : List ℕ} {r s : ℕ} {filled filled' after after' : List ℕ} →
    ListWritten a b buffer start before r filled after → ListWritten a b buffer start before s filled' after' →
    (r ≡ s) × (filled ≡ filled') × (after ≡ after')
list_door_unique (undone e) (undone f) = (refl, refl, refl)
list_door_unique (undone e) (done told f rule w) = absurd (true≢false (sym e ∙ f))
list_door_unique (done told e rule w) (undone f) = absurd (true≢false (sym f ∙ e))
list_door_unique {before} {r} {after} (done told e rule w) (done told' f rule' w') =
    let same = list_unique rule rule' in
    let both = written_unique (subst (λ (t : Answer ℕ). Written (four_numbers t) before r after) same.0 w) w' in
    (both.0, same.1, both.1)

-- And of the door of bytes, which has no buffer.
pub told_fixed : {first second : List ℤ} {r s : ℕ} → VerdictTold first second r → VerdictTold first second s → r ≡ s
told_fixed t u = t.tells ∙ ap (λ (told : Answer Bool). one_number (with_served verdict_code told)) (rule_fixed t.right u.right) ∙ sym u.tells

pub bytes_door_unique : {a b : List ℕ} {r s : ℕ} → BytesTold a b r → BytesTold a b s → r ≡ s
bytes_door_unique (wrong_length h e) (wrong_length g f) = e ∙ sym f
bytes_door_unique (wrong_length h e) (judged long-a long-b t) = absurd (h (long-a, long-b))
bytes_door_unique (judged long-a long-b t) (wrong_length g f) = absurd (g (long-a, long-b))
bytes_door_unique (judged long-a long-b t) (judged long-a' long-b' u) = told_fixed t u
