-- The arrays tell the slots: no two lists of slots, each of nine numbers, have the same coordinates and marks. Assumes nothing.
use mathlib.Core.Path.{◌≡◌, refl, sym, ap, ◌∙◌}
use mathlib.Core.List.{List, [], ◌∷◌, map}
use Prim.Native.Nat.{ℕ, suc}
use native.Mathlib.Omega.{arith}
use lib.IntN.{ℤ}
use lib.ListN.{length, get_or, take, drop}
use lib.Seq.{take_at, drop_at}
use Rattle.slots.specs.Slots.{Slot, free, held}
use Rattle.slots.specs.Arrays.{numbers_of, mark_of, flat}

same_slot : (x y : Slot) → mark_of x ≡ mark_of y → numbers_of x ≡ numbers_of y → x ≡ y
same_slot free free e f = refl
same_slot free (held q t) e f = absurd (omega arith)
same_slot (held p s) free e f = absurd (omega arith)
same_slot (held p s) (held q t) e f = let g : p ≡ q = omega arith in λ i. held (g i) (f i)

-- Every slot has nine numbers. (Past the end stands an empty one, which has nine.)
abbrev pub Nine : List Slot → Type 0
Nine S = (i : ℕ) → length (numbers_of (get_or S i free)) ≡ 9

same_slots : (S T : List Slot) → Nine S → Nine T → map mark_of S ≡ map mark_of T → flat S ≡ flat T → S ≡ T
unfolding flat
same_slots [] [] a b e f = refl
same_slots [] (y ∷ T) a b e f = let z : ◌≡◌ {A = ℕ} 0 1 = cc in absurd (omega arith)
same_slots (x ∷ S) [] a b e f = let z : ◌≡◌ {A = ℕ} 0 1 = cc in absurd (omega arith)
same_slots (x ∷ S) (y ∷ T) a b e f =
    let mark : mark_of x ≡ mark_of y = cc in
    let marks : map mark_of S ≡ map mark_of T = cc in
    let numbers : numbers_of x ≡ numbers_of y =
    sym (take_at (numbers_of x) (flat S) 9 (a 0)) ∙ ap (take 9) f ∙ take_at (numbers_of y) (flat T) 9 (b 0) in
    let rest : flat S ≡ flat T = sym (drop_at (numbers_of x) (flat S) 9 (a 0)) ∙ ap (drop 9) f ∙ drop_at (numbers_of y) (flat T) 9 (b 0) in
    λ i. same_slot x y mark numbers i ∷ same_slots S T (λ k. a (suc k)) (λ k. b (suc k)) marks rest i

pub faithful : {S T : List Slot} {coords : List ℤ} {parts : List ℕ} → Nine S → Nine T → coords ≡ flat S → parts ≡ map mark_of S →
    coords ≡ flat T → parts ≡ map mark_of T → S ≡ T
faithful {S} {T} a b c p d q = same_slots S T a b (sym p ∙ q) (sym c ∙ d)
