-- From the decision that code computes (specs/Counting.antt) to the definition (specs/Slots.antt), whatever the slots are: two slots strike
-- exactly when they clash, so both ways alike; the tally is the number of clashing pairs, and there is one such number; and two marks strike
-- exactly when the skins of their parts meet. Assumes nothing.
use mathlib.Core.Path.{◌≡◌, refl, sym, ap₂, ◌∙◌}
use mathlib.Core.Bool.{Bool, true, false, cond}
use mathlib.Core.List.{List, [], ◌∷◌, map}
use Prim.Native.Nat.{ℕ, zero, suc, ◌+◌, ◌<◌}
use native.Mathlib.Omega.{arith}
use borrow.Author.Tests.{eqb-true, eqb-false}
use lib.Dec.{eqb, eqb-zero-suc, eqb-suc-suc}
use lib.IntN.{ℤ}
use lib.ListN.{length, get_or, replicate}
use mir.Val.{bool_byte}
use Rattle.shape.specs.Points.{point_at}
use Rattle.shape.specs.Sharing.{Share}
use Rattle.shape.specs.Verdicts.{Says}
use Rattle.shape.proofs.WireTest.{triangles_test_law}
use Rattle.shape.proofs.Trading.{share_trade}
use Rattle.shape.proofs.VerdictLaws.{says_yes, says_no, says_same, says_fixed}
use Rattle.slots.specs.Slots.{Slot, free, held, triangle, is_of, Clash, Clashing, Clashes, empty, with}
use Rattle.slots.specs.Parts.{SkinsMeet}
use Rattle.shape.specs.Lists.{some, none, pass}
use Rattle.slots.specs.Arrays.{mark_of}
use Rattle.slots.specs.Counting.{meets, strikes, hit, row, tally, has_mark, strikes_if, strikes_mark, slot_strikes, marks_strike}
use Rattle.shape.proofs.ListLaws.{some_at, some_found, how_many_unique, how_many_next}

-- ---- two triangles
pub meets_says : (s t : List ℤ) → Says (meets s t) (Share 3 (triangle s) (triangle t))
unfolding meets
meets_says s t =
    triangles_test_law (point_at 3 0 s) (point_at 3 3 s) (point_at 3 6 s) (point_at 3 0 t) (point_at 3 3 t) (point_at 3 6 t)

-- ---- two slots
strikes_says : (x y : Slot) → Says (strikes x y) (Clash x y)
unfolding strikes
strikes_says free y = says_no (λ c. c)
strikes_says (held p s) free = says_no (λ c. c)
strikes_says (held p s) (held q t) = by_parts (eqb p q) refl
  where
    by_parts : (b : Bool) → eqb p q ≡ b → Says (cond b false (meets s t)) (Clash (held p s) (held q t))
    by_parts true e = says_no (λ c. c.0 (eqb-true p q e))
    by_parts false e = says_same ((λ c. (eqb-false p q e, c)), (λ c. c.1)) (meets_says s t)

-- Both slots of a clash are alike.
pub clash_trade : (x y : Slot) → Clash x y → Clash y x
clash_trade (held p s) (held q t) c = ((λ e. c.0 (sym e)), share_trade c.1)
clash_trade (held p s) free c = c
clash_trade free (held q t) c = c
clash_trade free free c = c

pub strikes_sym : (x y : Slot) → strikes x y ≡ strikes y x
strikes_sym x y = says_fixed (strikes_says x y) (says_same (clash_trade y x, clash_trade x y) (strikes_says y x))

-- ---- the count
clashing_true : (x : Slot) (S : List Slot) → Clashing x S (row x S)
unfolding row hit
clashing_true x [] = none
clashing_true x (y ∷ S) = how_many_next (λ (v : Bool). bool_byte v + row x S) (omega arith) (omega arith) (strikes_says x y) (clashing_true x S)

pub clashes_true : (S : List Slot) → Clashes S (tally S)
unfolding tally
clashes_true [] = empty
clashes_true (x ∷ S) = with (clashing_true x S) (clashes_true S)

pub clashes_unique : {S : List Slot} {m n : ℕ} → Clashes S m → Clashes S n → m ≡ n
clashes_unique empty empty = refl
clashes_unique (with a h) (with b k) = ap₂ ◌+◌ (how_many_unique a b) (clashes_unique h k)

pub clashes_only : (S : List Slot) {n : ℕ} → Clashes S n → n ≡ tally S
clashes_only S h = clashes_unique h (clashes_true S)

-- ---- parts
pub mark_of_law : (q : ℕ) (x : Slot) → eqb (mark_of x) (suc q) ≡ is_of q x
mark_of_law q free = eqb-zero-suc q
mark_of_law q (held p s) = eqb-suc-suc p q

pub some_mark : (q : ℕ) (S : List Slot) → some (has_mark (suc q)) (map mark_of S) ≡ some (is_of q) S
some_mark q [] = refl
some_mark q (x ∷ S) = λ i. cond (mark_of_law q x i) true (some_mark q S i)

-- A slot of a part is no slot past the end.
of_inside : (q : ℕ) (S : List Slot) (i : ℕ) → is_of q (get_or S i free) ≡ true → i < length S
of_inside q [] i e = let z : ◌≡◌ {A = ℕ} 0 1 = cc in absurd (omega arith)
of_inside q (x ∷ S) zero e = omega arith
of_inside q (x ∷ S) (suc i) e = omega (arith, of_inside q S i e)

cond_true : (a b : Bool) → cond a b false ≡ true → (a ≡ true) × (b ≡ true)
cond_true true b e = (refl, e)
cond_true false b e = let z : ◌≡◌ {A = ℕ} 0 1 = cc in absurd (omega arith)

pub skins_say : (S : List Slot) (p q : ℕ) → Says (marks_strike (suc p) (suc q) S) (SkinsMeet S p q)
skins_say S p q = record { yes = found; no = λ e c. let z : ◌≡◌ {A = ℕ} 0 1 = cc (finds c) in omega arith }
  where
    at : ℕ → Slot
    at i = get_or S i free

    found : marks_strike (suc p) (suc q) S ≡ true → SkinsMeet S p q
    found e =
        let first = some_found (slot_strikes (suc p) (suc q) S) free S e in
        let x = at first.i in
        let of_first = cond_true (eqb (mark_of x) (suc p)) (strikes_mark (suc q) x S) first.passes in
        let second = some_found (strikes_if (suc q) x) free S of_first.1 in
        let y = at second.i in
        let of_second = cond_true (eqb (mark_of y) (suc q)) (strikes x y) second.passes in record {
          i = first.i;
          j = second.i;
          of_p = sym (mark_of_law p x) ∙ of_first.0;
          of_q = sym (mark_of_law q y) ∙ of_second.0;
          clash = (strikes_says x y).yes of_second.1;
        }

    finds : SkinsMeet S p q → marks_strike (suc p) (suc q) S ≡ true
    finds c =
        let x = at c.i in
        let y = at c.j in
        let strike : strikes x y ≡ true = says_fixed (strikes_says x y) (says_yes c.clash) in
        let second = some_at (strikes_if (suc q) x) free S c.j (of_inside q S c.j c.of_q) (rw (mark_of_law q y ∙ c.of_q) strike) in
        some_at (slot_strikes (suc p) (suc q) S) free S c.i (of_inside p S c.i c.of_p) (rw (mark_of_law p x ∙ c.of_p) second)

-- Empty slots do not clash.
free_row : (n : ℕ) → Clashing free (replicate n free) 0
free_row zero = none
free_row (suc n) = pass (λ z. z) (free_row n)

pub none_clash : (n : ℕ) → Clashes (replicate n free) 0
none_clash zero = empty
none_clash (suc n) = with (free_row n) (none_clash n)
