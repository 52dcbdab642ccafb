-- What the tests of the grid tell: of one number, and of the lowest position off the grid. Assumes nothing.
use mathlib.Core.Path.{◌≡◌, refl, sym, ap, ◌∙◌}
use mathlib.Core.Bool.{Bool, true, false, not, cond, true≢false}
use mathlib.Core.List.{List, [], ◌∷◌}
use Prim.Native.Nat.{ℕ, zero, suc, ◌^◌, ◌<◌, ◌≤◌}
use native.Mathlib.Omega.{arith}
use borrow.Author.Tests.{ltb-true, ltb-false, leb-true, leb-false, lt-ltb, le-ltb, le-leb, lt-leb, not-true, not-false}
use lib.Dec.{leb, ltb}
use lib.IntN.{ℤ, pos, negsuc, nat_abs}
use lib.ListN.{get_or, length}
use lib.Signed.{lt_z, mag}
use mir.Syntax.{w32}
use mir.Val.{to_z, of_z, hbits}
use mir.Facts.{to_z-of_z}
use borrow.Author.Rules.{sfits_of}
use Rattle.shape.specs.Verdicts.{Says}
use Rattle.shape.proofs.FlatLaws.{below_says}
use Rattle.shape.proofs.VerdictLaws.{says_itself}
use Rattle.exact.specs.Grid.{limit}
use Rattle.checks.specs.Grid.{on_grid, lowest_off, all_on}
use Rattle.std.specs.List.{position_or_len}
use Rattle.std.proofs.lemmas.List.Sums.{prefix_len-le-length, prefix_len_passes, prefix_len_stops}
pub use Rattle.checks.proofs.LowestLaw.{lowest_is}

-- ---- one number, against a limit m + 1
pub below_limit : (m : ℕ) (z : ℤ) → lt_z z (negsuc m) ≡ true → true ≡ not (leb (nat_abs z) (suc m))
below_limit m (pos n) h = absurd (true≢false (sym h))
below_limit m (negsuc n) h = ap not (sym (lt-leb (suc n) (suc m) (omega (arith, ltb-true m n h))))

pub not_below_limit : (m : ℕ) (z : ℤ) → lt_z z (negsuc m) ≡ false → lt_z (pos (suc m)) z ≡ not (leb (nat_abs z) (suc m))
not_below_limit m (pos n) h = opposite_tests (leb n (suc m)) refl
  where
    opposite_tests : (t : Bool) → leb n (suc m) ≡ t → ltb (suc m) n ≡ not t
    opposite_tests true e = le-ltb (suc m) n (leb-true n (suc m) e)
    opposite_tests false e = lt-ltb (suc m) n (leb-false n (suc m) e)
not_below_limit m (negsuc n) h = ap not (sym (le-leb (suc n) (suc m) (omega (arith, ltb-false m n h))))

-- What the test says of a number that was stored in 32 bits, it says of the number: off the grid, or on it.
module _ (z : ℤ) (fits : mag z < 2 ^ hbits w32) (t : Bool) (e : t ≡ not (on_grid (to_z w32 (of_z w32 z)))) where
  same : on_grid z ≡ on_grid (to_z w32 (of_z w32 z))
  same = ap on_grid (sym (to_z-of_z (sfits_of {w = w32} {z = z} fits)))

  pub tested_off : t ≡ true → on_grid z ≡ false
  tested_off h = same ∙ not-true (on_grid (to_z w32 (of_z w32 z))) (sym e ∙ h)

  pub tested_on : t ≡ false → on_grid z ≡ true
  tested_on h = same ∙ not-false (on_grid (to_z w32 (of_z w32 z))) (sym e ∙ h)

-- ---- the lowest position off the grid
-- Where there is none, every number is on the grid; past the end stands 0, which is too.
pub all_on_law : (l : List ℤ) → length l ≤ lowest_off l → (k : ℕ) → nat_abs (get_or l k (pos 0)) ≤ limit
all_on_law [] h k = omega arith
all_on_law (z ∷ l) h k = first (on_grid z) refl (all_on_law l) k h
  where
    first : (t : Bool) → on_grid z ≡ t → (length l ≤ lowest_off l → (k : ℕ) → nat_abs (get_or l k (pos 0)) ≤ limit) →
        (k : ℕ) → suc (length l) ≤ cond t (suc (lowest_off l)) 0 → nat_abs (get_or (z ∷ l) k (pos 0)) ≤ limit
    first true e rest zero g = leb-true (nat_abs z) limit e
    first true e rest (suc k) g = rest (omega arith) k
    first false e rest k g = absurd (omega arith)

-- The test of all numbers tells whether there is one.
pub all_on_says : (l : List ℤ) → Says (all_on l) ((k : ℕ) → k < length l → on_grid (get_or l k (pos 0)) ≡ true)
all_on_says l =
    below_says (length l) (λ k. on_grid (get_or l k (pos 0)) ≡ true) (λ k. on_grid (get_or l k (pos 0))) (λ k. says_itself (on_grid (get_or l k (pos 0))))

pub none_off : (l : List ℤ) → all_on l ≡ true → ltb (lowest_off l) (length l) ≡ false
none_off l e =
    le-ltb (lowest_off l) (length l) (omega (arith, lowest_is l (length l) (omega arith) ((all_on_says l).yes e) (λ p. absurd (omega arith))))

pub one_off : (l : List ℤ) → all_on l ≡ false → ltb (lowest_off l) (length l) ≡ true
one_off l e = by_test (ltb (lowest_off l) (length l)) refl
  where
    by_test : (t : Bool) → ltb (lowest_off l) (length l) ≡ t → t ≡ true
    by_test true f = refl
    by_test false f =
        absurd ((all_on_says l).no e (λ k p. le-leb (nat_abs (get_or l k (pos 0))) limit (all_on_law l (ltb-false (lowest_off l) (length l) f) k)))

-- Found by the library: so many are on the grid before the first that is not.
pub position_lowest : (l : List ℤ) → position_or_len (λ z. not (on_grid z)) l ≡ lowest_off l
position_lowest l =
    let test : ℤ → Bool = λ z. not (not (on_grid z)) in
    let twice : (t : Bool) → not (not t) ≡ t = elim [ true ↦ refl | false ↦ refl ] in
    lowest_is l _ (prefix_len-le-length test l)
    (λ k h. sym (twice (on_grid (get_or l k (pos 0)))) ∙ prefix_len_passes test l k (pos 0) h)
    (λ h. sym (twice (on_grid (get_or l _ (pos 0)))) ∙ prefix_len_stops test l (pos 0) h)

-- Some number of the list is off the grid.
pub record SomeOff (l : List ℤ) : Type 0 where
  pub position : ℕ
  pub inside : position < length l
  pub off : limit < nat_abs (get_or l position (pos 0))

-- Position p is the lowest of the list whose number is off the grid.
pub record Lowest (l : List ℤ) (p : ℕ) : Type 0 where
  pub inside : p < length l
  pub off : limit < nat_abs (get_or l p (pos 0))
  pub before : (k : ℕ) → k < p → nat_abs (get_or l k (pos 0)) ≤ limit

pub lowest_some : {l : List ℤ} {p : ℕ} → Lowest l p → SomeOff l
lowest_some {p} h = record { position = p; inside = h.inside; off = h.off }

-- There is one such position only.
pub lowest_one : {l : List ℤ} {p q : ℕ} → Lowest l p → Lowest l q → p ≡ q
lowest_one {p} {q} h g = by_tests (ltb p q) refl (ltb q p) refl
  where
    by_tests : (s : Bool) → ltb p q ≡ s → (t : Bool) → ltb q p ≡ t → p ≡ q
    by_tests true e t f = absurd (omega (arith, h.off, g.before p (ltb-true p q e)))
    by_tests false e true f = absurd (omega (arith, g.off, h.before q (ltb-true q p f)))
    by_tests false e false f = omega (arith, ltb-false p q e, ltb-false q p f)

-- The place that the rule computes is that position, where there is one.
pub lowest : (l : List ℤ) → lowest_off l < length l → Lowest l (lowest_off l)
lowest [] h = absurd (omega arith)
lowest (z ∷ l) h = first (on_grid z) refl h (lowest l)
  where
    first : (t : Bool) → on_grid z ≡ t → cond t (suc (lowest_off l)) 0 < suc (length l) → (lowest_off l < length l → Lowest l (lowest_off l)) →
        Lowest (z ∷ l) (cond t (suc (lowest_off l)) 0)
    first true e g rest =
        let r = rest (omega arith) in
        record { inside = g; off = r.off; before = each r.before }
      where
        each : ((k : ℕ) → k < lowest_off l → nat_abs (get_or l k (pos 0)) ≤ limit) → (k : ℕ) → k < suc (lowest_off l) → nat_abs (get_or (z ∷ l) k (pos 0)) ≤ limit
        each b zero p = leb-true (nat_abs z) limit e
        each b (suc k) p = b k (omega arith)
    first false e g rest = record { inside = g; off = leb-false (nat_abs z) limit e; before = λ k p. absurd (omega arith) }
