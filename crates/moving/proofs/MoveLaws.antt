-- Numbers moved by steps: the list that comes out, and the way back; and one sum as the machine reads it, and as the code tests it. Assumes nothing.
use Rattle.std.proofs.Common.{◌≡◌, refl, sym, ap, ◌∙◌, Bool, true, false, cond, ℕ, zero, suc, List, [], ◌∷◌, length, get_or, ℤ, pos, negsuc, neg_ℤ, ◌+ℤ◌, Option, Some, None, MatchOption, w32, FitsSigned, to_z, of_z, arith}
use mir.Facts.{to_z-of_z}
use Rattle.std.specs.Bool.{then_some}
use Rattle.std.proofs.Common.{◌&&◌}
use Rattle.std.specs.List.{list_all, zip}
use Rattle.shape.specs.Flat.{all_below}
use Rattle.checks.specs.Grid.{all_on}
use Rattle.std.specs.Option.{SomeIff}
use mathlib.Core.Path.{ap₂}
use borrow.Author.Tests.{leb-true}
use lib.IntN.{+ℤ_assoc, +ℤ_idl, +ℤ_invl}
use lib.ListN.{get_or, length-map, get_or-map}
use Rattle.exact.specs.Grid.{limit}
use Rattle.shape.specs.Points.{moved}
use Rattle.shape.proofs.Trading.{coord_moved}
use Rattle.checks.specs.Grid.{on_grid}
use Rattle.moving.specs.Moves.{step, steps}

-- ---- a list of numbers moved, each by its step
pub length_moved : (m xs : List ℤ) → length m ≡ length xs → length (moved m xs) ≡ length xs
length_moved [] xs e = refl
length_moved (d ∷ m) [] e = e
length_moved (d ∷ m) (x ∷ xs) e = ap suc (length_moved m xs (omega arith))

-- The way back ends where it began.
pub moved_back : (m xs : List ℤ) → length m ≡ length xs → moved (steps true m) (moved m xs) ≡ xs
moved_back [] xs e = refl
moved_back (d ∷ m) [] e = absurd (omega arith)
moved_back (d ∷ m) (x ∷ xs) e = ap₂ ◌∷◌ number (moved_back m xs (omega arith))
  where
    number : neg_ℤ d +ℤ (d +ℤ x) ≡ x
    number = sym (+ℤ_assoc (neg_ℤ d) d x) ∙ ap (λ (z : ℤ). z +ℤ x) (+ℤ_invl d) ∙ +ℤ_idl x

-- ---- the steps
pub steps_forth : (m : List ℤ) → steps false m ≡ m
steps_forth [] = refl
steps_forth (d ∷ m) = ap (λ (r : List ℤ). d ∷ r) (steps_forth m)

pub steps_long : (back : Bool) (m : List ℤ) → length (steps back m) ≡ length m
steps_long back m = length-map m (step back)

-- Past the end stands no step, forth and back.
get_d_steps : (back : Bool) (m : List ℤ) (i : ℕ) → get_or (steps back m) i (pos 0) ≡ step back (get_or m i (pos 0))
get_d_steps true m i = get_or-map (step true) m i (pos 0)
get_d_steps false m i = get_or-map (step false) m i (pos 0)

-- A number of the list that comes out is the sum that the code makes.
pub moved_at : (back : Bool) (m xs : List ℤ) (i : ℕ) →
    get_or (moved (steps back m) xs) i (pos 0) ≡ step back (get_or m i (pos 0)) +ℤ get_or xs i (pos 0)
moved_at back m xs i = coord_moved i (steps back m) xs ∙ ap (λ (z : ℤ). z +ℤ get_or xs i (pos 0)) (get_d_steps back m i)

-- ---- one sum
-- A step and a number that were read back from 32 bits make the same sum.
pub sum_read : (back : Bool) {d x : ℤ} → FitsSigned w32 d → FitsSigned w32 x → step back (to_z w32 (of_z w32 d)) +ℤ to_z w32 (of_z w32 x) ≡ step back d +ℤ x
sum_read back f g = λ i. step back (to_z-of_z f i) +ℤ to_z-of_z g i

-- A number on the grid fits 32 bits.
on_fits : (z : ℤ) → on_grid z ≡ true → FitsSigned w32 z
on_fits (pos n) e = record { sfits = omega (arith, leb-true n limit e) }
on_fits (negsuc n) e = record { sfits = omega (arith, leb-true (suc n) limit e) }

-- A sum that fits, and of those the one that is on the grid. Told says how the code tests a number.
pub landed_law : (Told : ℤ → Bool → Type 0) → ((x : ℤ) (b : Bool) → Told x b → b ≡ on_grid x) → (z : ℤ) (there r : Option ℤ)
    → SomeIff there (FitsSigned w32 z) z → MatchOption there (r ≡ None) (λ x. (b : Bool) × Told x b × (r ≡ then_some b x))
    → r ≡ cond (on_grid z) (Some z) None
landed_law Told tells z None r unfit none = by_test (on_grid z) refl
  where
    by_test : (t : Bool) → on_grid z ≡ t → r ≡ cond t (Some z) None
    by_test true e = absurd (unfit (on_fits z e))
    by_test false e = none
landed_law Told tells z (Some x) r fits some =
    some.2 ∙ ap (λ (b : Bool). then_some b x) (tells x some.0 some.1) ∙ ap (λ (y : ℤ). then_some (on_grid y) y) fits.1 ∙ is (on_grid z)
  where
    is : (t : Bool) → then_some t z ≡ cond t (Some z) None
    is true = refl
    is false = refl

-- ---- all sums
-- A test of each i below n begins at 0 as well as at the end.
below_first : (n : ℕ) (test : ℕ → Bool) → all_below (suc n) test ≡ cond (test 0) (all_below n (λ k. test (suc k))) false
below_first zero test = refl
below_first (suc n) test = ap (λ (b : Bool). cond (test (suc n)) b false) (below_first n test) ∙ swap (test (suc n)) (test 0)
  where
    swap : (a b : Bool) → cond a (cond b (all_below n (λ k. test (suc k))) false) false ≡ cond b (cond a (all_below n (λ k. test (suc k))) false) false
    swap true true = refl
    swap true false = refl
    swap false true = refl
    swap false false = refl

-- Whether the sum of a number and its step is on the grid.
abbrev pub lands : ℤ × ℤ → Bool
lands p = on_grid (p.1 +ℤ p.0)

pub all_land : (m xs : List ℤ) → length m ≡ length xs → list_all lands (zip xs m) ≡ all_on (moved m xs)
all_land [] [] e = refl
all_land (d ∷ m) [] e = absurd (omega arith)
all_land [] (x ∷ xs) e = absurd (omega arith)
all_land (d ∷ m) (x ∷ xs) e =
    ap (λ (b : Bool). on_grid (d +ℤ x) && b) (all_land m xs (omega arith))
    ∙ and_cond (on_grid (d +ℤ x))
    ∙ sym (below_first (length (moved m xs)) (λ k. on_grid (get_or (moved (d ∷ m) (x ∷ xs)) k (pos 0))))
  where
    and_cond : (b : Bool) → (b && all_on (moved m xs)) ≡ cond b (all_on (moved m xs)) false
    and_cond true = refl
    and_cond false = refl
