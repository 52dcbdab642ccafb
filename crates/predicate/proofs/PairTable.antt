-- Each reason of a verdict call is given exactly in the case that document 01's table states, with the side and the place stated
-- there: for the calls that refuse flat shapes and for those that take them, over the number of coordinates n and of corners k and m, whatever
-- is served. `PairCase` is the table and `pair_exactly` the theorem; between them is its proof. `two_never` says of the calls that take flat
-- shapes that they never give 2. Assumes nothing.
use mathlib.Core.Path.{◌≡◌, refl, ◌∙◌}
use mathlib.Core.Bool.{Bool}
use mathlib.Core.List.{List}
use mathlib.Core.Logic.{◌↔◌}
use Prim.Native.Nat.{ℕ, ◌*◌}
use native.Mathlib.Omega.{arith}
use lib.IntN.{ℤ}
use lib.ListN.{length}
use Rattle.shape.specs.Points.{Shape, points_at}
use Rattle.checks.specs.Answers.{Answer, refused, Check, fine, ◌then◌, number_of, side_of, place_of}
use Rattle.checks.specs.Rules.{right_length, all_on_grid, FlatShapes, takes_flat, flat_checks, pair_checks}
use Rattle.predicate.specs.Rules.{VerdictRule}
use Rattle.checks.proofs.GridLaws.{Lowest}
use Rattle.checks.proofs.CheckLaws.{LengthCase, right, wrong, length_case, GridCase, all, not_all, grid_case, OnGrid, RefusedAsFlat, FlatCase, flat, never_flat, flat_case, long_fine, not_long_refused, on_fine, off_refused, not_flat_fine, flat_refused}
use Rattle.checks.proofs.Tables.{Gives, gives_as, then_gives, SomeCase, exactly, also_exactly}

-- Of a verdict call on two lists, which refuses flat shapes or takes them: a shape of k corners and one of m, in n coordinates.
module _ (flats : FlatShapes) (n k m : ℕ) (first second : List ℤ) where
  -- The two shapes.
  abbrev P : Shape
  P = points_at n k 0 first

  abbrev Q : Shape
  Q = points_at n m 0 second

  -- The table: what goes with each number, side and place. Each case says that no fault before it is there, and so the first wins.
  pub data PairCase : (number side place : ℕ) → Type 0 where
    -- 3: the first list is not of its shape's length. The place is its length.
    first_length : (length first ≡ k * n → ⊥) → PairCase 3 0 (length first)
    -- 3: the second list is not.
    second_length : length first ≡ k * n → (length second ≡ m * n → ⊥) → PairCase 3 1 (length second)
    -- 1: the first list has a number off the grid. The place is the lowest such position.
    first_off : (place : ℕ) → length first ≡ k * n → length second ≡ m * n → Lowest first place → PairCase 1 0 place
    -- 2: the first shape is flat, and the call refuses flat shapes.
    first_flat : length first ≡ k * n → length second ≡ m * n → OnGrid first → RefusedAsFlat flats n P → PairCase 2 0 0
    -- 1: the second list has a number off the grid.
    second_off : (place : ℕ) → length first ≡ k * n → length second ≡ m * n → OnGrid first → (RefusedAsFlat flats n P → ⊥) →
        Lowest second place → PairCase 1 1 place
    -- 2: the second shape is flat, and the call refuses flat shapes.
    second_flat : length first ≡ k * n → length second ≡ m * n → OnGrid first → (RefusedAsFlat flats n P → ⊥) →
        OnGrid second → RefusedAsFlat flats n Q → PairCase 2 1 0
    -- 0: nothing of this; a verdict is served.
    none : length first ≡ k * n → length second ≡ m * n → OnGrid first → (RefusedAsFlat flats n P → ⊥) →
        OnGrid second → (RefusedAsFlat flats n Q → ⊥) → PairCase 0 0 0

  -- ---- the six checks, and what they find together
  abbrev together : (a b c d e f : Check) → Check
  together a b c d e f = a then b then (c then d) then (e then f)

  abbrev second_long : Check
  second_long = right_length 1 (m * n) second

  abbrev first_on : Check
  first_on = all_on_grid 0 first

  abbrev first_not_flat : Check
  first_not_flat = flat_checks flats n 0 P

  abbrev second_on : Check
  second_on = all_on_grid 1 second

  abbrev second_not_flat : Check
  second_not_flat = flat_checks flats n 1 Q

  abbrev checks : Check
  checks = pair_checks flats n k m first second

  -- ---- from the case to the checks
  from_case : (number side place : ℕ) → PairCase number side place → Gives checks number side place
  from_case number side place (first_length h) =
      let e = not_long_refused 0 (k * n) first h in
      let is : checks ≡ refused 3 0 (length first) = λ i. together (e i) second_long first_on first_not_flat second_on second_not_flat in
      gives_as is
  from_case number side place (second_length l h) =
      let d = long_fine 0 (k * n) first l in
      let e = not_long_refused 1 (m * n) second h in
      let is : checks ≡ refused 3 1 (length second) = λ i. together (d i) (e i) first_on first_not_flat second_on second_not_flat in
      gives_as is
  from_case number side place (first_off at l l' low) =
      let d = long_fine 0 (k * n) first l in
      let e = long_fine 1 (m * n) second l' in
      let f = off_refused 0 at first low in
      let is : checks ≡ refused 1 0 at = λ i. together (d i) (e i) (f i) first_not_flat second_on second_not_flat in
      gives_as is
  from_case number side place (first_flat l l' on h) =
      let d = long_fine 0 (k * n) first l in
      let e = long_fine 1 (m * n) second l' in
      let f = on_fine 0 first on in
      let g = flat_refused flats n 0 P h in
      let is : checks ≡ refused 2 0 0 = λ i. together (d i) (e i) (f i) (g i) second_on second_not_flat in
      gives_as is
  from_case number side place (second_off at l l' on h low) =
      let d = long_fine 0 (k * n) first l in
      let e = long_fine 1 (m * n) second l' in
      let f = on_fine 0 first on in
      let g = not_flat_fine flats n 0 P h in
      let f' = off_refused 1 at second low in
      let is : checks ≡ refused 1 1 at = λ i. together (d i) (e i) (f i) (g i) (f' i) second_not_flat in
      gives_as is
  from_case number side place (second_flat l l' on h on' h') =
      let d = long_fine 0 (k * n) first l in
      let e = long_fine 1 (m * n) second l' in
      let f = on_fine 0 first on in
      let g = not_flat_fine flats n 0 P h in
      let f' = on_fine 1 second on' in
      let g' = flat_refused flats n 1 Q h' in
      let is : checks ≡ refused 2 1 0 = λ i. together (d i) (e i) (f i) (g i) (f' i) (g' i) in
      gives_as is
  from_case number side place (none l l' on h on' h') =
      let d = long_fine 0 (k * n) first l in
      let e = long_fine 1 (m * n) second l' in
      let f = on_fine 0 first on in
      let g = not_flat_fine flats n 0 P h in
      let f' = on_fine 1 second on' in
      let g' = not_flat_fine flats n 1 Q h' in
      let is : checks ≡ fine = λ i. together (d i) (e i) (f i) (g i) (f' i) (g' i) in
      gives_as is

  -- ---- some case holds
  some_case : SomeCase PairCase
  some_case = by_lengths (length_case 0 (k * n) first) (length_case 1 (m * n) second)
    where
      by_second : length first ≡ k * n → length second ≡ m * n → OnGrid first → (RefusedAsFlat flats n P → ⊥) → GridCase 1 second → FlatCase flats n 1 Q →
          SomeCase PairCase
      by_second l l' on h (not_all low e) g = record { number = 1; side = 1; place = _; found = second_off _ l l' on h low }
      by_second l l' on h (all on' e) (flat h' g) = record { number = 2; side = 1; place = 0; found = second_flat l l' on h on' h' }
      by_second l l' on h (all on' e) (never_flat h' g) = record { number = 0; side = 0; place = 0; found = none l l' on h on' h' }

      by_first : length first ≡ k * n → length second ≡ m * n → GridCase 0 first → FlatCase flats n 0 P → SomeCase PairCase
      by_first l l' (not_all low e) g = record { number = 1; side = 0; place = _; found = first_off _ l l' low }
      by_first l l' (all on e) (flat h g) = record { number = 2; side = 0; place = 0; found = first_flat l l' on h }
      by_first l l' (all on e) (never_flat h g) = by_second l l' on h (grid_case 1 second) (flat_case flats n 1 Q)

      by_lengths : LengthCase 0 (k * n) first → LengthCase 1 (m * n) second → SomeCase PairCase
      by_lengths (wrong h e) g = record { number = 3; side = 0; place = length first; found = first_length h }
      by_lengths (right l e) (wrong h g) = record { number = 3; side = 1; place = length second; found = second_length l h }
      by_lengths (right l e) (right l' g) = by_first l l' (grid_case 0 first) (flat_case flats n 0 P)

  -- ---- the answer
  -- An answer that meets the contract of a verdict call gives a number, a side and a place exactly in their case.
  pub pair_exactly : (a : Answer Bool) → VerdictRule flats n k m first second a → (number side place : ℕ) →
      PairCase number side place ↔ Gives a number side place
  pair_exactly a rule number side place = also_exactly a checks same (exactly checks PairCase from_case some_case)
    where
      same : Gives a (number_of checks) (side_of checks) (place_of checks)
      same =
          let told = gives_as rule.told in
          let before = then_gives checks rule.verdict in
          (told.0 ∙ before.0, told.1 ∙ before.1, told.2 ∙ before.2)

-- A call that takes flat shapes never gives 2.
pub two_never : {n k m : ℕ} {first second : List ℤ} (a : Answer Bool) → VerdictRule takes_flat n k m first second a → number_of a ≡ 2 → ⊥
two_never {n} {k} {m} {first} {second} a rule two =
    no_case two ((pair_exactly takes_flat n k m first second a rule (number_of a) (side_of a) (place_of a)).1 (refl, refl, refl))
  where
    no_case : {number side place : ℕ} → number ≡ 2 → PairCase takes_flat n k m first second number side place → ⊥
    no_case e (first_length h) = omega arith
    no_case e (second_length l h) = omega arith
    no_case e (first_off at l l' low) = omega arith
    no_case e (first_flat l l' on h) = h
    no_case e (second_off at l l' on h low) = omega arith
    no_case e (second_flat l l' on h on' h') = h'
    no_case e (none l l' on h on' h') = omega arith
