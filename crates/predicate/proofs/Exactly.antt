-- Each reason is given exactly in the case that document 01's table states, with the side and the place stated there. Said once
-- for the plane (n = 2) and space (n = 3), and for the value and the sign calls, whatever they serve. The table leaves nothing
-- open: two answers of which it holds have the same number, side and place (`table_fixes`). Assumes nothing.
use mathlib.Core.Path.{◌≡◌, refl, sym, ap, ◌∙◌, subst}
use mathlib.Core.List.{List}
use mathlib.Core.Logic.{◌↔◌}
use Prim.Native.Nat.{ℕ, suc, ◌*◌}
use native.Mathlib.Omega.{arith}
use lib.IntN.{ℤ}
use lib.ListN.{length}
use Rattle.shape.specs.Points.{points_at}
use Rattle.shape.specs.Signs.{bracket, sign}
use Rattle.checks.specs.Answers.{Answer, served, Check, ◌then◌, number_of, side_of, place_of}
use Rattle.exact.specs.Grid.{Ready}
use Rattle.checks.specs.Rules.{right_length, all_on_grid}
use Rattle.predicate.specs.Rules.{value_rule, sign_rule}
use Rattle.checks.proofs.AnswerLaws.{served_later}
use Rattle.checks.proofs.GridLaws.{SomeOff, Lowest, lowest_some, lowest_one}
use Rattle.checks.proofs.CheckLaws.{LengthCase, right, wrong, length_case, GridCase, all, not_all, grid_case}

-- Of a call on n + 1 points of n coordinates, given as the list l.
module _ (n : ℕ) (l : List ℤ) where
  -- So many numbers it takes.
  abbrev want : ℕ
  want = suc n * n

  -- What the table says of an answer: its number read both ways, and the side and the place that go with it.
  pub record Table {A : Type 0} (a : Answer A) : Type 0 where
    -- 3 exactly when the list has another length. The place is its length.
    pub three : (number_of a ≡ 3) ↔ (length l ≡ want → ⊥)
    pub three_place : number_of a ≡ 3 → place_of a ≡ length l
    -- 1 exactly when it has that length and some number is off the grid. The place is the lowest such position.
    pub one : (number_of a ≡ 1) ↔ ((length l ≡ want) × SomeOff l)
    pub one_place : number_of a ≡ 1 → Lowest l (place_of a)
    -- 0, served, exactly when it has that length and every number is on the grid.
    pub none : (number_of a ≡ 0) ↔ Ready want l
    pub none_place : number_of a ≡ 0 → place_of a ≡ 0
    -- There is one list, so the side is 0.
    pub side : side_of a ≡ 0

  -- No number of a ready list is off the grid.
  not_both : Ready want l → SomeOff l → ⊥
  not_both r h = omega (arith, r.each h.position, h.off)

  -- The two checks in their order, and then whatever is served.
  module _ {A : Type 0} (value : A) where
    abbrev checked : Check → Check → Answer A
    checked x y = x then y then served value

    by_cases : LengthCase 0 want l → GridCase 0 l → Table (checked (right_length 0 want l) (all_on_grid 0 l))
    by_cases (wrong h e) g = subst Table (sym (ap (λ (x : Check). checked x (all_on_grid 0 l)) e))
        (record {
          three = (λ f. h, λ f. refl);
          three_place = λ f. refl;
          one = (λ f. absurd (omega (arith, f)), λ f. absurd (h f.0));
          one_place = λ f. absurd (omega (arith, f));
          none = (λ f. absurd (omega (arith, f)), λ r. absurd (h r.long));
          none_place = λ f. absurd (omega (arith, f));
          side = refl;
        })
    by_cases (right h e) (not_all low g) = subst Table (sym (λ i. checked (e i) (g i)))
        (record {
          three = (λ f. absurd (omega (arith, f)), λ f. absurd (f h));
          three_place = λ f. absurd (omega (arith, f));
          one = (λ f. (h, lowest_some low), λ f. refl);
          one_place = λ f. low;
          none = (λ f. absurd (omega (arith, f)), λ r. absurd (not_both r (lowest_some low)));
          none_place = λ f. absurd (omega (arith, f));
          side = refl;
        })
    by_cases (right h e) (all on g) = subst Table (sym (λ i. checked (e i) (g i)))
        (record {
          three = (λ f. absurd (omega (arith, f)), λ f. absurd (f h));
          three_place = λ f. absurd (omega (arith, f));
          one = (λ f. absurd (omega (arith, f)), λ f. absurd (not_both (record { long = h; each = on }) f.1));
          one_place = λ f. absurd (omega (arith, f));
          none = (λ f. record { long = h; each = on }, λ f. refl);
          none_place = λ f. refl;
          side = refl;
        })

    table : Table (checked (right_length 0 want l) (all_on_grid 0 l))
    table = by_cases (length_case 0 want l) (grid_case 0 l)

  -- The table holds of the answers that the contracts of the value calls and of the sign calls ask for.
  pub value_table : Table (value_rule n l)
  value_table = table (bracket (points_at n (suc n) 0 l))

  pub sign_table : Table (sign_rule n l)
  sign_table =
      let z : ℤ = bracket (points_at n (suc n) 0 l) in
      subst Table
      (sym (served_later sign (right_length 0 want l) (all_on_grid 0 l then served z) ∙ ap (λ (a : Answer ℤ). right_length 0 want l then a) (served_later sign (all_on_grid 0 l) (served z))))
      (table (sign z))

  -- The table fixes number, side and place.
  pub table_fixes : {A B : Type 0} (a : Answer A) (b : Answer B) → Table a → Table b →
      (number_of a ≡ number_of b) × (side_of a ≡ side_of b) × (place_of a ≡ place_of b)
  table_fixes a b t u = fixed (length_case 0 want l) (grid_case 0 l)
    where
      -- both give the number m, and then the same place
      both : (m : ℕ) → number_of a ≡ m → number_of b ≡ m → place_of a ≡ place_of b →
          (number_of a ≡ number_of b) × (side_of a ≡ side_of b) × (place_of a ≡ place_of b)
      both m p q place = (p ∙ sym q, t.side ∙ sym u.side, place)

      fixed : LengthCase 0 want l → GridCase 0 l → (number_of a ≡ number_of b) × (side_of a ≡ side_of b) × (place_of a ≡ place_of b)
      fixed (wrong h e) g =
          let p = t.three.1 h in
          let q = u.three.1 h in
          both 3 p q (t.three_place p ∙ sym (u.three_place q))
      fixed (right h e) (not_all low g) =
          let p = t.one.1 (h, lowest_some low) in
          let q = u.one.1 (h, lowest_some low) in
          both 1 p q (lowest_one (t.one_place p) (u.one_place q))
      fixed (right h e) (all on g) =
          let p = t.none.1 (record { long = h; each = on }) in
          let q = u.none.1 (record { long = h; each = on }) in
          both 0 p q (t.none_place p ∙ sym (u.none_place q))
