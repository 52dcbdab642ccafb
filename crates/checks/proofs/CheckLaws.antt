-- What each check finds, by its cases, and each case by what the check finds: the only place where the tests in the rules are
-- taken apart. Assumes nothing.
use mathlib.Core.Path.{◌≡◌, refl, sym, ap, ◌∙◌}
use mathlib.Core.Bool.{Bool, true, false, not, cond}
use Rattle.std.specs.Prelude.{Some, None, position}
use Rattle.std.specs.List.{position_or_len}
use Rattle.std.proofs.Common.{rules}
use mathlib.Core.List.{List}
use Prim.Native.Nat.{ℕ, ◌≤◌}
use native.Mathlib.Omega.{arith}
use borrow.Author.Tests.{eqb-true, eqb-false, ltb-true, ltb-false, le-leb}
use lib.Dec.{eqb, ltb}
use lib.IntN.{ℤ, pos, nat_abs}
use lib.ListN.{length, get_or, take, drop}
use Rattle.shape.specs.Points.{Shape}
use Rattle.shape.specs.Flat.{Flat, is_flat}
use Rattle.shape.specs.Verdicts.{Says}
use Rattle.shape.proofs.VerdictLaws.{says_yes, says_fixed}
use Rattle.shape.proofs.FlatLaws.{is_flat_law}
use Rattle.exact.proofs.GridLaws.{small_taken, small_dropped}
use Rattle.checks.specs.Answers.{refused, fine}
use Rattle.exact.specs.Grid.{limit, Ready}
use Rattle.checks.specs.Grid.{on_grid, lowest_off, all_on}
use Rattle.checks.specs.Rules.{right_length, all_on_grid, FlatShapes, refuses_flat, takes_flat, flat_checks}
use Rattle.checks.proofs.AnswerLaws.{never_fine}
use Rattle.checks.proofs.GridLaws.{Lowest, lowest, lowest_one, all_on_law, all_on_says, none_off, one_off, position_lowest}

-- ---- the length
pub data LengthCase (side want : ℕ) (l : List ℤ) : Type 0 where
  right : length l ≡ want → right_length side want l ≡ fine → LengthCase side want l
  wrong : (length l ≡ want → ⊥) → right_length side want l ≡ refused 3 side (length l) → LengthCase side want l

pub length_case : (side want : ℕ) (l : List ℤ) → LengthCase side want l
length_case side want l = by_test (eqb (length l) want) refl
  where
    by_test : (t : Bool) → eqb (length l) want ≡ t → LengthCase side want l
    by_test true e = right (eqb-true (length l) want e) (ap (λ (t : Bool). cond t fine (refused 3 side (length l))) e)
    by_test false e = wrong (eqb-false (length l) want e) (ap (λ (t : Bool). cond t fine (refused 3 side (length l))) e)

-- The check is fine only where the length is the one wanted.
pub fine_long : (side want : ℕ) (l : List ℤ) → right_length side want l ≡ fine → length l ≡ want
fine_long side want l e = by_case (length_case side want l)
  where
    by_case : LengthCase side want l → length l ≡ want
    by_case (right h g) = h
    by_case (wrong h g) = absurd (never_fine e g)

pub long_fine : (side want : ℕ) (l : List ℤ) → length l ≡ want → right_length side want l ≡ fine
long_fine side want l long = by_case (length_case side want l)
  where
    by_case : LengthCase side want l → right_length side want l ≡ fine
    by_case (right h g) = g
    by_case (wrong h g) = absurd (h long)

pub not_long_refused : (side want : ℕ) (l : List ℤ) → (length l ≡ want → ⊥) → right_length side want l ≡ refused 3 side (length l)
not_long_refused side want l not-long = by_case (length_case side want l)
  where
    by_case : LengthCase side want l → right_length side want l ≡ refused 3 side (length l)
    by_case (right h g) = absurd (not-long h)
    by_case (wrong h g) = g

-- ---- the grid
-- Every number of the list is on the grid (past the end stands 0).
abbrev pub OnGrid : List ℤ → Type 0
OnGrid l = (i : ℕ) → nat_abs (get_or l i (pos 0)) ≤ limit

-- So is every number of a part of such a list.
pub on_take : (n : ℕ) (l : List ℤ) → OnGrid l → OnGrid (take n l)
on_take = small_taken limit

pub on_drop : (n : ℕ) (l : List ℤ) → OnGrid l → OnGrid (drop n l)
on_drop = small_dropped limit

-- Both ways from the test that code makes of all numbers.
pub on_all : (l : List ℤ) → OnGrid l → all_on l ≡ true
on_all l h = says_fixed (all_on_says l) (says_yes (λ k i. le-leb (nat_abs (get_or l k (pos 0))) limit (h k)))

pub all_on_grid_law : (l : List ℤ) → all_on l ≡ true → OnGrid l
all_on_grid_law l on = all_on_law l (ltb-false (lowest_off l) (length l) (none_off l on))

pub data GridCase (side : ℕ) (l : List ℤ) : Type 0 where
  all : OnGrid l → all_on_grid side l ≡ fine → GridCase side l
  not_all : Lowest l (lowest_off l) → all_on_grid side l ≡ refused 1 side (lowest_off l) → GridCase side l

pub grid_case : (side : ℕ) (l : List ℤ) → GridCase side l
grid_case side l = by_test (ltb (lowest_off l) (length l)) refl
  where
    by_test : (t : Bool) → ltb (lowest_off l) (length l) ≡ t → GridCase side l
    by_test true e = not_all (lowest l (ltb-true (lowest_off l) (length l) e)) (ap (λ (t : Bool). cond t (refused 1 side (lowest_off l)) fine) e)
    by_test false e = all (all_on_law l (ltb-false (lowest_off l) (length l) e)) (ap (λ (t : Bool). cond t (refused 1 side (lowest_off l)) fine) e)

-- By the test of all numbers at once.
pub all_on_fine : (side : ℕ) (l : List ℤ) → all_on l ≡ true → all_on_grid side l ≡ fine
all_on_fine side l e = ap (λ (t : Bool). cond t (refused 1 side (lowest_off l)) fine) (none_off l e)

pub not_all_refused : (side : ℕ) (l : List ℤ) → all_on l ≡ false → all_on_grid side l ≡ refused 1 side (lowest_off l)
not_all_refused side l e = ap (λ (t : Bool). cond t (refused 1 side (lowest_off l)) fine) (one_off l e)

-- By the lowest place that the library finds.
module _ (side : ℕ) (l : List ℤ) where
  by_position : all_on_grid side l ≡ cond (ltb (position_or_len (λ z. not (on_grid z)) l) (length l)) (refused 1 side (position_or_len (λ z. not (on_grid z)) l)) fine
  by_position = ap (λ (n : ℕ). cond (ltb n (length l)) (refused 1 side n) fine) (sym (position_lowest l))

  pub found_off : (k : ℕ) → position (λ z. not (on_grid z)) l ≡ Some k → refused 1 side k ≡ all_on_grid side l
  found_off k e = by_test (ltb (position_or_len (λ z. not (on_grid z)) l) (length l)) e by_position
    where
      by_test : (t : Bool) → cond t (Some (position_or_len (λ z. not (on_grid z)) l)) None ≡ Some k →
          all_on_grid side l ≡ cond t (refused 1 side (position_or_len (λ z. not (on_grid z)) l)) fine → refused 1 side k ≡ all_on_grid side l
      by_test true f g = let same : position_or_len (λ z. not (on_grid z)) l ≡ k = cc in sym (g ∙ ap (refused 1 side) same)
      by_test false f g = absurd (search rules)

  pub none_found : position (λ z. not (on_grid z)) l ≡ None → fine ≡ all_on_grid side l
  none_found e = by_test (ltb (position_or_len (λ z. not (on_grid z)) l) (length l)) e by_position
    where
      by_test : (t : Bool) → cond t (Some (position_or_len (λ z. not (on_grid z)) l)) None ≡ None →
          all_on_grid side l ≡ cond t (refused 1 side (position_or_len (λ z. not (on_grid z)) l)) fine → fine ≡ all_on_grid side l
      by_test true f g = absurd (search rules)
      by_test false f g = sym g

-- A list of the wanted length that the check passes is ready.
pub fine_ready : {want : ℕ} (side : ℕ) (l : List ℤ) → length l ≡ want → all_on_grid side l ≡ fine → Ready want l
fine_ready {want} side l long e = by_case (grid_case side l)
  where
    by_case : GridCase side l → Ready want l
    by_case (all on g) = record { long = long; each = on }
    by_case (not_all low g) = absurd (never_fine e g)

pub on_fine : (side : ℕ) (l : List ℤ) → OnGrid l → all_on_grid side l ≡ fine
on_fine side l on = by_case (grid_case side l)
  where
    by_case : GridCase side l → all_on_grid side l ≡ fine
    by_case (all h g) = g
    by_case (not_all low g) = absurd (omega (arith, low.off, on (lowest_off l)))

pub off_refused : (side place : ℕ) (l : List ℤ) → Lowest l place → all_on_grid side l ≡ refused 1 side place
off_refused side place l low = by_case (grid_case side l)
  where
    by_case : GridCase side l → all_on_grid side l ≡ refused 1 side place
    by_case (all on g) = absurd (omega (arith, low.off, on place))
    by_case (not_all h g) = g ∙ ap (refused 1 side) (lowest_one h low)

-- ---- flat shapes
-- The shape is refused as flat: it is flat, and the call refuses flat shapes.
abbrev pub RefusedAsFlat : FlatShapes → ℕ → Shape → Type 0
RefusedAsFlat refuses_flat n P = Flat n P
RefusedAsFlat takes_flat n P = ⊥

pub data FlatCase (flats : FlatShapes) (n side : ℕ) (P : Shape) : Type 0 where
  flat : RefusedAsFlat flats n P → flat_checks flats n side P ≡ refused 2 side 0 → FlatCase flats n side P
  never_flat : (RefusedAsFlat flats n P → ⊥) → flat_checks flats n side P ≡ fine → FlatCase flats n side P

pub flat_case : (flats : FlatShapes) (n side : ℕ) (P : Shape) → FlatCase flats n side P
flat_case takes_flat n side P = never_flat (λ h. h) refl
flat_case refuses_flat n side P = by_test (is_flat n P) (is_flat_law n P) refl
  where
    by_test : (t : Bool) → Says t (Flat n P) → is_flat n P ≡ t → FlatCase refuses_flat n side P
    by_test true s e = flat (s.yes refl) (ap (λ (t : Bool). cond t (refused 2 side 0) fine) e)
    by_test false s e = never_flat (s.no refl) (ap (λ (t : Bool). cond t (refused 2 side 0) fine) e)

pub fine_not_flat : (flats : FlatShapes) (n side : ℕ) (P : Shape) → flat_checks flats n side P ≡ fine → RefusedAsFlat flats n P → ⊥
fine_not_flat flats n side P e = by_case (flat_case flats n side P)
  where
    by_case : FlatCase flats n side P → RefusedAsFlat flats n P → ⊥
    by_case (flat h g) = absurd (never_fine e g)
    by_case (never_flat h g) = h

pub not_flat_fine : (flats : FlatShapes) (n side : ℕ) (P : Shape) → (RefusedAsFlat flats n P → ⊥) → flat_checks flats n side P ≡ fine
not_flat_fine flats n side P h = by_case (flat_case flats n side P)
  where
    by_case : FlatCase flats n side P → flat_checks flats n side P ≡ fine
    by_case (flat f g) = absurd (h f)
    by_case (never_flat f g) = g

pub flat_refused : (flats : FlatShapes) (n side : ℕ) (P : Shape) → RefusedAsFlat flats n P → flat_checks flats n side P ≡ refused 2 side 0
flat_refused flats n side P h = by_case (flat_case flats n side P)
  where
    by_case : FlatCase flats n side P → flat_checks flats n side P ≡ refused 2 side 0
    by_case (flat f g) = g
    by_case (never_flat f g) = absurd (f h)
