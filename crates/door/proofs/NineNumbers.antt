-- What the pair call tells of two lists of nine numbers: 101 in one number where one is off the grid, and else the verdict. Assumes nothing.
use mathlib.Core.Path.{◌≡◌, refl, sym, ap, ◌∙◌, subst}
use mathlib.Core.Bool.{Bool, true, false}
use mathlib.Core.List.{List}
use mathlib.Core.Logic.{◌⊎◌, inl, inr}
use Prim.Native.Nat.{ℕ}
use lib.IntN.{ℤ}
use lib.ListN.{length}
use Rattle.exact.specs.Grid.{Ready}
use Rattle.kernel.specs.Meeting.{Judges}
use Rattle.checks.specs.Answers.{Answer, served, refused, Check, fine, ◌then◌}
use Rattle.checks.specs.Grid.{lowest_off, all_on}
use Rattle.checks.specs.Rules.{takes_flat, all_on_grid, pair_checks}
use Rattle.checks.proofs.GridLaws.{SomeOff, lowest_some}
use Rattle.checks.proofs.CheckLaws.{OnGrid, GridCase, all, not_all, grid_case, long_fine, all_on_fine, not_all_refused}
use Rattle.checks.proofs.AnswerLaws.{never_fine}
use Rattle.checks.proofs.Passing.{both_passed}
use Rattle.predicate.specs.Rules.{VerdictRule}
use Rattle.telling.specs.Numbers.{verdict_code}
use Rattle.door.specs.Doors.{VerdictTold}

-- What is told of two lists is told of equal ones.
pub told_alike : {first first' second second' : List ℤ} {r : ℕ} → first ≡ first' → second ≡ second' →
    VerdictTold first second r → VerdictTold first' second' r
told_alike {first'} {second} {r} e f told =
    subst (λ (l : List ℤ). VerdictTold first' l r) f (subst (λ (l : List ℤ). VerdictTold l second r) e told)

module _ (first second : List ℤ) (nine : length first ≡ 9) (nine' : length second ≡ 9) where
  abbrev checks : Check
  checks = pair_checks takes_flat 3 3 3 first second

  -- The four checks, and what they find together: the lengths are right, and so the grid decides.
  abbrev together : (c d e f : Check) → Check
  together c d e f = c then d then (e then fine) then (f then fine)

  by_grid : {e f : Check} → all_on_grid 0 first ≡ e → all_on_grid 1 second ≡ f → checks ≡ together fine fine e f
  by_grid p q =
      let d = long_fine 0 9 first nine in
      let d' = long_fine 1 9 second nine' in
      (λ i. together (d i) (d' i) (p i) (q i))

  -- ---- from what the code finds to what is told
  refused_told : {side place : ℕ} → checks ≡ refused 1 side place → VerdictTold first second 101
  refused_told {side} {place} e =
      record {
        told = refused 1 side place;
        right = record {
          verdict = false;
          told = sym (ap (λ (c : Check). c then served false) e);
          right = λ g. absurd (never_fine g e);
        };
        tells = refl;
      }

  pub first_off : all_on first ≡ false → VerdictTold first second 101
  first_off e = refused_told (by_grid (not_all_refused 0 first e) refl)

  pub second_off : all_on first ≡ true → all_on second ≡ false → VerdictTold first second 101
  second_off e f = refused_told (by_grid (all_on_fine 0 first e) (not_all_refused 1 second f))

  both_fine : all_on first ≡ true → all_on second ≡ true → fine ≡ checks
  both_fine e f = sym (by_grid (all_on_fine 0 first e) (all_on_fine 1 second f))

  pub both_ready : all_on first ≡ true → all_on second ≡ true → Ready 9 first × Ready 9 second
  both_ready e f = both_passed takes_flat 3 3 3 first second (sym (both_fine e f))

  pub both_on : all_on first ≡ true → all_on second ≡ true → (v : Bool) → Judges 3 3 3 first second v → VerdictTold first second (verdict_code v)
  both_on e f v says = record {
    told = served v;
    right = record { verdict = v; told = ap (λ (c : Check). c then served v) (both_fine e f); right = λ g. says };
    tells = refl;
  }

  -- ---- from what is told to what is so
  pub data Found (told : Answer Bool) : Type 0 where
    off : (side place : ℕ) → SomeOff first ⊎ SomeOff second → told ≡ refused 1 side place → Found told
    on : OnGrid first → OnGrid second → (v : Bool) → Judges 3 3 3 first second v → told ≡ served v → Found told

  pub found : {told : Answer Bool} → VerdictRule takes_flat 3 3 3 first second told → Found told
  found {told} rule = by_case (grid_case 0 first) (grid_case 1 second)
    where
      tells : {c : Check} → checks ≡ c → told ≡ (c then served rule.verdict)
      tells e = rule.told ∙ ap (λ (c : Check). c then served rule.verdict) e

      by_case : GridCase 0 first → GridCase 1 second → Found told
      by_case (not_all low e) g = off 0 (lowest_off first) (inl (lowest_some low)) (tells (by_grid e refl))
      by_case (all h e) (not_all low f) = off 1 (lowest_off second) (inr (lowest_some low)) (tells (by_grid e f))
      by_case (all h e) (all h' f) = on h h' rule.verdict (rule.right (by_grid e f)) (tells (by_grid e f))
