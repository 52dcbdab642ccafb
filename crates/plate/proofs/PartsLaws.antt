-- What the parts call promises, one law for each way out of its code: the marks of a plate tell which parts are present, and what code finds of two that
-- are is what their skins, their shells and their corners say. Assumes nothing.
use mathlib.Core.Path.{◌≡◌, refl, ap, ◌∙◌}
use mathlib.Core.Bool.{Bool, true, false, not, cond}
use mathlib.Core.List.{List}
use Prim.Native.Nat.{ℕ, suc, ◌*◌, ◌/◌, ◌≤◌}
use native.Mathlib.Omega.{arith}
use lib.IntN.{ℤ}
use lib.ListN.{length, take}
use Rattle.shape.specs.Verdicts.{Says}
use Rattle.shape.specs.Points.{Shape}
use Rattle.shape.specs.Shells.{is_closed}
use Rattle.shape.specs.TriangleLists.{triangles_in}
use Rattle.shape.proofs.TriangleLists.{front_triangles}
use Rattle.shape.proofs.VerdictLaws.{says_either}
use Rattle.exact.specs.Grid.{limit}
use Rattle.exact.specs.Sizes.{OnGrid}
use Rattle.exact.proofs.GridLaws.{small_taken}
use Rattle.checks.specs.Answers.{Answer, served, refused, Check, fine, ◌then◌}
use Rattle.slots.specs.Slots.{Slot}
use Rattle.slots.specs.Parts.{triangles_of, EitherInside}
use Rattle.slots.specs.Counting.{marks_strike}
use Rattle.slots.specs.Showing.{Shown, Gathered}
use Rattle.slots.proofs.Clashing.{skins_say}
use Rattle.slots.proofs.Swallowed.{corner_says}
use Rattle.keeping.specs.declared.plates.Plate.{Plate}
use Rattle.reasons.specs.Rules.{part_within, part_present, shell_closed, parts_checks, shell_checks}
use Rattle.plate.specs.Histories.{slots_of, run}
use Rattle.plate.specs.Plates.{present_answer, PartsRule, PartsPromise}
use Rattle.plate.specs.Deciding.{either_in}
use Rattle.plate.proofs.Outcomes.{shown}

-- ---- the rule of two parts
either_says : (S : List Slot) (p q : ℕ) → Says (either_in S p q) (EitherInside S p q)
either_says S p q = says_either (corner_says S p q) (corner_says S q p)

-- What two parts are answered, by the decisions.
abbrev pub decided : List Slot → ℕ → ℕ → Answer Bool
decided S p q = present_answer S p q (marks_strike (suc p) (suc q) S) (either_in S p q)

module _ (S : List Slot) (p q : ℕ) {told : Answer Bool} where
  by_decision : told ≡ (parts_checks S p q then decided S p q) → PartsRule S p q told
  by_decision e = record {
    skins = marks_strike (suc p) (suc q) S;
    inside = either_in S p q;
    skins_right = skins_say S p q;
    inside_right = either_says S p q;
    told = e;
  }

  -- By what each check finds, those that are made and those that aren't.
  pub by_checks : {a b c d : Check} → a ≡ part_within 0 p → b ≡ part_within 1 q → c ≡ part_present 0 S p → d ≡ part_present 1 S q →
      told ≡ ((a then b then c then d) then decided S p q) → PartsRule S p q told
  by_checks e f g h t = by_decision (t ∙ (λ i. (e i then f i then g i then h i) then decided S p q))

-- ---- two parts whose skins don't meet
-- A shell that is found to be open or not.
pub shell_found : (side : ℕ) (S : List Slot) (r : ℕ) {Rs : List Shape} {open_ : Bool} {told : Check} → Rs ≡ triangles_of r S → open_ ≡ not (is_closed Rs) →
    told ≡ cond open_ (refused 16 side r) fine → told ≡ shell_closed side S r
shell_found side S r {Rs} is e t = t ∙ ap (λ (b : Bool). cond b (refused 16 side r) fine) e ∙ turned (is_closed Rs) ∙ ap (λ (T : List Shape). cond (is_closed T) fine (refused 16 side r)) is
  where
    turned : (b : Bool) → cond (not b) (refused 16 side r) fine ≡ cond b fine (refused 16 side r)
    turned true = refl
    turned false = refl

-- The triangles of a part as code has gathered them, and the front of the list that has them and no others.
module _ {coords : List ℤ} {marks : List ℕ} {mark many : ℕ} {l : List ℤ} (g : Gathered coords marks mark l many) where
  enough : 9 * many ≤ length l
  enough = omega (arith, g.most, g.ready.long)

  pub front_gathered : (S : List Slot) (q : ℕ) → Shown S coords marks → mark ≡ suc q → triangles_in (length (take (9 * many) l) / 9) (take (9 * many) l) ≡ triangles_of q S
  front_gathered S q h e = front_triangles many l enough ∙ g.is S q h e

  pub front_on_grid : OnGrid (take (9 * many) l)
  front_on_grid = record { each = small_taken limit (9 * many) l g.ready.each }

-- By what each check of the shells finds.
pub by_shells : (S : List Slot) (p q : ℕ) {told : Answer Bool} {a b : Check} → a ≡ shell_closed 0 S p → b ≡ shell_closed 1 S q →
    told ≡ ((a then b) then served (either_in S p q)) → told ≡ (shell_checks S p q then served (either_in S p q))
by_shells S p q e f t = t ∙ (λ i. (e i then f i) then served (either_in S p q))

-- ---- the promise
-- Whatever calls made the plate, it shows their slots.
pub promised : (plate : Plate) (p q : ℕ) {told : Answer Bool} →
    ((S : List Slot) → Shown S plate.slots.coords plate.slots.marks → PartsRule S p q told) → PartsPromise plate p q told
promised plate p q rule = record { kept = λ before s. rule (slots_of (run before)) (shown before s).slots }
