-- Demand 3, from the promises alone: whatever calls made a plate, it stands for their history. Its slots are the replay, from empty, of the
-- accepted changes that were not taken back, its count is the number of clashing pairs there, and its reach is the history's. And what
-- follows for the useless plates that document 01 lists, and for its story of 40 changes. Assumes nothing.
use mathlib.Core.Path.{◌≡◌, refl, sym, ap, subst, ◌∙◌}
use mathlib.Core.Bool.{cond}
use mathlib.Core.List.{List, [], ◌∷◌, ◌++◌, map}
use Prim.Native.Nat.{ℕ, zero, suc, min, ◌-◌, ◌<◌, ◌≤◌}
use native.Mathlib.Numerals.{add-one}
use native.Mathlib.Omega.{arith}
use lib.IntN.{ℤ}
use lib.ListN.{length, get_or, drop, set, replicate, length-drop, get_or-map}
use lib.Seq.{drop-drop, get_or-set_same}
use Rattle.checks.specs.Answers.{Answer, served, refused, fine}
use Rattle.checks.specs.Told.{told_check}
use Rattle.checks.proofs.AnswerLaws.{never_fine}
use Rattle.slots.specs.Slots.{Slot, free, held, is_free, Clashes}
use Rattle.slots.specs.Changes.{Change, place, apply, replay}
use Rattle.slots.specs.Arrays.{mark_of, flat}
use Rattle.keeping.specs.declared.plates.Plate.{Plate}
use Rattle.keeping.proofs.Past.{long}
use Rattle.reasons.specs.Rules.{change_checks}
use Rattle.plate.specs.Histories.{History, slots_of, Call, change, undo, made, taken_back, outcome, next, run}
use Rattle.plate.specs.Plates.{Stands, Answered, Promise, MadeBy, fresh, after}
use Rattle.plate.specs.declared.calls.PlateAnswer.{PlateAnswer}
use Rattle.reasons.proofs.Placing.{place_passes, slot_is_within}
use Rattle.plate.proofs.Outcomes.{change_outcome}

-- ---- demand 3
-- A promised answer to a call, from a plate that stands for a history, stands for the history after the call.
stands_next : {h : History} {p : Plate} (r : PlateAnswer) (o : Answer History) → Stands h p → Answered o p r → Stands (next h o) r.plate
stands_next r (served h') s a = a.1
stands_next {h} r (refused number side spot) s a = subst (Stands h) (sym a.1) s

pub demand_3 : {calls : List Call} {p : Plate} → MadeBy calls p → Stands (run calls) p
unfolding run
demand_3 (fresh s) = s
demand_3 (after {before} {c} {r} m k) = let s = demand_3 m in stands_next r (outcome (run before) c) s (k.kept before s)

-- The slots, as the two arrays show them, are the replay of the changes that stand. (proofs/Faithful.antt: the arrays tell the slots.)
pub demand_3_slots : {calls : List Call} {p : Plate} → MadeBy calls p →
    (p.slots.coords ≡ flat (replay (run calls).past)) × (p.slots.marks ≡ map mark_of (replay (run calls).past))
demand_3_slots m = let s = demand_3 m in (s.coords, s.parts)

-- The count is the number of clashing pairs among them.
pub demand_3_count : {calls : List Call} {p : Plate} → MadeBy calls p → Clashes (replay (run calls).past) p.count
demand_3_count m = (demand_3 m).count

-- The reach is how many changes undo can take back.
pub demand_3_reach : {calls : List Call} {p : Plate} → MadeBy calls p → p.reach ≡ (run calls).reach
demand_3_reach m = (demand_3 m).reach

-- ---- accepted changes
-- An accepted change is told as such, and then it is the latest that stands.
pub change_made : (before : List Call) {p : Plate} {c : Change} {r : PlateAnswer} → Stands (run before) p → Promise p (change c) r →
    change_checks (slots_of (run before)) c ≡ fine → (told_check r.told ≡ fine) × Stands (made (run before) c) r.plate
change_made before {p} {c} {r} s k accepted =
    subst (λ (o : Answer History). Answered o p r) (change_outcome (run before) c accepted) (k.kept before s)

-- A place that was accepted: its slot is one of the 64, and was empty.
place_fine : (S : List Slot) (s q : ℕ) (numbers : List ℤ) → change_checks S (place s q numbers) ≡ fine →
    (s ≤ 63) × (mark_of (get_or S s free) ≡ 0)
place_fine S s q numbers e =
    let passes = place_passes S s q numbers e in
    (slot_is_within s q numbers passes.0, empty (get_or S s free) passes.1)
  where
    empty : (x : Slot) → cond (is_free x) fine (refused 8 0 s) ≡ fine → mark_of x ≡ 0
    empty free g = refl
    empty (held p n) g = absurd (never_fine g refl)

-- An accepted place appears: the slots are those before it, with the triangle in its slot.
module _ (before : List Call) {p : Plate} {s q : ℕ} {numbers : List ℤ} {r : PlateAnswer} (stands : Stands (run before) p)
    (k : Promise p (change (place s q numbers)) r) (accepted : change_checks (slots_of (run before)) (place s q numbers) ≡ fine) where
  pub place_appears :
      (r.plate.slots.coords ≡ flat (set (slots_of (run before)) s (held q numbers)))
      × (r.plate.slots.marks ≡ map mark_of (set (slots_of (run before)) s (held q numbers)))
  unfolding replay apply
  place_appears = let after = (change_made before stands k accepted).1 in (after.coords, after.parts)

  -- The mark of that slot was 0 and is not 0 after it. So a plate that does nothing keeps no promise.
  pub place_marks : (get_or p.slots.marks s 0 ≡ 0) × (get_or r.plate.slots.marks s 0 ≡ suc q)
  place_marks =
      let S = slots_of (run before) in
      let known = place_fine S s q numbers accepted in
      let inside : s < length S = omega (arith, known.0, long (run before).past) in (
        ap (λ (l : List ℕ). get_or l s 0) stands.parts ∙ get_or-map mark_of S s free ∙ known.1,
        ap (λ (l : List ℕ). get_or l s 0) place_appears.1 ∙ get_or-map mark_of (set S s (held q numbers)) s free
            ∙ ap mark_of (get_or-set_same S s (held q numbers) free inside),
      )

-- ---- changes and undos
-- Each change was accepted after those before it. (The latest stands first.)
abbrev pub Accepted : List Change → Type 0
Accepted [] = Unit {0}
Accepted (c ∷ past) = (change_checks (replay past) c ≡ fine) × Accepted past

-- Accepted changes all stand, and the reach is their number, 32 at most.
pub reach_after : (past : List Change) → Accepted past → run (map change past) ≡ record { past = past; reach = min 32 (length past) }
unfolding run
reach_after [] a = refl
reach_after (c ∷ past) a =
    let h : History = record { past = past; reach = min 32 (length past) } in
    let capped : min 32 (suc (min 32 (length past))) ≡ min 32 (suc (length past)) = omega arith in
    ap (λ (g : History). next g (outcome g (change c))) (reach_after past a.1) ∙ ap (next h) (change_outcome h c a.0)
    ∙ (λ i. record { past = c ∷ past; reach = capped i })

-- So many undos after these calls.
abbrev pub undone : ℕ → List Call → List Call
undone k calls = replicate k undo ++ calls

-- Undos within the reach take back the latest changes, one each.
pub undo_after : (k : ℕ) (calls : List Call) → k ≤ (run calls).reach →
    run (undone k calls) ≡ record { past = drop k (run calls).past; reach = (run calls).reach - k }
unfolding run outcome
undo_after zero calls h =
    let all : (run calls).reach ≡ (run calls).reach - 0 = omega arith in λ i. record { past = (run calls).past; reach = all i }
undo_after (suc k) calls h =
    let past = (run calls).past in
    let reach = (run calls).reach in
    let g : History = record { past = drop k past; reach = reach - k } in
    let within : reach - k ≡ suc (reach - suc k) = omega arith in
    let all : drop 1 (drop k past) ≡ drop (suc k) past = drop-drop 1 k past ∙ ap (λ (n : ℕ). drop n past) (add-one k) in
    ap (λ (f : History). next f (outcome f undo)) (undo_after k calls (omega arith)) ∙ (λ i. next g (taken_back (drop k past) (within i)))
    ∙ (λ i. record { past = all i; reach = reach - suc k })

-- At reach 0 an undo is refused.
pub undo_refused : (h : History) → h.reach ≡ 0 → outcome h undo ≡ refused 12 0 0
unfolding outcome
undo_refused h e = ap (taken_back h.past) e

-- Both together: accepted changes, and undos within their reach.
pub undos_leave : (k : ℕ) (past : List Change) → Accepted past → k ≤ min 32 (length past) →
    run (undone k (map change past)) ≡ record { past = drop k past; reach = min 32 (length past) - k }
undos_leave k past a h =
    let e = reach_after past a in
    undo_after k (map change past) (rw e h) ∙ (λ i. record { past = drop k (e i).past; reach = (e i).reach - k })

-- Two accepted changes and one undo leave the first: by demand 3 the slots are then the replay of it alone. So where the first is a place its
-- triangle still stands, and a plate that empties at the first undo keeps no promise.
pub first_stays : (c d : Change) → Accepted (d ∷ c ∷ []) → (run (undo ∷ change d ∷ change c ∷ [])).past ≡ c ∷ []
first_stays c d a = ap (λ (h : History). h.past) (undos_leave 1 (d ∷ c ∷ []) a (omega arith))

-- After 40 accepted changes the reach is 32. 32 undos take back as many, 8 changes stand then, and the next undo is refused.
pub record Forty (past : List Change) : Type 0 where
  pub reach : (run (map change past)).reach ≡ 32
  pub left : (run (undone 32 (map change past))).past ≡ drop 32 past
  pub eight : length (drop 32 past) ≡ 8
  pub refusal : outcome (run (undone 32 (map change past))) undo ≡ refused 12 0 0

pub forty : (past : List Change) → length past ≡ 40 → Accepted past → Forty past
forty past long a =
    let e = undos_leave 32 past a (omega arith) in record {
      reach = ap (λ (h : History). h.reach) (reach_after past a) ∙ omega arith;
      left = ap (λ (h : History). h.past) e;
      eight = length-drop 32 past ∙ omega arith;
      refusal = undo_refused (run (undone 32 (map change past))) (ap (λ (h : History). h.reach) e ∙ omega arith);
    }
