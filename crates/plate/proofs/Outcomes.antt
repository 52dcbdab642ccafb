-- From what a plate shows to what its calls promise: the history that it stands for, and the outcome of each call. Assumes nothing.
use mathlib.Core.Path.{◌≡◌, refl, sym, ap, subst, ◌∙◌}
use mathlib.Core.List.{List, [], ◌∷◌, ◌++◌}
use Prim.Native.Nat.{ℕ, zero, suc, min, ◌-◌}
use native.Mathlib.Omega.{arith}
use lib.Dec.{eqb-suc-zero}
use lib.ListN.{get_or, take, drop}
use Rattle.checks.specs.Answers.{Answer, served, refused, Check, fine, ◌then◌}
use Rattle.checks.specs.Told.{told_check}
use Rattle.checks.proofs.AnswerLaws.{never_fine}
use Rattle.slots.specs.Slots.{Clashes}
use Rattle.slots.specs.Changes.{Change, apply, replay}
use Rattle.slots.specs.Showing.{Fit}
use Rattle.slots.proofs.Clashing.{clashes_true, clashes_only}
use Rattle.keeping.specs.Journal.{blank, entry_of, journal_of}
use Rattle.keeping.specs.Steps.{Shows, Restored}
use Rattle.keeping.specs.declared.plates.Plate.{Plate}
use Rattle.keeping.specs.declared.journal.Entry.{Entry}
use Rattle.keeping.proofs.Past.{journal_push, journal_top, journal_pop}
use Rattle.reasons.specs.Findings.{undo_found}
use Rattle.reasons.specs.Rules.{change_checks}
use Rattle.plate.specs.Histories.{History, slots_of, Call, change, undo, made, taken_back, outcome, run}
use Rattle.plate.specs.Plates.{Stands, Answered}
use Rattle.plate.specs.declared.calls.PlateAnswer.{PlateAnswer}
use Rattle.plate.proofs.Fits.{Sound, sound}

-- ---- a plate that stands for a history shows its slots
shows : (h : History) (p : Plate) → Fit (slots_of h) → Stands h p → Shows (slots_of h) (journal_of 32 h.past h.reach) h.reach p
shows h p fit s = record {
  slots = record { fit = fit; coords_are = s.coords; parts_are = s.parts };
  journal = s.journal;
  reach = s.reach;
  count = clashes_only (slots_of h) s.count;
}

pub shown : (before : List Call) {p : Plate} → Stands (run before) p →
    Shows (slots_of (run before)) (journal_of 32 (run before).past (run before).reach) (run before).reach p
shown before {p} s = shows (run before) p ((sound before).fits 0) s

standing : (h : History) (p : Plate) → Shows (slots_of h) (journal_of 32 h.past h.reach) h.reach p → Stands h p
standing h p s = record {
  coords = s.slots.coords_are;
  parts = s.slots.parts_are;
  count = subst (λ (n : ℕ). Clashes (slots_of h) n) (sym s.count) (clashes_true (slots_of h));
  reach = s.reach;
  journal = s.journal;
}

-- ---- a call refused, and a change made
pub refusal : {o : Answer History} {p : Plate} (r : PlateAnswer) {n s k : ℕ} → o ≡ refused n s k → told_check r.told ≡ refused n s k →
    r.plate ≡ p → Answered o p r
refusal {p} r e told same = subst (λ (o : Answer History). Answered o p r) (sym e) (told, same)

pub change_outcome : (h : History) (c : Change) {found : Check} → change_checks (slots_of h) c ≡ found →
    outcome h (change c) ≡ (found then served (made h c))
unfolding outcome
change_outcome h c e = ap (λ (found : Check). found then served (made h c)) e

pub change_refused : (h : History) (c : Change) {p : Plate} (r : PlateAnswer) {n s k : ℕ} → change_checks (slots_of h) c ≡ refused n s k →
    told_check r.told ≡ refused n s k → r.plate ≡ p → Answered (outcome h (change c)) p r
change_refused h c r e told same = refusal r (change_outcome h c e) told same

made_stands : (h : History) (c : Change) (p : Plate) →
    Shows (apply (slots_of h) c) (entry_of (slots_of h) c ∷ take 31 (journal_of 32 h.past h.reach)) (min 32 (suc h.reach)) p →
    Stands (made h c) p
unfolding replay
made_stands h c p s =
    standing (made h c) p
    (record { slots = s.slots; journal = s.journal ∙ journal_push 31 c h.past h.reach; reach = s.reach; count = s.count })

pub change_made : (h : History) (c : Change) (p : Plate) (r : PlateAnswer) → change_checks (slots_of h) c ≡ fine → told_check r.told ≡ fine →
    Shows (apply (slots_of h) c) (entry_of (slots_of h) c ∷ take 31 (journal_of 32 h.past h.reach)) (min 32 (suc h.reach)) r.plate →
    Answered (outcome h (change c)) p r
change_made h c p r e told s =
    subst (λ (o : Answer History). Answered o p r) (sym (change_outcome h c e)) (told, made_stands h c r.plate s)

-- ---- undo
-- The outcome of an undo, by what its check finds.
by_check : (past : List Change) (k : ℕ) → taken_back past k ≡ (undo_found k then served (record { past = drop 1 past; reach = k - 1 }))
by_check past zero = refl
by_check past (suc k) =
    let e : k ≡ suc k - 1 = omega arith in
    let none : fine ≡ undo_found (suc k) = rw (eqb-suc-zero k) in
    (λ i. none i then served (record { past = drop 1 past; reach = e i }))

pub undo_outcome : (h : History) {found : Check} → undo_found h.reach ≡ found →
    outcome h undo ≡ (found then served (record { past = drop 1 h.past; reach = h.reach - 1 }))
unfolding outcome
undo_outcome h e =
    by_check h.past h.reach ∙ ap (λ (found : Check). found then served (record { past = drop 1 h.past; reach = h.reach - 1 })) e

-- Where it finds nothing there is a change to take back.
pub undo_ahead : (k : ℕ) → undo_found k ≡ fine → k ≡ 0 → ⊥
undo_ahead k e none = never_fine e (ap undo_found none)

-- The plate with its journal's latest entry taken out.
abbrev popped : Plate → List Entry → Plate
popped p j = record { slots = p.slots; journal = j; reach = p.reach - 1; count = p.count }

-- What that entry keeps, put back, gives the history before its latest change. (Past the journal's end stands z, whatever it is.)
undone : (z : Entry) (past : List Change) (n : ℕ) (p : Plate) (j : List Entry) (r : PlateAnswer) →
    Sound (record { past = past; reach = n }) → Stands (record { past = past; reach = n }) p → (n ≡ 0 → ⊥) →
    j ≡ drop 1 p.journal ++ (blank ∷ []) → Restored (popped p j) (get_or p.journal 0 z) r.plate →
    told_check r.told ≡ fine → Answered (taken_back past n) p r
unfolding replay
undone z past zero p j r sd st ahead e back told = absurd (ahead refl)
undone z [] (suc k) p j r sd st ahead e back told = absurd (omega (arith, sd.within))
undone z (c ∷ past) (suc k) p j r sd st ahead e back told =
    let before = shows (record { past = c ∷ past; reach = suc k }) p (sd.fits 0) st in
    let latest = ap (λ (l : List Entry). get_or l 0 z) st.journal ∙ journal_top z 31 c past k in
    let rest = ap (λ (l : List Entry). drop 1 l ++ (blank ∷ [])) st.journal ∙ journal_pop 31 c past k (omega (arith, sd.near)) in
    let now : Shows (replay (c ∷ past)) (journal_of 32 past k) k (popped p j) =
    record { slots = before.slots; journal = e ∙ rest; reach = omega (arith, st.reach); count = before.count } in
    (told, standing (record { past = past; reach = k }) r.plate (back.is (replay past) c (sd.fits 1) latest now))

pub undo_made : (z : Entry) (before : List Call) (p : Plate) (j : List Entry) (r : PlateAnswer) → Stands (run before) p → (p.reach ≡ 0 → ⊥) →
    j ≡ drop 1 p.journal ++ (blank ∷ []) → Restored (popped p j) (get_or p.journal 0 z) r.plate →
    told_check r.told ≡ fine → Answered (outcome (run before) undo) p r
unfolding outcome
undo_made z before p j r st ahead e back told =
    undone z (run before).past (run before).reach p j r (sound before) st (λ none. ahead (st.reach ∙ none)) e back told
