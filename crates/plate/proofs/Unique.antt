-- No second answer meets a promise on a plate that stands for the history of some calls: what a history leads to fixes the plate, and so the
-- promises fix what is told and the plate afterwards. (Every plate that calls made stands for their history: `demand_3`.) Assumes nothing.
use mathlib.Core.Path.{◌≡◌, sym, ap, ◌∙◌}
use mathlib.Core.Bool.{Bool}
use mathlib.Core.List.{List}
use Prim.Native.Nat.{ℕ}
use Rattle.std.specs.Prelude.{Result}
use Rattle.shape.proofs.VerdictLaws.{says_fixed}
use Rattle.checks.specs.Answers.{Answer, served, refused, ◌then◌}
use Rattle.checks.specs.Told.{told_check}
use Rattle.checks.specs.declared.answer.Refusal.{Refusal}
use Rattle.checks.proofs.ReadBack.{check_back, check_back_law}
use Rattle.predicate.specs.Told.{told_verdict}
use Rattle.predicate.specs.declared.answer.Verdict.{Verdict}
use Rattle.predicate.proofs.Unique.{verdict_told}
use Rattle.slots.specs.Slots.{Slot}
use Rattle.slots.proofs.Clashing.{clashes_unique}
use Rattle.keeping.specs.declared.plates.Plate.{Plate}
use Rattle.reasons.specs.Rules.{parts_checks}
use Rattle.plate.specs.Histories.{History, Call, outcome, run}
use Rattle.plate.specs.Plates.{Stands, Answered, Promise, CountPromise, present_answer, PartsRule, PartsPromise}
use Rattle.plate.specs.declared.calls.PlateAnswer.{PlateAnswer}

-- One plate stands for a history.
pub stands_unique : {h : History} {p p' : Plate} → Stands h p → Stands h p' → p ≡ p'
stands_unique s t =
    let coords = s.coords ∙ sym t.coords in
    let parts = s.parts ∙ sym t.parts in
    let journal = s.journal ∙ sym t.journal in
    let reach = s.reach ∙ sym t.reach in
    let count = clashes_unique s.count t.count in
    λ i. record { slots = record { coords = coords i; marks = parts i }; journal = journal i; reach = reach i; count = count i }

-- Place, lift, shift and undo: what is told, and the plate afterwards.
pub promise_unique : (before : List Call) {p : Plate} {c : Call} (r r' : PlateAnswer) → Stands (run before) p → Promise p c r → Promise p c r' →
    (told_check r.told ≡ told_check r'.told) × (r.plate ≡ r'.plate)
promise_unique before {p} {c} r r' s k k' = by_outcome (outcome (run before) c) (k.kept before s) (k'.kept before s)
  where
    by_outcome : (o : Answer History) → Answered o p r → Answered o p r' → (told_check r.told ≡ told_check r'.told) × (r.plate ≡ r'.plate)
    by_outcome (served h) a b = (a.0 ∙ sym b.0, stands_unique a.1 b.1)
    by_outcome (refused number side spot) a b = (a.0 ∙ sym b.0, a.1 ∙ sym b.1)

-- What is told fixes the two answers, so that they are one.
pub answer_unique : (before : List Call) {p : Plate} {c : Call} (r r' : PlateAnswer) → Stands (run before) p → Promise p c r → Promise p c r' → r ≡ r'
answer_unique before r r' s k k' =
    let same = promise_unique before r r' s k k' in
    let told = sym (check_back_law r.told) ∙ ap check_back same.0 ∙ check_back_law r'.told in
    λ i. record { plate = same.1 i; told = told i }

-- Parts: on the same slots the question has one right answer, and so it has on a plate that stands for a history.
pub parts_rule_unique : {S : List Slot} {p q : ℕ} {a b : Answer Bool} → PartsRule S p q a → PartsRule S p q b → a ≡ b
parts_rule_unique {S} {p} {q} x y =
    x.told
    ∙ (λ i. parts_checks S p q then present_answer S p q (says_fixed x.skins_right y.skins_right i) (says_fixed x.inside_right y.inside_right i))
    ∙ sym y.told

pub parts_unique : (before : List Call) {plate : Plate} {p q : ℕ} (r r' : Result Verdict Refusal) → Stands (run before) plate →
    PartsPromise plate p q (told_verdict r) → PartsPromise plate p q (told_verdict r') → r ≡ r'
parts_unique before r r' s k k' = verdict_told r r' (parts_rule_unique (k.kept before s) (k'.kept before s))

-- Count: it is read off the plate, whatever the plate is.
pub count_unique : {plate : Plate} {m n : ℕ} → CountPromise plate m → CountPromise plate n → m ≡ n
count_unique k k' = k.read ∙ sym k'.read
