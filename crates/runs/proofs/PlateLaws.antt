-- A run of calls on a plate: what is answered to one call, and the run so far with one call more. Assumes nothing.
use mathlib.Core.Path.{◌≡◌, refl, sym, ap, ◌∙◌, subst}
use mathlib.Core.Bool.{Bool}
use mathlib.Core.List.{List, [], ◌∷◌}
use Prim.Native.Nat.{ℕ, ◌+◌, ◌-◌, ◌*◌, ◌<◌, ◌≤◌}
use native.Mathlib.Numerals.{add-one}
use native.Mathlib.Omega.{arith}
use borrow.Rule.Slice.PartMut.{put_mid, same_len_mid, drop_put}
use lib.IntN.{ℤ}
use lib.ListN.{length, get_or, take, drop}
use lib.Seq.{drop-drop}
use Rattle.algebra.proofs.Parts.{length_lent, parts_hold}
use Rattle.checks.specs.Answers.{Answer, served, refused, with_served}
use Rattle.checks.specs.Told.{told_check}
use Rattle.plate.specs.Histories.{History, Call, outcome, next, run}
use Rattle.plate.specs.Plates.{Stands, Answered, PartsPromise}
use Rattle.plate.specs.declared.calls.PlateAnswer.{PlateAnswer}
use Rattle.keeping.specs.declared.plates.Plate.{Plate}
use Rattle.telling.specs.Numbers.{verdict_code, without_value, four_numbers, listed}
use Rattle.telling.specs.declared.numbers.Numbers.{Numbers}
use Rattle.runs.specs.declared.calls.CallAnswer.{CallAnswer}
use Rattle.runs.specs.PlateRuns.{parts, unknown, ask_at, calls_before, history_before, Six, AskAnswered, room_for, PlateRun, six_of, CallKept, ChangeKept}

-- ---- one call
-- Six numbers, by the four of the answer and by the plate after it.
six_of_law : (told : Answer ℕ) (after : History) (r : CallAnswer) → listed r.numbers ≡ four_numbers told → Stands after r.plate →
    Six told after (six_of r.numbers r.plate.count r.plate.reach)
six_of_law told after r e st = record {
  count = r.plate.count;
  true_count = st.count;
  are = λ i. get_or (e i) 0 0 ∷ get_or (e i) 1 0 ∷ get_or (e i) 2 0 ∷ r.plate.count ∷ st.reach i ∷ get_or (e i) 3 0 ∷ [];
}

-- What is told of a change is its outcome, and the plate stands for the history after it.
change_told : {h : History} {plate : Plate} (o : Answer History) (answer : PlateAnswer) → Answered o plate answer → Stands h plate →
    (without_value (told_check answer.told) ≡ without_value o) × Stands (next h o) answer.plate
change_told {h} (refused n s k) answer (told, same) st = (ap without_value told, subst (Stands h) (sym same) st)
change_told (served after) answer (told, stands) st = (ap without_value told, stands)

-- So a change is answered by the numbers of what it told,
pub change_kept : (answer : PlateAnswer) (numbers : Numbers) → listed numbers ≡ four_numbers (without_value (told_check answer.told)) →
    ChangeKept answer (record { plate = answer.plate; numbers = numbers })
unfolding run
change_kept answer numbers e = record {
  kept = λ {plate} {c} kept.
      let told : (before : List Call) → Stands (run before) plate →
      (without_value (told_check answer.told) ≡ without_value (outcome (run before) c)) × Stands (next (run before) (outcome (run before) c)) answer.plate =
      λ before st. change_told (outcome (run before) c) answer (kept.kept before st) st in
      record {
        answered = λ before st.
            let o = outcome (run before) c in
            let t = told before st in
            six_of_law (without_value o) (next (run before) o) _ (e ∙ ap four_numbers t.0) t.1;
        stands = λ before st. (told before st).1;
      };
}

-- and the question by those of its verdict.
pub parts_kept : (plate : Plate) {p q : ℕ} (told : Answer Bool) (numbers : Numbers) → PartsPromise plate p q told →
    listed numbers ≡ four_numbers (with_served verdict_code told) → CallKept (parts p q) plate (record { plate = plate; numbers = numbers })
parts_kept plate told numbers kept e = record {
  answered = λ before st. record {
    told = told;
    right = kept.kept before st;
    written = six_of_law (with_served verdict_code told) (run before) _ e st;
  };
  stands = λ before st. st;
}

-- ---- the run so far
-- The first k calls are done, the plate stands for their history, and what lies behind their numbers is as it was.
pub record Begun (calls : List ℕ) (numbers : List ℤ) (before : List ℕ) (k : ℕ) (plate : Plate) (answers : List ℕ) : Type 0 where
  pub long : length answers ≡ length before
  pub stands : Stands (history_before calls numbers k) plate
  pub answered : (j : ℕ) → j < k → AskAnswered (history_before calls numbers j) (ask_at calls numbers j) (take 6 (drop (6 * j) answers))
  pub rest : drop (6 * k) answers ≡ drop (6 * k) before

-- The empty plate, before any call.
pub begun : (calls : List ℕ) (numbers : List ℤ) (answers : List ℕ) {plate : Plate} → Stands (run []) plate →
    Begun calls numbers answers 0 plate answers
unfolding calls_before
begun calls numbers answers st = record { long = refl; stands = st; answered = λ j h. absurd (omega arith); rest = refl }

-- One call more.
pub one_more : {calls : List ℕ} {numbers : List ℤ} {before : List ℕ} {k : ℕ} {plate : Plate} {answers six : List ℕ} (r : CallAnswer) →
    Begun calls numbers before k plate answers → 6 * k + 6 ≤ length answers → CallKept (ask_at calls numbers k) plate r →
    six ≡ six_of r.numbers r.plate.count r.plate.reach →
    Begun calls numbers before (k + 1) r.plate (put_mid (6 * k) (6 * k + 6 - 6 * k) answers six)
unfolding calls_before
one_more {calls} {numbers} {before} {k} {answers} {six} r b room kept e =
    let asked = ask_at calls numbers k in
    let long : length six ≡ 6 = ap length e in
    let next : 6 * (k + 1) ≡ 6 * k + 6 = omega arith in
    record {
      long = same_len_mid (6 * k) (6 * k + 6 - 6 * k) answers six (long ∙ sym (length_lent (6 * k) 6 answers room)) ∙ b.long;
      stands =
          subst (λ (n : ℕ). Stands (history_before calls numbers n) r.plate) (sym (add-one k))
          (kept.stands (calls_before calls numbers k) b.stands);
      answered =
          parts_hold 6 k (6 * k + 6 - 6 * k) answers six (λ j l. AskAnswered (history_before calls numbers j) (ask_at calls numbers j) l)
          (omega arith) long
          (subst (AskAnswered (history_before calls numbers k) asked) (sym e) (kept.answered (calls_before calls numbers k) b.stands))
          b.answered;
      rest =
          ap (λ (n : ℕ). drop n (put_mid (6 * k) (6 * k + 6 - 6 * k) answers six)) next
          ∙ drop_put (6 * k) (6 * k + 6) answers six (omega arith) room (omega (arith, long))
          ∙ behind answers
          ∙ ap (drop 6) b.rest
          ∙ sym (behind before)
          ∙ ap (λ (n : ℕ). drop n before) (sym next);
    }
  where
    behind : (l : List ℕ) → drop (6 * k + 6) l ≡ drop 6 (drop (6 * k) l)
    behind l = sym (drop-drop 6 (6 * k) l)

-- The end of the run: no room is left, or an unknown kind.
pub ended : {calls : List ℕ} {numbers : List ℤ} {before answers : List ℕ} {plate : Plate} {k : ℕ} →
    Begun calls numbers before k plate answers → k ≤ room_for calls numbers before →
    (k < room_for calls numbers before → ask_at calls numbers k ≡ unknown) → PlateRun calls numbers before k answers
ended b room stop = record { within = room; stopped = stop; answered = b.answered; rest = b.rest }
