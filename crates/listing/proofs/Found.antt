-- From the words of verdicts to the answer: what becomes of the pairs that they tell is what the rule of a listing says. Assumes nothing.
use mathlib.Core.Path.{◌≡◌, sym, ap, ◌∙◌}
use mathlib.Core.Bool.{false}
use mathlib.Core.List.{List, ◌++◌}
use Prim.Native.Nat.{ℕ, ◌+◌, ◌-◌, ◌*◌, ◌<◌, ◌≤◌}
use native.Mathlib.Omega.{arith}
use borrow.Rule.Slice.PartMut.{put_mid}
use lib.IntN.{ℤ}
use lib.ListN.{length, take, drop}
use Rattle.checks.specs.Answers.{Answer, served, refused, Check, fine, ◌then◌, with_served}
use Rattle.checks.specs.Told.{told_refusal}
use Rattle.checks.specs.declared.answer.Refusal.{Refusal}
use Rattle.checks.proofs.AnswerLaws.{served_not_refused}
use Rattle.boxes.specs.Triangles.{triangles}
use Rattle.deciding.specs.Words.{VerdictsBelow}
use Rattle.listing.specs.Pairs.{Pair, gathered, pairs_of, two_each}
use Rattle.listing.specs.Rules.{input_checks, room_for, outcome, afterwards, ListRule}
use Rattle.listing.specs.Writing.{told_by, Wrote, listed, Found}
use Rattle.listing.proofs.Filling.{free_part, put_back}
use Rattle.listing.proofs.Gathering.{length_two_each}
use Rattle.listing.proofs.ListChecks.{room_fine, no_room_refused}
use Rattle.listing.proofs.Telling.{kept, all_told, kept_right}

-- ---- the pairs that n words tell, as many as were found, and the buffer
module _ (words : List ℕ) (n : ℕ) (buffer : List ℕ) (start found : ℕ) (counted : found ≡ length (gathered (told_by words) 0 n)) where
  abbrev pairs : List Pair
  pairs = gathered (told_by words) 0 n

  pub length_numbers : length (two_each pairs) ≡ 2 * found
  length_numbers = length_two_each pairs ∙ ap (λ (k : ℕ). 2 * k) (sym counted)

  pub no_room : length buffer - start < 2 * found → Found words n buffer start (refused 5 0 found) buffer
  no_room h =
      let is : room_for (length pairs) (length buffer - start) ≡ refused 5 0 (length pairs) =
      no_room_refused (length pairs) (length buffer - start) (omega (arith, h, counted)) in
      let all = ap (λ (c : Check). c then served pairs) is in record {
        told = ap (refused 5 0) counted ∙ sym (ap (with_served length) all);
        left = sym (ap (afterwards buffer start) all);
      }

  pub enough_room : {count : ℕ} {new : List ℕ} → 2 * found ≤ length buffer - start → Wrote (two_each pairs) (free_part start buffer) count new →
      Found words n buffer start (served found) (put_mid start (length buffer - start) buffer new)
  enough_room h w =
      let all : listed words n buffer start ≡ served pairs =
      ap (λ (c : Check). c then served pairs) (room_fine (length pairs) (length buffer - start) (omega (arith, h, counted))) in record {
        told = ap served counted ∙ sym (ap (with_served length) all);
        left = put_back start buffer w ∙ ap (λ (k : ℕ). take start buffer ++ two_each pairs ++ drop (start + k) buffer) (length_two_each pairs)
            ∙ sym (ap (afterwards buffer start) all);
      }

-- ---- the rule
module _ (a b : List ℤ) (buffer : List ℕ) (start : ℕ) where
  -- The input is fine, and all words are known.
  pub found_rule : {words : List ℕ} {answer : Answer ℕ} {after : List ℕ} → input_checks a b buffer start ≡ fine → triangles b ≤ 1024 →
      VerdictsBelow a b words (triangles a * 16) → Found words (triangles a * 16) buffer start answer after →
      ListRule a b buffer start answer after
  found_rule {words} passed few verdicts found =
      let told = all_told words (triangles a) (triangles b) few (λ k h. (verdicts k h).small) in
      let same : listed words (triangles a * 16) buffer start ≡ outcome (kept words) a b buffer start =
      λ i. sym passed i then room_for (length (told i)) (length buffer - start) then served (told i) in record {
        meets = kept words;
        right = λ g. kept_right a b words few verdicts;
        told = found.told ∙ ap (with_served length) same;
        left = found.left ∙ ap (afterwards buffer start) same;
      }

  -- The input is refused.
  pub refused_rule : (why : Refusal) → input_checks a b buffer start ≡ told_refusal why → ListRule a b buffer start (told_refusal why) buffer
  refused_rule why e =
      let none = pairs_of (λ i j. false) (triangles a) (triangles b) in
      let same : outcome (λ i j. false) a b buffer start ≡ told_refusal why =
      ap (λ (c : Check). c then room_for (length none) (length buffer - start) then served none) e in record {
        meets = λ i j. false;
        right = λ g. absurd (served_not_refused tt why (sym g ∙ e));
        told = sym (ap (with_served length) same);
        left = sym (ap (afterwards buffer start) same);
      }
