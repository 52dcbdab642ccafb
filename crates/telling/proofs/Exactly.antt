-- What is promised of the result and the buffer is exactly this: the result is 1 where the buffer before has room for fewer
-- than four numbers, and 0 otherwise; with 1 the buffer stays, with 0 its first four are the answer's, and all after the fourth
-- stay. Said once for every door but the plate's. Assumes nothing.
use mathlib.Core.Path.{◌≡◌, refl, sym, ap, ◌∙◌}
use mathlib.Core.Bool.{Bool, true, false, cond}
use mathlib.Core.List.{List, ◌++◌}
use mathlib.Core.Logic.{◌↔◌}
use Prim.Native.Nat.{ℕ, ◌<◌, ◌≤◌}
use native.Mathlib.Omega.{arith}
use borrow.Author.Tests.{ltb-true, ltb-false}
use lib.ListN.{length, take, drop, take-append-drop}
use Rattle.checks.specs.Answers.{Answer}
use Rattle.telling.specs.Numbers.{four_numbers}
use Rattle.telling.specs.Buffer.{too_short, Written}
use Rattle.telling.proofs.BufferLaws.{by_test}

pub record InWords (numbers before : List ℕ) (result : ℕ) (after : List ℕ) : Type 0 where
  pub one : (result ≡ 1) ↔ (length before < 4)
  pub zero : (result ≡ 0) ↔ (4 ≤ length before)
  pub stays : result ≡ 1 → after ≡ before
  pub front : result ≡ 0 → take 4 after ≡ numbers
  pub rest : result ≡ 0 → drop 4 after ≡ drop 4 before

module _ (a : Answer ℕ) (before : List ℕ) (result : ℕ) (after : List ℕ) where
  in_words : Written (four_numbers a) before result after → InWords (four_numbers a) before result after
  in_words w = found (too_short before) refl
    where
      gives : (t : Bool) → too_short before ≡ t → result ≡ cond t 1 0
      gives t e = w.gives ∙ ap (λ (b : Bool). cond b 1 0) e

      leaves : (t : Bool) → too_short before ≡ t → after ≡ cond t before (four_numbers a ++ drop 4 before)
      leaves t e = w.leaves ∙ ap (λ (b : Bool). cond b before (four_numbers a ++ drop 4 before)) e

      found : (t : Bool) → too_short before ≡ t → InWords (four_numbers a) before result after
      found true e =
          let short = ltb-true (length before) 4 e in
          let is_one : result ≡ 1 = gives true e in
          record {
            one = (λ f. short, λ f. is_one);
            zero = (λ f. absurd (omega arith), λ f. absurd (omega arith));
            stays = λ f. leaves true e;
            front = λ f. absurd (omega arith);
            rest = λ f. absurd (omega arith);
          }
      found false e =
          let room = ltb-false (length before) 4 e in
          let is_zero_law : result ≡ 0 = gives false e in
          record {
            one = (λ f. absurd (omega arith), λ f. absurd (omega arith));
            zero = (λ f. room, λ f. is_zero_law);
            stays = λ f. absurd (omega arith);
            front = λ f. ap (take 4) (leaves false e);
            rest = λ f. ap (drop 4) (leaves false e);
          }

  from_words : InWords (four_numbers a) before result after → Written (four_numbers a) before result after
  from_words w = found (too_short before) refl
    where
      found : (t : Bool) → too_short before ≡ t → Written (four_numbers a) before result after
      found true e =
          let is_one : result ≡ 1 = w.one.1 (ltb-true (length before) 4 e) in
          by_test (four_numbers a) before true e is_one (w.stays is_one)
      found false e =
          let is_zero_law : result ≡ 0 = w.zero.1 (ltb-false (length before) 4 e) in
          by_test (four_numbers a) before false e is_zero_law
          (sym (take-append-drop 4 after) ∙ (λ i. w.front is_zero_law i ++ w.rest is_zero_law i))

  pub exactly : Written (four_numbers a) before result after ↔ InWords (four_numbers a) before result after
  exactly = (in_words, from_words)
