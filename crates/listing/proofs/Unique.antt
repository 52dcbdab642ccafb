-- No second answer and no second buffer meet the contract of a listing: the rule fixes what is told and the buffer afterwards, and what an
-- answer tells fixes the answer. Assumes nothing.
use mathlib.Core.Path.{◌≡◌, refl, sym, ap, ◌∙◌}
use mathlib.Core.Bool.{Bool}
use mathlib.Core.List.{List}
use Prim.Native.Nat.{ℕ, ◌+◌, ◌-◌, ◌<◌}
use Rattle.std.specs.Prelude.{Result, Ok, Err}
use native.Mathlib.Omega.{arith}
use lib.IntN.{ℤ}
use lib.ListN.{length}
use Rattle.shape.proofs.VerdictLaws.{says_fixed}
use Rattle.checks.specs.Answers.{Answer, served, refused, Check, fine, ◌then◌, with_served}
use Rattle.checks.specs.declared.answer.Refusal.{Refusal}
use Rattle.checks.proofs.ReadBack.{refusal_back, refusal_back_law}
use Rattle.boxes.specs.Triangles.{triangles}
use Rattle.listing.specs.Pairs.{Pair, gathered, pair_if, pairs_of}
use Rattle.listing.specs.Rules.{input_checks, room_for, outcome, afterwards, ListRule}
use Rattle.listing.specs.Told.{told_list}
use Rattle.listing.proofs.Gathering.{gathered_same}

-- Verdicts that agree below both counts list the same pairs.
same_pairs : (f g : ℕ → ℕ → Bool) (n m : ℕ) → ((i j : ℕ) → i < n → j < m → f i j ≡ g i j) → pairs_of f n m ≡ pairs_of g n m
same_pairs f g n m same = gathered_same _ _ 0 n row
  where
    row : (t : ℕ) → t < n → gathered (λ j. pair_if (f (0 + t) j) (0 + t) j) 0 m ≡ gathered (λ j. pair_if (g (0 + t) j) (0 + t) j) 0 m
    row t p = gathered_same _ _ 0 m (λ s q. ap (λ (v : Bool). pair_if v (0 + t) (0 + s)) (same (0 + t) (0 + s) (omega arith) (omega arith)))

-- ---- the rule fixes what is listed, and so the answer and the buffer
module _ {a b : List ℤ} {buffer : List ℕ} {start : ℕ} {answer answer' : Answer ℕ} {after after' : List ℕ}
    (r : ListRule a b buffer start answer after) (s : ListRule a b buffer start answer' after') where
  -- Where the input is fine the verdicts are those of the definition; elsewhere none is asked for.
  same_outcome : outcome r.meets a b buffer start ≡ outcome s.meets a b buffer start
  same_outcome = by_checks (input_checks a b buffer start) refl
    where
      listed : List Pair → Answer (List Pair)
      listed pairs = room_for (length pairs) (length buffer - start) then served pairs

      fixed : input_checks a b buffer start ≡ fine → pairs_of r.meets (triangles a) (triangles b) ≡ pairs_of s.meets (triangles a) (triangles b)
      fixed e = same_pairs r.meets s.meets (triangles a) (triangles b) (λ i j p q. says_fixed (r.right e i j p q) (s.right e i j p q))

      by_checks : (c : Check) → input_checks a b buffer start ≡ c →
          (c then listed (pairs_of r.meets (triangles a) (triangles b))) ≡ (c then listed (pairs_of s.meets (triangles a) (triangles b)))
      by_checks (served u) e = ap listed (fixed e)
      by_checks (refused number side place) e = refl

  pub list_unique : (answer ≡ answer') × (after ≡ after')
  list_unique =
      (r.told ∙ ap (with_served length) same_outcome ∙ sym s.told, r.left ∙ ap (afterwards buffer start) same_outcome ∙ sym s.left)

-- ---- an answer is read back off what it tells
answer_back : Answer ℕ → Result ℕ Refusal
answer_back (served pairs) = Ok pairs
answer_back (refused number side place) = Err (refusal_back number side place)

answer_back_law : (r : Result ℕ Refusal) → answer_back (told_list r) ≡ r
unfolding answer_back
answer_back_law (Ok pairs) = refl
answer_back_law (Err why) = ap Err (refusal_back_law why)

-- So two answers that tell the same are equal.
pub told_list_fixed : (r r' : Result ℕ Refusal) → told_list r ≡ told_list r' → r ≡ r'
told_list_fixed r r' e = sym (answer_back_law r) ∙ ap answer_back e ∙ answer_back_law r'

-- Two answers, and two buffers afterwards, that meet the contract of `list_pairs` are equal.
pub listing_unique : {a b : List ℤ} {buffer : List ℕ} {start : ℕ} {after after' : List ℕ} (r r' : Result ℕ Refusal) →
    ListRule a b buffer start (told_list r) after → ListRule a b buffer start (told_list r') after' → (r ≡ r') × (after ≡ after')
listing_unique r r' rule rule' =
    let same = list_unique rule rule' in
    (told_list_fixed r r' same.0, same.1)
