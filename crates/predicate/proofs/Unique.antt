-- No second answer meets a contract: what an answer tells fixes the answer, and each contract fixes what it tells.
-- Assumes nothing.
use mathlib.Core.Path.{◌≡◌, refl, sym, ap, ◌∙◌}
use mathlib.Core.Bool.{Bool, true, false}
use mathlib.Core.List.{List}
use Prim.Native.Nat.{ℕ, zero, suc}
use lib.IntN.{ℤ, pos, negsuc}
use Rattle.std.specs.Prelude.{Result, Ok, Err}
use Rattle.checks.specs.Answers.{Answer, served, refused}
use Rattle.checks.proofs.AnswerLaws.{one_verdict, served_not_refused}
use Rattle.checks.proofs.ReadBack.{refusal_back, refusal_back_law}
use Rattle.predicate.specs.Rules.{value_rule, sign_rule, VerdictRule}
use Rattle.checks.specs.Rules.{FlatShapes, pair_checks}
use Rattle.exact.specs.SignNumbers.{sign_number}
use Rattle.predicate.specs.Told.{told_sign, told_value, told_wide, LowWord, told_verdict}
use Rattle.wide.specs.Value.{value}
use Rattle.wide.specs.declared.Wide.{Wide}
use Rattle.wide.proofs.Told.{told_by_value}
use Rattle.checks.specs.declared.answer.Refusal.{Refusal}
use Rattle.exact.specs.declared.determinant.Sign.{Sign}
use Rattle.exact.specs.declared.determinant.Sign.TheVariants.{Negative, Zero, Positive}
use Rattle.predicate.specs.declared.answer.Verdict.{Verdict}
use Rattle.predicate.specs.declared.answer.Verdict.TheVariants.{Apart, Meeting}

-- ---- the same sign: a sign is read back off its number
sign_back : ℤ → Sign
sign_back (negsuc n) = Negative
sign_back (pos zero) = Zero
sign_back (pos (suc n)) = Positive

sign_back_law : (a : Sign) → sign_back (sign_number a) ≡ a
unfolding sign_back
sign_back_law Negative = refl
sign_back_law Zero = refl
sign_back_law Positive = refl

-- ---- each answer is read back off what it tells
sign_answer_back : Answer ℤ → Result Sign Refusal
sign_answer_back (served z) = Ok (sign_back z)
sign_answer_back (refused number side place) = Err (refusal_back number side place)

sign_answer_back_law : (r : Result Sign Refusal) → sign_answer_back (told_sign r) ≡ r
unfolding sign_answer_back
sign_answer_back_law (Ok a) = ap Ok (sign_back_law a)
sign_answer_back_law (Err why) = ap Err (refusal_back_law why)

value_back : Answer ℤ → Result ℤ Refusal
value_back (served z) = Ok z
value_back (refused number side place) = Err (refusal_back number side place)

value_back_law : (r : Result ℤ Refusal) → value_back (told_value r) ≡ r
unfolding value_back
value_back_law (Ok z) = refl
value_back_law (Err why) = ap Err (refusal_back_law why)

verdict_back : Answer Bool → Result Verdict Refusal
verdict_back (served true) = Ok Meeting
verdict_back (served false) = Ok Apart
verdict_back (refused number side place) = Err (refusal_back number side place)

verdict_back_law : (r : Result Verdict Refusal) → verdict_back (told_verdict r) ≡ r
unfolding verdict_back
verdict_back_law (Ok Meeting) = refl
verdict_back_law (Ok Apart) = refl
verdict_back_law (Err why) = ap Err (refusal_back_law why)

-- So two answers that tell the same are equal.
told_fixed : {A R : Type 0} (told : R → A) (back : A → R) → ((r : R) → back (told r) ≡ r) → (r s : R) → told r ≡ told s → r ≡ s
told_fixed told back is-back r s e = sym (is-back r) ∙ ap back e ∙ is-back s

-- Two pairs of words that tell the same are equal.
served_of : Answer ℤ → ℤ
served_of (served z) = z
served_of (refused number side place) = pos 0

refusal_of : Answer ℤ → Result Wide Refusal
refusal_of (served z) = Err (refusal_back 0 0 0)
refusal_of (refused number side place) = Err (refusal_back number side place)

wide_told : (r s : Result Wide Refusal) → LowWord r → LowWord s → told_wide r ≡ told_wide s → r ≡ s
unfolding served_of refusal_of
wide_told (Ok a) (Ok b) l m e = ap Ok (told_by_value a b l m (ap served_of e))
wide_told (Ok a) (Err why) l m e = absurd (served_not_refused (value a) why e)
wide_told (Err why) (Ok b) l m e = absurd (served_not_refused (value b) why (sym e))
wide_told (Err why) (Err why') l m e = ap Err (sym (refusal_back_law why)) ∙ ap refusal_of e ∙ ap Err (refusal_back_law why')

-- ---- no second answer
-- Two answers that meet the contract of `turn_sign` (n = 2) or of `side_sign` (n = 3) are equal.
pub sign_unique : (n : ℕ) (numbers : List ℤ) (r s : Result Sign Refusal) → told_sign r ≡ sign_rule n numbers → told_sign s ≡ sign_rule n numbers → r ≡ s
sign_unique n numbers r s e e' = told_fixed told_sign sign_answer_back sign_answer_back_law r s (e ∙ sym e')

-- Two answers that meet the contract of `turn_value` (n = 2) are equal.
pub value_unique : (n : ℕ) (numbers : List ℤ) (r s : Result ℤ Refusal) →
    told_value r ≡ value_rule n numbers → told_value s ≡ value_rule n numbers → r ≡ s
value_unique n numbers r s e e' = told_fixed told_value value_back value_back_law r s (e ∙ sym e')

-- Two answers that meet the contract of `side_value` (n = 3) are equal: no two pairs of words have the same value.
pub wide_unique : (n : ℕ) (numbers : List ℤ) (r s : Result Wide Refusal) →
    (told_wide r ≡ value_rule n numbers) × LowWord r → (told_wide s ≡ value_rule n numbers) × LowWord s → r ≡ s
wide_unique n numbers r s e e' = wide_told r s e.1 e'.1 (e.0 ∙ sym e'.0)

-- One answer at most is right of a verdict call.
pub rule_fixed : {flats : FlatShapes} {n k m : ℕ} {first second : List ℤ} {a b : Answer Bool} → VerdictRule flats n k m first second a → VerdictRule flats n k m first second b → a ≡ b
rule_fixed {flats} {n} {k} {m} {first} {second} r s = r.told ∙ one_verdict (pair_checks flats n k m first second) r.right s.right ∙ sym s.told

-- Two verdict answers that tell the same are equal.
pub verdict_told : (r s : Result Verdict Refusal) → told_verdict r ≡ told_verdict s → r ≡ s
verdict_told = told_fixed told_verdict verdict_back verdict_back_law

-- Two answers that meet the contract of a verdict call (`flat_verdict` refuses flat shapes and has n = 2, k = m = 3) are equal.
pub verdict_unique : {flats : FlatShapes} {n k m : ℕ} {first second : List ℤ} (r s : Result Verdict Refusal) →
    VerdictRule flats n k m first second (told_verdict r) → VerdictRule flats n k m first second (told_verdict s) → r ≡ s
verdict_unique r s e e' = verdict_told r s (rule_fixed e e')
