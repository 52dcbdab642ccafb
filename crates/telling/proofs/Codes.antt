-- The numbers of what a call served, taken of its answer (`told_by`), are those taken of what the answer tells. Assumes nothing.
use mathlib.Core.Path.{◌≡◌, refl}
use Rattle.std.specs.Prelude.{Result, Ok, Err}
use Rattle.checks.specs.Answers.{with_served}
use Rattle.checks.specs.Told.{told_check}
use Rattle.checks.specs.declared.answer.Refusal.{Refusal}
use Rattle.shape.specs.Signs.{digit}
use Rattle.exact.specs.SignNumbers.{sign_number}
use Rattle.exact.specs.declared.determinant.Sign.{Sign}
use Rattle.predicate.specs.Told.{told_sign, told_verdict}
use Rattle.predicate.specs.Verdicts.{is_meeting}
use Rattle.predicate.specs.declared.answer.Verdict.{Verdict}
use Rattle.telling.specs.Numbers.{verdict_code, without_value, told_by}

pub sign_coded : (told : Result Sign Refusal) → told_by (λ s. digit (sign_number s)) told ≡ with_served digit (told_sign told)
sign_coded (Ok s) = refl
sign_coded (Err why) = refl

pub verdict_coded : (told : Result Verdict Refusal) → told_by (λ v. verdict_code (is_meeting v)) told ≡ with_served verdict_code (told_verdict told)
verdict_coded (Ok v) = refl
verdict_coded (Err why) = refl

pub change_coded : (told : Result (Unit {0}) Refusal) → told_by (λ u. 0) told ≡ without_value (told_check told)
change_coded (Ok tt) = refl
change_coded (Err why) = refl
