-- What a refusal and a check tell: document 01's number, side and place.
use Rattle.std.specs.Prelude.{Result, Ok, Err}
use Rattle.checks.specs.Answers.{Answer, refused, Check, fine}
use Rattle.checks.specs.Reasons.{number_of_reason}
use Rattle.checks.specs.declared.answer.Refusal.{Refusal}

-- A refusal, whatever the call would have served.
abbrev pub told_refusal : {A : Type 0} → Refusal → Answer A
told_refusal why = refused (number_of_reason why.reason) why.side why.place

abbrev pub told_check : Result (Unit {0}) Refusal → Check
told_check (Ok _) = fine
told_check (Err why) = told_refusal why
