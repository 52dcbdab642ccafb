-- What each case of a listing's answer tells.
use Rattle.std.specs.Prelude.{ℕ, Result, Ok, Err}
use Rattle.checks.specs.Answers.{Answer, served}
use Rattle.checks.specs.Told.{told_refusal}
use Rattle.checks.specs.declared.answer.Refusal.{Refusal}

abbrev pub told_list : Result ℕ Refusal → Answer ℕ
told_list (Ok pairs) = served pairs
told_list (Err why) = told_refusal why
