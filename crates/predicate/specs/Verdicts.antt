-- Meeting is yes, Apart is no.
use Rattle.std.specs.Prelude.{Bool, true, false}
use Rattle.predicate.specs.declared.answer.Verdict.{Verdict}
use Rattle.predicate.specs.declared.answer.Verdict.TheVariants.{Apart, Meeting}

abbrev pub is_meeting : Verdict → Bool
is_meeting Apart = false
is_meeting Meeting = true
