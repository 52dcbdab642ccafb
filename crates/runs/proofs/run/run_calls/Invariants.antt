-- `runs::run::run_calls` meets its contract: the calls so far are answered, and the plate stands for them. Assumes nothing.
use Rattle.runs.proofs.PlateLaws.{Begun}
use Rattle.runs.proofs.run.run_calls.Given as goal

abbrev pub invariant-loop-k : goal.invariant-loop-k
invariant-loop-k l = Begun l.calls l.numbers l.initial.answers l.k l.plate l.answers
