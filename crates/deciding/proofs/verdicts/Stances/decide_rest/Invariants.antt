-- `deciding::verdicts::Stances::decide_rest` meets its contract: each turn decides the lowest place. Assumes nothing.
use Rattle.words.proofs.Filling.{Filled}
use Rattle.deciding.specs.Stages.{JudgedAt}
use Rattle.deciding.proofs.verdicts.Stances.decide_rest.Given as goal

abbrev pub invariant-loop-z : goal.invariant-loop-z
invariant-loop-z l =
    goal.iterator-loop-z.can_next l.z-iterator
    × goal.iterator-loop-z.is_finite l.z-iterator
    × Filled (JudgedAt l.self.pairs) l.known l.asked l.z-iterator.0 l.word
