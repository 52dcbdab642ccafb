-- `deciding::verdicts::Stances::cross_by_estimate` meets its contract: what the signs say of each pair is told by two bits. Assumes nothing.
use Rattle.words.proofs.BitLaws.{bit_of_none}
use Rattle.deciding.proofs.StageLaws.{faced}
use Rattle.deciding.proofs.Rounds.{parted_crossing}
use Rattle.deciding.proofs.verdicts.Stances.cross_by_estimate.Goals as goal

pub sort_places-requires-clause-clear : goal.sort_places-requires-clause-clear
sort_places-requires-clause-clear c = (λ z set. bit_of_none z, c.requires.2)

pub sort_places-requires-clause-askable : goal.sort_places-requires-clause-askable
sort_places-requires-clause-askable c z within set = (faced c.requires.0 set within, c.requires.1 z set)

pub returns : goal.returns
returns c =
    let sorted = c.sort_places.ensures in
    parted_crossing sorted.0 sorted.1 sorted.2
