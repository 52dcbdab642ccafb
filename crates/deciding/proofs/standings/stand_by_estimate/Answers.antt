-- `deciding::standings::stand_by_estimate` meets its contract: at first no place has a bit. Assumes nothing.
use Rattle.words.proofs.BitLaws.{bit_of_none}
use Rattle.deciding.proofs.standings.stand_by_estimate.Goals as goal

pub sort_places-requires-clause-clear : goal.sort_places-requires-clause-clear
sort_places-requires-clause-clear c = (λ z set. bit_of_none z, λ z set. bit_of_none z)
