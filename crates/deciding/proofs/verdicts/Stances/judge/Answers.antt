-- `deciding::verdicts::Stances::judge` meets its contract: what the estimate tells of the last signs, and what is asked exactly, are together all verdicts.
-- Assumes nothing.
use Rattle.words.proofs.BitLaws.{bit_of_none}
use Rattle.deciding.proofs.Rounds.{alone_stood, alone_numbered, rest_stood, rest_posed, rest_clear, judged_rest, judged_exactly, close_clear}
use Rattle.deciding.proofs.verdicts.Stances.judge.Goals as goal

pub decide_rest-word-requires : goal.decide_rest-word-requires
decide_rest-word-requires c = (c.requires.0, alone_stood c.requires.2, λ z set. bit_of_none z)

pub decide_rest-requires : goal.decide_rest-requires
decide_rest-requires c =
    let p = c.requires in
    (p.1, p.3, close_clear p.4 c.decide_rest-word.ensures)

pub returns-then-self : goal.returns-then-self
returns-then-self c = judged_exactly c.requires.4 c.decide_rest-word.ensures c.decide_rest.ensures

pub cross_by_estimate-told-requires : goal.cross_by_estimate-told-requires
cross_by_estimate-told-requires c =
    let p = c.requires in
    (p.0, alone_numbered p.2, p.4)

pub decide_rest-requires-2 : goal.decide_rest-requires-2
decide_rest-requires-2 c =
    let told = c.cross_by_estimate-told.ensures in
    let p = c.requires in
    (rest_posed p.2 p.3 told p.0 p.1, rest_stood p.2 p.3 told, rest_clear p.2 p.3 told)

pub returns : goal.returns
returns c =
    let p = c.requires in
    judged_rest p.2 p.3 c.cross_by_estimate-told.ensures c.decide_rest-2.ensures
