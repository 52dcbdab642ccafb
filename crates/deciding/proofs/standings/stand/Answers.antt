-- `deciding::standings::stand` meets its contract: what the estimate tells and what is found exactly are together what a stage leaves. Assumes nothing.
use Rattle.words.proofs.BitLaws.{bit_of_none}
use Rattle.deciding.proofs.Rounds.{parted_exactly, parted_both, open_among, open_clear}
use Rattle.deciding.proofs.standings.stand.Goals as goal

pub stand_low-requires : goal.stand_low-requires
stand_low-requires c =
    let p = c.requires in
    (p.0, c.if-pairs.true, λ z set. bit_of_none z, p.1)

pub returns-then-pairs : goal.returns-then-pairs
returns-then-pairs c =
    let found = c.stand_low.ensures in
    parted_exactly found.0 found.1 found.2

pub stand_exactly-requires : goal.stand_exactly-requires
stand_exactly-requires c =
    let p = c.requires in
    let seen = c.stand_by_estimate-seen.ensures in
    let among = open_among seen.0 seen.1 seen.2 p.1 in
    ((λ z set. p.0 z (among z set)), c.if-pairs.false, open_clear seen.0 seen.1 seen.2 p.1, (λ z set. p.1 z (among z set)))

pub returns : goal.returns
returns c =
    let found = c.stand_exactly.ensures in
    let seen = c.stand_by_estimate-seen.ensures in
    parted_both seen.0 seen.1 seen.2 c.requires.1 found.0 found.1 found.2
