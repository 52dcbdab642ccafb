-- `deciding::deciding::decide_word` meets its contract: what the stages leave of the candidates is judged, and the rest is apart. Assumes nothing.
use Rattle.words.proofs.BitLaws.{bit_of_none}
use Rattle.deciding.proofs.WordLaws.{posed_turned, parted_turned, kept_candidates, kept_clear, alone_candidates, close_candidates, alone_clear, all_alone, all_stood, all_judged}
use Rattle.deciding.proofs.deciding.decide_word.Goals as goal

pub stand-near-requires : goal.stand-near-requires
stand-near-requires c = (rw c.turned.ensures (posed_turned c.requires), λ z set. bit_of_none z)

pub stand-both-requires : goal.stand-both-requires
stand-both-requires c =
    let near = parted_turned c.args.pairs.now c.turned.ensures c.stand-near.ensures in
    ((λ z set. c.requires z (kept_candidates near z set)), kept_clear near)

pub judge-requires : goal.judge-requires
judge-requires c =
    let near = parted_turned c.args.pairs.now c.turned.ensures c.stand-near.ensures in
    let both = c.stand-both.ensures in (
      record { posed = λ z set. c.requires z (alone_candidates near both z set) },
      record { posed = λ z set. c.requires z (close_candidates near both z set) },
      all_alone near both,
      all_stood near both,
      alone_clear near both,
    )

pub returns : goal.returns
returns c = all_judged (parted_turned c.args.pairs.now c.turned.ensures c.stand-near.ensures) c.stand-both.ensures c.judge.ensures
