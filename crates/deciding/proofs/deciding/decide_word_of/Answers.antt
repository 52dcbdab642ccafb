-- `deciding::deciding::decide_word_of` meets its contract: the triangles, normals and planes are those of word k. Assumes nothing.
use Rattle.deciding.proofs.WordLaws.{none_decided, word_posed, word_decided}
use Rattle.deciding.proofs.deciding.decide_word_of.Goals as goal

pub returns-then-candidates-eq0 : goal.returns-then-candidates-eq0
returns-then-candidates-eq0 c = none_decided c.requires.2 c.if-candidates-eq0.true

pub decide_word-requires : goal.decide_word-requires
decide_word-requires c = word_posed c.args.lists.now c.args.k c.requires.0 c.requires.1 c.requires.2.small

pub returns : goal.returns
returns c = word_decided c.args.lists.now c.args.k c.requires.2 c.decide_word.ensures
