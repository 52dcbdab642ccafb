-- `deciding::deciding::decide_lists` meets its contract: the candidates, normals and planes of both lists are known when the words are decided. Assumes
-- nothing.
use native.Mathlib.Omega.{arith}
use Rattle.exact.proofs.Branches.{both_true}
use Rattle.words.proofs.Filling.{both}
use Rattle.deciding.proofs.deciding.decide_lists.Goals as goal
use Rattle.deciding.proofs.deciding.decide_lists.Goals.{then-not-narrow, else-not-narrow}

pub decide_words-requires : goal.decide_words-requires
decide_words-requires c = (
  record {
    first = record {
      sound = c.requires.0;
      room = omega (arith, c.requires.0.few);
      normal = c.put_normals.ensures;
    };
    second = record {
      sound = c.requires.1;
      room = omega (arith, c.requires.1.few);
      normal = c.put_normals-2.ensures;
    };
    planned = λ wide. elim c.if-not-narrow.branch [
      | then-not-narrow w ↦ (
        record { room = omega (arith, c.requires.0.few); plane = rw w.planes-is w.put_planes.ensures },
        record { room = omega (arith, c.requires.1.few); plane = rw w.rough-is w.put_planes-then-not-narrow.ensures },
      )
      | else-not-narrow w ↦ both w.if-not-narrow.false wide
    ];
    small = λ flag. let each = both_true c.is_narrow.result c.is_narrow-2.result flag in
        (c.is_narrow.ensures.yes each.0, c.is_narrow-2.ensures.yes each.1);
  },
  omega (arith, c.requires.2),
  c.put_all_candidates.ensures,
)
