-- `exact::levels::level_at` meets its contract: the plane and the normal are those of a, b and c. Assumes nothing.
use Rattle.std.proofs.Common.{◌∙◌}
use Rattle.exact.specs.Vectors.{spatial}
use Rattle.exact.proofs.LevelLaws.{level_from_first}
use Rattle.exact.proofs.levels.level_at.Goals as goal

pub returns : goal.returns
returns c =
    let a = c.args in (
      c.level_over.ensures.0 ∙ level_from_first (spatial a.a) (spatial a.b) (spatial a.c) (spatial a.d) c.normal_at.ensures,
      c.level_over.ensures.1,
    )
