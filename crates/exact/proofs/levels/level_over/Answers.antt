-- `exact::levels::level_over` meets its contract: an estimate that is far from zero has the sign of the side, and elsewhere the side is so small that its low word
-- tells it. Assumes nothing.
use Rattle.std.proofs.Common.{ℕ, ◌≤◌, sym, ◌∙◌, subst}
use Rattle.estimates.specs.Doubles.{far_above, far_below}
use Rattle.estimates.proofs.Told.{Told}
use Rattle.exact.specs.Vectors.{spatial}
use Rattle.exact.proofs.LevelLaws.{level_from_first, estimate_told, told_first, told_first_small, side_held}
use Rattle.exact.proofs.levels.level_over.Goals as goal

pub returns : goal.returns
returns c =
    let plane = c.requires in
    let a = spatial c.args.a in
    let d = spatial c.args.d in
    -- what the estimate tells, where the plane is that of a, b and c
    let tells : Told c.estimate_of-e.result a plane.b plane.c d = estimate_told c.args.a.on_grid plane.sized_b plane.sized_c c.args.d.on_grid plane.is c.rough_of.ensures c.rough_of-2.ensures c.estimate_of-e.ensures in
    let is = c.vector.ensures ∙ plane.normal_is in
    let is-level = level_from_first a plane.b plane.c d plane.normal_is in (
      c.told_first.ensures
          ∙ told_first tells (λ small. c.low_level.ensures.0 (side_held a plane.b plane.c d is small) ∙ level_from_first a plane.b plane.c d is)
          ∙ sym is-level,
      subst (λ (n : ℕ). n ≤ 2) (sym c.told_first.ensures) (told_first_small (far_above c.estimate_of-e.result) (far_below c.estimate_of-e.result) c.low_level.result c.low_level.ensures.1),
    )
