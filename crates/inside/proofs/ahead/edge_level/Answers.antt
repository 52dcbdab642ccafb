-- `inside::ahead::edge_level` meets its contract: the first of its three levels that isn't the middle one. Assumes nothing.
use Rattle.std.proofs.Common.{ap, ◌∙◌, ℤ, ◌-ℤ◌, w64}
use Rattle.algebra.proofs.Machine.{in_range, returned}
use Rattle.shape.specs.Signs.{turn, turn_in, sign, digit}
use Rattle.exact.specs.Vectors.{spatial}
use Rattle.exact.proofs.Readings.{gap, stored_gap_law}
use Rattle.inside.proofs.Levels.{three_told, three_passed}
use Rattle.inside.proofs.ahead.edge_level.Goals as goal

pub returns-then-turn-ne1 : goal.returns-then-turn-ne1
returns-then-turn-ne1 c =
    let u = c.without_coordinate-3.ensures in
    let v = c.without_coordinate-2.ensures in
    let w = c.without_coordinate.ensures in
    let o = c.args in
    three_told (turn_in 1 2 (spatial o.a) (spatial o.b) (spatial o.p)) (o.a.z -ℤ o.b.z) (o.b.y -ℤ o.a.y)
    (c.level_of-turn.ensures.0 ∙ ap (λ (z : ℤ). digit (sign z)) (returned w64 c.turn_at.type_inv (c.turn_at.ensures ∙ (λ i. turn (w i) (v i) (u i)))))
    c.if-turn-ne1.true

pub overflow_sub-a : goal.overflow_sub-a
overflow_sub-a c = in_range (gap c.args.a.on_grid c.args.b.on_grid 2) tt

pub overflow_sub-b : goal.overflow_sub-b
overflow_sub-b c = in_range (gap c.args.b.on_grid c.args.a.on_grid 1) tt

pub returns-else-turn-ne1 : goal.returns-else-turn-ne1
returns-else-turn-ne1 c =
    let u = c.without_coordinate-3.ensures in
    let v = c.without_coordinate-2.ensures in
    let w = c.without_coordinate.ensures in
    let o = c.args in
    three_passed (turn_in 1 2 (spatial o.a) (spatial o.b) (spatial o.p)) (o.a.z -ℤ o.b.z) (o.b.y -ℤ o.a.y)
    (c.level_of-turn.ensures.0 ∙ ap (λ (z : ℤ). digit (sign z)) (returned w64 c.turn_at.type_inv (c.turn_at.ensures ∙ (λ i. turn (w i) (v i) (u i)))))
    c.if-turn-ne1.false
    c.first_of.ensures
    (c.level_of.ensures.0 ∙ ap (λ (z : ℤ). digit (sign z)) (stored_gap_law o.a.on_grid o.b.on_grid 2).is)
    (c.level_of-else-turn-ne1.ensures.0 ∙ ap (λ (z : ℤ). digit (sign z)) (stored_gap_law o.b.on_grid o.a.on_grid 1).is)
