-- `kernel::kinds::is_flat` meets its contract: a kind at a time. Assumes nothing.
use Rattle.std.proofs.Common.{sym, ap, ◌∙◌, Bool, List, [], ◌∷◌, ℤ}
use Rattle.shape.specs.Points.{point_at, points_at}
use Rattle.shape.specs.Flat.{is_flat}
use Rattle.shape.proofs.FlatLaws.{is_flat_in_plane}
use Rattle.kernel.specs.Kinds.{coordinates_of}
use Rattle.kernel.specs.declared.kinds.Kind.{Kind}
use Rattle.exact.proofs.Readings.{zero_kept_test}
use Rattle.space.proofs.SpaceLaws.{space_at, flat_by_normal}
use Rattle.kernel.proofs.kinds.is_flat.Goals as goal

abbrev flat_as : Kind → List ℤ → Bool
flat_as kind l = is_flat (coordinates_of kind) (points_at (coordinates_of kind) 3 0 l)

pub returns-in-PlaneTriangle : goal.returns-in-PlaneTriangle
returns-in-PlaneTriangle c =
    zero_kept_test c.turn_of.type_inv c.turn_of.ensures
    ∙ sym (is_flat_in_plane (point_at 2 0 c.args.numbers.now) (point_at 2 2 c.args.numbers.now) (point_at 2 4 c.args.numbers.now))
    ∙ sym (ap (λ (k : Kind). flat_as k c.args.numbers.now) c.in-PlaneTriangle.is)

pub returns-in-SpaceTriangle : goal.returns-in-SpaceTriangle
returns-in-SpaceTriangle c =
    flat_by_normal c.space_triangle.result c.normal_of.ensures c.is_null.ensures
    ∙ space_at c.space_triangle.ensures (λ a b c. is_flat 3 (a ∷ b ∷ c ∷ []))
    ∙ sym (ap (λ (k : Kind). flat_as k c.args.numbers.now) c.in-SpaceTriangle.is)
