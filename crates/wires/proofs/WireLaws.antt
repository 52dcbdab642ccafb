-- What the proofs of the tests of flat shapes share: numbers read, and triangles read. Assumes nothing.
use Rattle.std.proofs.Common.{◌≡◌, ◌∙◌, ℕ, [], ◌∷◌, Bool, ℤ, eqb}
use Rattle.shape.specs.Points.{Point, coord}
use Rattle.shape.specs.Flat.{is_flat}
use Rattle.shape.specs.Normals.{axis_of}
use Rattle.exact.specs.Grid.{limit}
use Rattle.exact.specs.Sizes.{Sized}
use Rattle.exact.specs.Vectors.{components}
use Rattle.exact.specs.declared.points.SpacePoint.{SpacePoint}
use Rattle.exact.specs.declared.points.Normal.{Normal}
use Rattle.exact.specs.declared.points.Triangle.{Triangle}
use Rattle.exact.proofs.Readings.{kept, coordinate}
use Rattle.space.specs.Spaces.{SpaceAt, IsNormal}
use Rattle.space.proofs.SpaceLaws.{space_at, flat_by_normal}

-- Coordinate k of four points of the grid: what is said of the numbers that were read is said of those that are meant.
pub along_read : (f : (p q u v : ℤ) → Bool) {p q u v : Point} → Sized limit p → Sized limit q → Sized limit u → Sized limit v → (k : ℕ) (r : Bool) →
    r ≡ f (kept (coord k p)) (kept (coord k q)) (kept (coord k u)) (kept (coord k v)) → r ≡ f (coord k p) (coord k q) (coord k u) (coord k v)
along_read f at_p at_q at_u at_v k r e =
    e ∙ (λ i. f ((coordinate tt at_p k).is i) ((coordinate tt at_q k).is i) ((coordinate tt at_u k).is i) ((coordinate tt at_v k).is i))

-- A triangle that was read is flat exactly where its normal is zero.
pub flat_read : {a b c : Point} {t : Triangle SpacePoint} {n : Normal} {r : Bool} → SpaceAt a b c t → IsNormal t n → r ≡ eqb (axis_of (components n)) 3 →
    r ≡ is_flat 3 (a ∷ b ∷ c ∷ [])
flat_read {t = t} at normal e = flat_by_normal t normal e ∙ space_at at (λ a b c. is_flat 3 (a ∷ b ∷ c ∷ []))
