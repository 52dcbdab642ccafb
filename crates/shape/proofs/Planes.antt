-- Planes of space: the functional along two directions, the plane of a triangle as one of them, its sides by its normal, and what lies
-- strictly on one side of it. Assumes nothing.
use mathlib.Core.Path.{◌≡◌, refl, sym, ap, subst, ◌∙◌}
use mathlib.Core.List.{List, [], ◌∷◌}
use Prim.Native.Nat.{ℕ, zero, suc}
use native.Mathlib.Omega.{arith}
use lib.IntN.{ℤ, pos, neg_ℤ}
use lib.Signed.{◌≤ℤ◌, ◌<ℤ◌, ≤ℤ_refl}
use Rattle.algebra.proofs.Expression.{Ex, var, ◌⊞◌, ◌⊠◌, neg}
use Rattle.algebra.proofs.Solver.{ring}
use Rattle.algebra.proofs.Certificate.{◌≺◌, hyp, num, prove<}
use Rattle.shape.specs.Points.{Point, Shape}
use Rattle.shape.specs.Signs.{row, side}
use Rattle.shape.specs.Normals.{minors, dot, normal_of}
use Rattle.shape.specs.Sharing.{Share}
use Rattle.shape.proofs.Symbols.{values, O, PointE, point, row_e, minor_e, side_e}
use Rattle.shape.proofs.SignLaws.{equal_points}
use Rattle.shape.proofs.Weights.{Every, every_so}
use Rattle.shape.proofs.Trading.{first, second, third, among_itself, share_among}
use Rattle.shape.proofs.Apart.{dot_from, functional, apart}

-- ---- the functional along a → b and c → d, zero at a: its numbers are those of (b - a) × (d - c)
abbrev pub across : Point → Point → Point → Point → List ℤ
across a b c d = minors (row b a) (row d c)

abbrev pub offset : Point → Point → Point → Point → ℤ
offset a b c d = neg_ℤ (dot_from 0 (across a b c d) a)

-- The same of symbols, and its value at the point x.
abbrev across_e : ℕ → ℕ → ℕ → ℕ → PointE
across_e a b c d zero = minor_e 1 2 (row_e (point b) (point a)) (row_e (point d) (point c))
across_e a b c d (suc zero) = minor_e 2 0 (row_e (point b) (point a)) (row_e (point d) (point c))
across_e a b c d (suc (suc k)) = minor_e 0 1 (row_e (point b) (point a)) (row_e (point d) (point c))

abbrev dot_e : PointE → PointE → Ex
dot_e n x = n 0 ⊠ x 0 ⊞ (n 1 ⊠ x 1 ⊞ (n 2 ⊠ x 2 ⊞ O))

abbrev pub across_at : ℕ → ℕ → ℕ → ℕ → ℕ → Ex
across_at a b c d x = dot_e (across_e a b c d) (point x) ⊞ neg (dot_e (across_e a b c d) (point a))

-- ---- the plane of a triangle
abbrev product_e : PointE → PointE → Ex
product_e u n = u 0 ⊠ n 0 ⊞ u 1 ⊠ n 1 ⊞ u 2 ⊠ n 2

-- The side of x is the row c - x times the normal, which is the same for every x.
pub side_by_normal : (a b c x : Point) → dot (row c x) (normal_of a b c) ≡ side a b c x
side_by_normal a b c x = ring (values (a ∷ b ∷ c ∷ x ∷ [])) (product_e (row_e (point 2) (point 3)) (across_e 2 0 2 1)) (side_e 0 1 2 3) tt refl

-- The functional of the plane has the normal's numbers, and is the opposite of the side.
pub plane_is_side : (a b c x : Point) → functional (across c a c b) (offset c a c b) x ≡ neg_ℤ (side a b c x)
plane_is_side a b c x =
    ring (values (normal_of a b c ∷ c ∷ x ∷ []))
    (dot_e (point 0) (point 2) ⊞ neg (dot_e (point 0) (point 1)))
    (neg (product_e (row_e (point 1) (point 2)) (point 0))) tt refl
    ∙ ap neg_ℤ (side_by_normal a b c x)

-- So it is zero on the plane.
pub zero_on_plane : (a b c x : Point) → side a b c x ≡ pos 0 → functional (across c a c b) (offset c a c b) x ≡ pos 0
zero_on_plane a b c x e = plane_is_side a b c x ∙ ap neg_ℤ e

-- The corners of a triangle are on its plane.
pub corners_on : (a b c : Point) → Every (λ x. side a b c x ≡ pos 0) (a ∷ b ∷ c ∷ [])
corners_on a b c = (equal_points [] a (b ∷ c ∷ []) [], (equal_points (a ∷ []) b (c ∷ []) [], (equal_points (a ∷ b ∷ []) c [] [], tt)))

-- What lies strictly below the plane of a triangle has no point in common with it, and what lies strictly above it neither.
pub below_plane : (a b c : Point) (Q : Shape) → Every (λ x. side a b c x <ℤ pos 0) Q → Share 3 (a ∷ b ∷ c ∷ []) Q → ⊥
below_plane a b c Q h =
    apart (across c a c b) (offset c a c b) (omega arith)
    (every_so on (a ∷ b ∷ c ∷ []) (corners_on a b c))
    (every_so below Q h)
  where
    on : (x : Point) → side a b c x ≡ pos 0 → functional (across c a c b) (offset c a c b) x ≤ℤ pos 0
    on x e = subst (λ (z : ℤ). z ≤ℤ pos 0) (sym (zero_on_plane a b c x e)) (≤ℤ_refl (pos 0))

    above_zero : (z : ℤ) → z <ℤ pos 0 → pos 0 <ℤ neg_ℤ z
    above_zero z = prove< (z ∷ []) ((var 0 ≺ O) ∷ []) O (neg (var 0)) (num 1) (hyp 0) tt tt refl

    below : (x : Point) → side a b c x <ℤ pos 0 → pos 0 <ℤ functional (across c a c b) (offset c a c b) x
    below x l = subst (λ (z : ℤ). pos 0 <ℤ z) (sym (plane_is_side a b c x)) (above_zero (side a b c x) l)

pub above_plane : (a b c : Point) (Q : Shape) → Every (λ x. pos 0 <ℤ side a b c x) Q → Share 3 (a ∷ b ∷ c ∷ []) Q → ⊥
above_plane a b c Q h s =
    below_plane a c b Q (every_so turned Q h) (share_among (first, (third, (second, tt))) (among_itself Q) s)
  where
    turned : (x : Point) → pos 0 <ℤ side a b c x → side a c b x <ℤ pos 0
    turned x = prove< (values (a ∷ b ∷ c ∷ x ∷ [])) ((O ≺ side_e 0 1 2 3) ∷ []) (side_e 0 2 1 3) O (num 1) (hyp 0) tt tt refl
