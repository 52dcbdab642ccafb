-- Shapes as they are seen in some of their coordinates: what has a point in common has one there too. Assumes nothing.
use mathlib.Core.Path.{◌≡◌, refl, sym, ◌∙◌}
use mathlib.Core.List.{List, [], ◌∷◌, map}
use Prim.Native.Nat.{ℕ, zero, suc, ◌<◌}
use native.Mathlib.Omega.{arith}
use lib.ListN.{length, length-map, get_or}
use Rattle.shape.specs.Points.{Point, Shape, coord}
use Rattle.shape.specs.Sharing.{PointOf, Share}
use Rattle.shape.proofs.Weights.{weigh_map, weigh_every, every_point}

-- The point a with the listed coordinates alone, in their order.
abbrev pub seen : List ℕ → Point → Point
seen [] a = []
seen (i ∷ is) a = coord i a ∷ seen is a

coord_seen : (is : List ℕ) (k : ℕ) → k < length is → (a : Point) → coord k (seen is a) ≡ coord (get_or is k 0) a
coord_seen [] k l a = absurd (omega arith)
coord_seen (i ∷ is) zero l a = refl
coord_seen (i ∷ is) (suc k) l a = coord_seen is k (omega arith) a

-- Every listed coordinate is one of n.
abbrev pub Within : ℕ → List ℕ → Type 0
Within n [] = Unit {0}
Within n (i ∷ is) = (i < n) × Within n is

within_at : {n : ℕ} (is : List ℕ) → Within n is → (k : ℕ) → k < length is → get_or is k 0 < n
within_at [] w k l = absurd (omega arith)
within_at (i ∷ is) w zero l = w.0
within_at (i ∷ is) w (suc k) l = within_at is w.1 k (omega arith)

module _ {n : ℕ} (is : List ℕ) (w : Within n is) where
  point_seen : {P : Shape} {s : ℕ} {x : Point} → PointOf n P s x → PointOf (length is) (map (seen is) P) s (seen is x)
  point_seen {P} {s} {x} p = record {
    weights = p.weights;
    each = p.each ∙ sym (length-map P (seen is));
    sum = p.sum;
    some = p.some;
    mixed = λ k l.
        weigh_map (coord k) (seen is) p.weights P
        ∙ weigh_every (λ a. coord k (seen is a)) (coord (get_or is k 0)) p.weights P (every_point (coord_seen is k l) P)
        ∙ p.mixed (get_or is k 0) (within_at is w k l)
        ∙ sym (coord_seen is k l x);
  }

  pub share_seen : {P Q : Shape} → Share n P Q → Share (length is) (map (seen is) P) (map (seen is) Q)
  share_seen h = record { s = h.s; x = seen is h.x; of_first = point_seen h.of_first; of_second = point_seen h.of_second }
