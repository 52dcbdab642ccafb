-- What a flat shape is: a triangle whose corners lie on one line is one of its edges, and so the union of all three and of any two of them; one with
-- equal corners is its point, and so is a segment with equal ends. Over any number of coordinates, and whatever the other shape is. Assumes nothing.
use mathlib.Core.Path.{refl, sym}
use mathlib.Core.List.{[], ◌∷◌}
use mathlib.Core.Logic.{◌⊎◌, inl, inr, ⊎_elim, ◌↔◌}
use Prim.Native.Nat.{ℕ}
use Rattle.shape.specs.Points.{Point, Shape}
use Rattle.shape.specs.Sharing.{Share}
use Rattle.shape.specs.Flat.{Equal, Flat}
use Rattle.shape.proofs.Trading.{In, among_itself, share_among}
use Rattle.shape.proofs.Mixing.{absorbed, in_two}
use Rattle.shape.proofs.Lines.{OneBetween, first, second, third, flat_is_between, equal_points}

-- A corner is a point of every shape that has it.
corner_of : {n : ℕ} {a : Point} {R : Shape} → In a R → Share n (a ∷ []) R
corner_of {a} i = share_among (inl refl, tt) (i, tt) (equal_points a a (λ k l. refl))

module _ {n : ℕ} {Q : Shape} (a b c : Point) (flat : Flat n (a ∷ b ∷ c ∷ [])) where
  -- What meets a flat triangle meets one of two of its edges: the third is between the ends of one of them, or they are its two parts.
  either_edge : Share n (a ∷ b ∷ c ∷ []) Q → Share n (a ∷ b ∷ []) Q ⊎ Share n (b ∷ c ∷ []) Q
  either_edge meet = by_line ((flat_is_between a b c).0 flat)
    where
      by_line : OneBetween n a b c → Share n (a ∷ b ∷ []) Q ⊎ Share n (b ∷ c ∷ []) Q
      by_line (first between) = inr (absorbed (between, (corner_of (inl refl), (corner_of (inr (inl refl)), tt))) meet)
      by_line (second between) = in_two a b c between (absorbed (corner_of (inr (inl refl)), (between, (corner_of (inl refl), tt))) meet)
      by_line (third between) = inl (absorbed (corner_of (inl refl), (corner_of (inr (inl refl)), (between, tt))) meet)

  first_edge : Share n (a ∷ b ∷ []) Q → Share n (a ∷ b ∷ c ∷ []) Q
  first_edge = share_among (inl refl, (inr (inl refl), tt)) (among_itself Q)

  second_edge : Share n (b ∷ c ∷ []) Q → Share n (a ∷ b ∷ c ∷ []) Q
  second_edge = share_among (inr (inl refl), (inr (inr (inl refl)), tt)) (among_itself Q)

  third_edge : Share n (c ∷ a ∷ []) Q → Share n (a ∷ b ∷ c ∷ []) Q
  third_edge = share_among (inr (inr (inl refl)), (inl refl, tt)) (among_itself Q)

  -- So a flat triangle is the union of its three edges, and two of them are enough.
  pub three_edges : (Share n (a ∷ b ∷ []) Q ⊎ (Share n (b ∷ c ∷ []) Q ⊎ Share n (c ∷ a ∷ []) Q)) ↔ Share n (a ∷ b ∷ c ∷ []) Q
  three_edges = (⊎_elim first_edge (⊎_elim second_edge third_edge), λ meet. ⊎_elim (λ h. inl h) (λ h. inr (inl h)) (either_edge meet))

  pub two_edges : (Share n (a ∷ b ∷ []) Q ⊎ Share n (b ∷ c ∷ []) Q) ↔ Share n (a ∷ b ∷ c ∷ []) Q
  two_edges = (⊎_elim first_edge second_edge, either_edge)

-- A shape is a segment: two of its corners are the ends of one that has a point in common with the same shapes.
pub record IsSegment (n : ℕ) (P : Shape) : Type 0 where
  pub p : Point
  pub q : Point
  pub first_end : In p P
  pub second_end : In q P
  pub same : (Q : Shape) → Share n P Q ↔ Share n (p ∷ q ∷ []) Q

-- So a flat triangle is: the segment between the two corners that the third is between.
pub flat_is_segment : {n : ℕ} (a b c : Point) → Flat n (a ∷ b ∷ c ∷ []) → IsSegment n (a ∷ b ∷ c ∷ [])
flat_is_segment {n} a b c flat = by_line ((flat_is_between a b c).0 flat)
  where
    by_line : OneBetween n a b c → IsSegment n (a ∷ b ∷ c ∷ [])
    by_line (first between) = record {
      p = b;
      q = c;
      first_end = inr (inl refl);
      second_end = inr (inr (inl refl));
      same = λ Q. (absorbed (between, (corner_of (inl refl), (corner_of (inr (inl refl)), tt))), second_edge a b c flat);
    }
    by_line (second between) = record {
      p = c;
      q = a;
      first_end = inr (inr (inl refl));
      second_end = inl refl;
      same = λ Q. (absorbed (corner_of (inr (inl refl)), (between, (corner_of (inl refl), tt))), third_edge a b c flat);
    }
    by_line (third between) = record {
      p = a;
      q = b;
      first_end = inl refl;
      second_end = inr (inl refl);
      same = λ Q. (absorbed (corner_of (inl refl), (corner_of (inr (inl refl)), (between, tt))), first_edge a b c flat);
    }

-- A triangle with equal corners is its point.
pub equal_corners : {n : ℕ} {Q : Shape} (a b c : Point) → Equal n a b → Equal n a c → Share n (a ∷ b ∷ c ∷ []) Q ↔ Share n (a ∷ []) Q
equal_corners {Q} a b c ab ac = (
  absorbed (corner_of (inl refl), (equal_points b a (λ i l. sym (ab i l)), (equal_points c a (λ i l. sym (ac i l)), tt))),
  share_among (inl refl, tt) (among_itself Q),
)

-- A segment with equal ends is its point.
pub equal_ends : {n : ℕ} {Q : Shape} (a b : Point) → Flat n (a ∷ b ∷ []) → Share n (a ∷ b ∷ []) Q ↔ Share n (a ∷ []) Q
equal_ends {Q} a b equal = (
  absorbed (corner_of (inl refl), (equal_points b a (λ i l. sym (equal i l)), tt)),
  share_among (inl refl, tt) (among_itself Q),
)
