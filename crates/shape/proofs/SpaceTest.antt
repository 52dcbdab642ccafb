-- The tests in space (specs/SpaceTest.antt) are right: two triangles that are not flat in one plane, two of which each has a corner alone, and a
-- segment and a triangle that is not flat. Assumes nothing.
use mathlib.Core.Path.{◌≡◌, refl, sym, ◌∙◌, subst₃}
use mathlib.Core.Bool.{Bool, true, false}
use mathlib.Core.List.{[], ◌∷◌}
use mathlib.Core.Logic.{inl, inr}
use Prim.Native.Nat.{ℕ, zero, suc}
use lib.IntN.{ℤ, pos, neg_ℤ, neg_ℤ-neg_ℤ}
use Rattle.shape.specs.Points.{Point}
use Rattle.shape.specs.Signs.{side}
use Rattle.shape.specs.Sharing.{Share}
use Rattle.shape.specs.Flat.{Flat}
use Rattle.shape.specs.Verdicts.{Says}
use Rattle.shape.specs.SpaceTest.{beside, alone, swapped, placed, without, axis, in_plane_test, segment_in_plane_test, last_signs, segment_space_test}
use Rattle.shape.proofs.SignLaws.{neighbours_trade, carry_past}
use Rattle.shape.proofs.Trading.{share_trade, share_among, among_itself, share_turned, share_turned_twice, share_mirrored}
use Rattle.shape.proofs.VerdictLaws.{says_same}
use Rattle.shape.proofs.FlatLaws.{flat_in_plane}
use Rattle.shape.proofs.PlaneTest.{triangle_test_law, segment_test_law}
use Rattle.shape.proofs.Standings.{Alone, alone_swapped, By, After, Fits, says_by_ends}
use Rattle.shape.proofs.Planes.{corners_on, below_plane, above_plane}
use Rattle.shape.proofs.Dropping.{normal_at, OnPlane, share_dropped, axis_stands, flat_dropped}
use Rattle.shape.proofs.SpaceLeaves.{last_signs_law, past_no_edge_law}

-- ---- one plane
not_flat_without : (k : ℕ) (a b c : Point) → (normal_at k a b c ≡ pos 0 → ⊥) → Flat 2 (without k a ∷ without k b ∷ without k c ∷ []) → ⊥
not_flat_without k a b c not-zero flat = not-zero ((flat_in_plane (without k a) (without k b) (without k c)).0 flat)

pub in_plane : (p1 q1 r1 p2 q2 r2 : Point) → (Flat 3 (p1 ∷ q1 ∷ r1 ∷ []) → ⊥) → (Flat 3 (p2 ∷ q2 ∷ r2 ∷ []) → ⊥) →
    OnPlane p2 q2 r2 p1 → OnPlane p2 q2 r2 q1 → OnPlane p2 q2 r2 r1 →
    Says (in_plane_test p1 q1 r1 p2 q2 r2) (Share 3 (p1 ∷ q1 ∷ r1 ∷ []) (p2 ∷ q2 ∷ r2 ∷ []))
in_plane p1 q1 r1 p2 q2 r2 not-flat-1 not-flat-2 on_p on_q on_r =
    let k = axis p2 q2 r2 in
    let stands = axis_stands p2 q2 r2 not-flat-2 in
    says_same
    (share_dropped k (p1 ∷ q1 ∷ r1 ∷ []) (p2 ∷ q2 ∷ r2 ∷ []) p2 q2 r2 (on_p, (on_q, (on_r, tt))) (corners_on p2 q2 r2) stands)
    (triangle_test_law (without k p1) (without k q1) (without k r1) (without k p2) (without k q2) (without k r2)
    (not_flat_without k p1 q1 r1 (λ e. not-flat-1 (flat_dropped p1 q1 r1 p2 q2 r2 on_p on_q on_r k stands e)))
    (not_flat_without k p2 q2 r2 stands))

segment_in_plane : (p q a b c : Point) → (Flat 3 (a ∷ b ∷ c ∷ []) → ⊥) → OnPlane a b c p → OnPlane a b c q →
    Says (segment_in_plane_test p q a b c) (Share 3 (p ∷ q ∷ []) (a ∷ b ∷ c ∷ []))
segment_in_plane p q a b c never_flat on_p on_q =
    let k = axis a b c in
    let stands = axis_stands a b c never_flat in
    says_same (share_dropped k (p ∷ q ∷ []) (a ∷ b ∷ c ∷ []) a b c (on_p, (on_q, tt)) (corners_on a b c) stands)
    (segment_test_law (without k p) (without k q) (without k a) (without k b) (without k c) (not_flat_without k a b c stands))

-- ---- the corners of a plane in another order: turning them leaves every side value, swapping two turns its sign
module _ (a b c x : Point) where
  side_turned : side a b c x ≡ side b c a x
  side_turned = carry_past [] a (b ∷ c ∷ []) (x ∷ []) ∙ neg_ℤ-neg_ℤ (side b c a x)

  side_swapped : neg_ℤ (side a b c x) ≡ side a c b x
  side_swapped = sym (neighbours_trade (a ∷ []) c b (x ∷ []))

-- The corners p, q, r against the plane of a, b, c, with F what is known of their side values.
module _ (F : ℤ → ℤ → ℤ → Type 0) (p q r a b c : Point) where
  plane_turned : F (side a b c p) (side a b c q) (side a b c r) → F (side b c a p) (side b c a q) (side b c a r)
  plane_turned = subst₃ F (side_turned a b c p) (side_turned a b c q) (side_turned a b c r)

  plane_swapped : F (neg_ℤ (side a b c p)) (neg_ℤ (side a b c q)) (neg_ℤ (side a b c r)) → F (side a c b p) (side a c b q) (side a c b r)
  plane_swapped = subst₃ F (side_swapped a b c p) (side_swapped a b c q) (side_swapped a b c r)

-- ---- the new order
-- The triangle x y z in a new order against the triangle a b c: K is what is to be known of a, b, c against the plane of x y z, M of
-- x, y, z against that of a b c. A verdict g that is right in the new order is right for the corners as they stood.
module _ (a b c : Point) (K M : ℤ → ℤ → ℤ → Type 0) (M-swapped : (x y z : ℤ) → M x y z → M x z y) (g : Point → Point → Point → Bool)
    (right : (x y z : Point) → K (side x y z a) (side x y z b) (side x y z c) → M (side a b c x) (side a b c y) (side a b c z) →
    Says (g x y z) (Share 3 (a ∷ b ∷ c ∷ []) (x ∷ y ∷ z ∷ []))) where
  after_swap : (swap : Bool) (x y z : Point) →
      By swap K (side x y z a) (side x y z b) (side x y z c) → M (side a b c x) (side a b c y) (side a b c z) →
      Says (swapped swap g x y z) (Share 3 (a ∷ b ∷ c ∷ []) (x ∷ y ∷ z ∷ []))
  after_swap false x y z k m = right x y z k m
  after_swap true x y z k m =
      says_same (share_mirrored (a ∷ b ∷ c ∷ []) x y z)
      (right x z y (plane_swapped K a b c x y z k) (M-swapped (side a b c x) (side a b c y) (side a b c z) m))

  in_new_order : (turns : ℕ) (swap : Bool) (x y z : Point) →
      By swap K (side x y z a) (side x y z b) (side x y z c) → After turns M (side a b c x) (side a b c y) (side a b c z) →
      Says (placed turns swap g x y z) (Share 3 (a ∷ b ∷ c ∷ []) (x ∷ y ∷ z ∷ []))
  in_new_order zero swap x y z k m = after_swap swap x y z k m
  in_new_order (suc zero) swap x y z k m =
      says_same (share_turned (a ∷ b ∷ c ∷ []) x y z) (after_swap swap y z x (plane_turned (By swap K) a b c x y z k) m)
  in_new_order (suc (suc n)) swap x y z k m =
      says_same (share_turned_twice (a ∷ b ∷ c ∷ []) x y z) (after_swap swap z x y (plane_turned (By swap K) a b c y z x (plane_turned (By swap K) a b c x y z k)) m)

alone_by_swapped : (swap : Bool) (x y z : ℤ) → By swap Alone x y z → By swap Alone x z y
alone_by_swapped false x y z h = alone_swapped h
alone_by_swapped true x y z h = alone_swapped h

-- Turning the signs and turning the corners can be done in either order.
signs_first : (turns : ℕ) (swap : Bool) (x y z : ℤ) → After turns (By swap Alone) x y z → By swap (After turns Alone) x y z
signs_first zero false x y z h = h
signs_first zero true x y z h = h
signs_first (suc zero) false x y z h = h
signs_first (suc zero) true x y z h = h
signs_first (suc (suc turns)) false x y z h = h
signs_first (suc (suc turns)) true x y z h = h

-- Both triangles in their new orders: the second one inside, against the first as it is then, and the first one outside.
pub crossing : (p1 q1 r1 p2 q2 r2 : Point) (turns1 turns2 : ℕ) (swap1 swap2 : Bool) →
    Fits (alone turns1 swap2) (side p2 q2 r2 p1) (side p2 q2 r2 q1) (side p2 q2 r2 r1) →
    Fits (alone turns2 swap1) (side p1 q1 r1 p2) (side p1 q1 r1 q2) (side p1 q1 r1 r2) →
    Says (placed turns1 swap1 (λ a b c. placed turns2 swap2 (last_signs a b c) p2 q2 r2) p1 q1 r1) (Share 3 (p1 ∷ q1 ∷ r1 ∷ []) (p2 ∷ q2 ∷ r2 ∷ []))
crossing p1 q1 r1 p2 q2 r2 turns1 turns2 swap1 swap2 fit-1 fit-2 =
    says_same (share_trade, share_trade)
    (in_new_order p2 q2 r2 (After turns2 Alone) (By swap2 Alone) (alone_by_swapped swap2) (λ a b c. placed turns2 swap2 (last_signs a b c) p2 q2 r2)
    (λ a b c fit lone. says_same (share_trade, share_trade) (second_in_order a b c lone fit))
    turns1 swap1 p1 q1 r1 (signs_first turns2 swap1 (side p1 q1 r1 p2) (side p1 q1 r1 q2) (side p1 q1 r1 r2) fit-2) fit-1)
  where
    second_in_order : (a b c : Point) → By swap2 Alone (side p2 q2 r2 a) (side p2 q2 r2 b) (side p2 q2 r2 c) →
        After turns2 Alone (side a b c p2) (side a b c q2) (side a b c r2) →
        Says (placed turns2 swap2 (last_signs a b c) p2 q2 r2) (Share 3 (a ∷ b ∷ c ∷ []) (p2 ∷ q2 ∷ r2 ∷ []))
    second_in_order a b c lone fit =
        in_new_order a b c Alone Alone (λ x y z h. alone_swapped h) (last_signs a b c) (last_signs_law a b c) turns2 swap2 p2 q2 r2 lone fit

-- ---- beside a plane, and a segment
-- All corners of a triangle on one side of another's plane.
pub beside_apart : (a b c p q r : Point) → Fits beside (side a b c p) (side a b c q) (side a b c r) → Share 3 (a ∷ b ∷ c ∷ []) (p ∷ q ∷ r ∷ []) → ⊥
beside_apart a b c p q r (inl h) = below_plane a b c (p ∷ q ∷ r ∷ []) (h.0, (h.1, (h.2, tt)))
beside_apart a b c p q r (inr h) = above_plane a b c (p ∷ q ∷ r ∷ []) (h.0, (h.1, (h.2, tt)))

-- A segment, flat or not, and a triangle that is not flat, in space.
pub segment_space_test_law : (p q a b c : Point) → (Flat 3 (a ∷ b ∷ c ∷ []) → ⊥) →
    Says (segment_space_test p q a b c) (Share 3 (p ∷ q ∷ []) (a ∷ b ∷ c ∷ []))
segment_space_test_law p q a b c never_flat =
    says_by_ends (side a b c p) (side a b c q)
    (λ at_p at_q s. below_plane a b c (p ∷ q ∷ []) (at_p, (at_q, tt)) (share_trade s))
    (λ at_p at_q s. above_plane a b c (p ∷ q ∷ []) (at_p, (at_q, tt)) (share_trade s))
    (segment_in_plane p q a b c never_flat)
    (past_no_edge_law p q a b c)
    (λ at_q at_p falls. says_same (ends_traded q p, ends_traded p q) (past_no_edge_law q p a b c at_q at_p falls))
  where
    ends_traded : (u v : Point) → Share 3 (u ∷ v ∷ []) (a ∷ b ∷ c ∷ []) → Share 3 (v ∷ u ∷ []) (a ∷ b ∷ c ∷ [])
    ends_traded u v = share_among (inr (inl refl), (inl refl, tt)) (among_itself (a ∷ b ∷ c ∷ []))
