-- Shapes in one plane of space: a coordinate at which the plane's normal is not zero can be dropped. One lemma serves triangles and
-- segments. A triangle that is not flat has such a coordinate, and dropping it leaves no triangle of that plane flat. Assumes nothing.
use mathlib.Core.Path.{◌≡◌, refl, sym, ◌∙◌, ap}
use mathlib.Core.Bool.{Bool, true, false, cond}
use mathlib.Core.List.{List, [], ◌∷◌, map}
use mathlib.Core.Logic.{◌↔◌}
use Prim.Native.Nat.{ℕ, zero, suc, ◌+◌, ◌<◌}
use native.Mathlib.Omega.{arith}
use lib.Dec.{eqb}
use lib.ListN.{length, length-map}
use lib.IntN.{ℤ, pos, negsuc, ◌+ℤ◌, ◌*ℤ◌, *ℤ_comm, *ℤ-zero, zero-*ℤ}
use Rattle.algebra.proofs.Expression.{Ex, var, lit, ◌⊞◌, ◌⊟◌, ◌⊠◌, neg}
use Rattle.algebra.proofs.Certificate.{Rel, Cert, ◌≐◌, eqn, num, ◌⊕◌, prove≡, factor_out}
use Rattle.shape.specs.Points.{Point, Shape, coord}
use Rattle.shape.specs.Signs.{turn, side}
use Rattle.shape.specs.Sharing.{total, weigh, Share}
use Rattle.shape.specs.Flat.{Flat, is_zero}
use Rattle.shape.specs.Verdicts.{Says}
use Rattle.shape.specs.SpaceTest.{kept_first, kept_second, without, axis}
use Rattle.shape.proofs.Symbols.{values, O, point, row_e, minor_e, side_e}
use Rattle.shape.proofs.Weights.{Every, every_so, weigh_map, weigh_every, weigh_zero}
use Rattle.shape.proofs.Apart.{functional, weigh_functional}
use Rattle.shape.proofs.Meeting.{CommonWeights, share_is_weights, point_with, coord_point_with}
use Rattle.shape.proofs.Shadows.{Within, share_seen}
use Rattle.shape.proofs.VerdictLaws.{says_yes, says_no}
use Rattle.shape.proofs.FlatLaws.{flat_in_space, zero_says}
use Rattle.shape.proofs.Planes.{across, offset, zero_on_plane}

-- Coordinate k of the normal of a, b, c: the turn of the three points without it.
abbrev pub normal_at : ℕ → Point → Point → Point → ℤ
normal_at k a b c = turn (without k a) (without k b) (without k c)

-- ---- two points of the plane n·x + s m = 0 that agree in two coordinates agree in the third, if n is not zero there
module _ (n0 n1 n2 m s x y z x' y' z' : ℤ)
    (here : n0 *ℤ x +ℤ (n1 *ℤ y +ℤ (n2 *ℤ z +ℤ pos 0)) +ℤ s *ℤ m ≡ pos 0)
    (there : n0 *ℤ x' +ℤ (n1 *ℤ y' +ℤ (n2 *ℤ z' +ℤ pos 0)) +ℤ s *ℤ m ≡ pos 0) where
  abbrev numbers : List ℤ
  numbers = n0 ∷ n1 ∷ n2 ∷ m ∷ s ∷ x ∷ y ∷ z ∷ x' ∷ y' ∷ z' ∷ []

  -- the plane at the coordinates from var a on
  abbrev plane_e : ℕ → Ex
  plane_e a = var 0 ⊠ var a ⊞ (var 1 ⊠ var (1 + a) ⊞ (var 2 ⊠ var (2 + a) ⊞ O)) ⊞ var 4 ⊠ var 3

  -- what is given where the coordinates i and j agree, and the certificate for the product at the third
  abbrev given : ℕ → ℕ → List Rel
  given i j = (plane_e 5 ≐ O) ∷ (plane_e 8 ≐ O) ∷ (var (5 + i) ≐ var (8 + i)) ∷ (var (5 + j) ≐ var (8 + j)) ∷ []

  abbrev left : ℕ → ℕ → Cert
  left i j = eqn 0 (lit (pos 1)) ⊕ eqn 1 (lit (negsuc 0)) ⊕ eqn 2 (neg (var i)) ⊕ eqn 3 (neg (var j))

  third_x : (n0 ≡ pos 0 → ⊥) → y ≡ y' → z ≡ z' → x ≡ x'
  third_x not-zero e f =
      factor_out n0 x x' not-zero (prove≡ numbers (given 1 2) (var 0 ⊠ var 5) (var 0 ⊠ var 8) (num 1) (left 1 2) tt tt tt refl here there e f)

  third_y : (n1 ≡ pos 0 → ⊥) → z ≡ z' → x ≡ x' → y ≡ y'
  third_y not-zero e f =
      factor_out n1 y y' not-zero (prove≡ numbers (given 2 0) (var 1 ⊠ var 6) (var 1 ⊠ var 9) (num 1) (left 2 0) tt tt tt refl here there e f)

  third_z : (n2 ≡ pos 0 → ⊥) → x ≡ x' → y ≡ y' → z ≡ z'
  third_z not-zero e f =
      factor_out n2 z z' not-zero (prove≡ numbers (given 0 1) (var 2 ⊠ var 7) (var 2 ⊠ var 10) (num 1) (left 0 1) tt tt tt refl here there e f)

-- ---- shapes in the plane of a, b, c
abbrev pub OnPlane : Point → Point → Point → Point → Type 0
OnPlane a b c x = side a b c x ≡ pos 0

kept_below : (k : ℕ) → Within 3 (kept_first k ∷ kept_second k ∷ [])
kept_below zero = (omega arith, (omega arith, tt))
kept_below (suc zero) = (omega arith, (omega arith, tt))
kept_below (suc (suc k)) = (omega arith, (omega arith, tt))

module _ (k : ℕ) (P Q : Shape) where
  module _ (a b c : Point) (on_P : Every (OnPlane a b c) P) (on_Q : Every (OnPlane a b c) Q) where
    module _ (h : CommonWeights 2 (map (without k) P) (map (without k) Q)) where
      us_each : length h.us ≡ length P
      us_each = h.us_each ∙ length-map P (without k)

      ws_each : length h.ws ≡ length Q
      ws_each = h.ws_each ∙ length-map Q (without k)

      abbrev X : ℕ → ℤ
      X i = weigh (coord i) h.us P

      abbrev Y : ℕ → ℤ
      Y i = weigh (coord i) h.ws Q

      abbrev n : ℕ → ℤ
      n i = normal_at i a b c

      abbrev m : ℤ
      m = offset c a c b

      -- the weighted sums lie on the plane too
      here : n 0 *ℤ X 0 +ℤ (n 1 *ℤ X 1 +ℤ (n 2 *ℤ X 2 +ℤ pos 0)) +ℤ pos (total h.us) *ℤ m ≡ pos 0
      here =
          sym (weigh_functional {n = 3} {P = P} {s = total h.us} {x = point_with 3 X}
          (record { weights = h.us; each = us_each; sum = refl; some = h.some; mixed = λ i l. sym (coord_point_with 3 X i l) })
          (across c a c b) m (omega arith))
          ∙ weigh_every (functional (across c a c b) m) (λ x. pos 0) h.us P (every_so (zero_on_plane a b c) P on_P)
          ∙ weigh_zero h.us P

      there : n 0 *ℤ Y 0 +ℤ (n 1 *ℤ Y 1 +ℤ (n 2 *ℤ Y 2 +ℤ pos 0)) +ℤ pos (total h.us) *ℤ m ≡ pos 0
      there =
          sym (weigh_functional {n = 3} {P = Q} {s = total h.us} {x = point_with 3 Y}
          (record { weights = h.ws; each = ws_each; sum = sym h.same; some = h.some; mixed = λ i l. sym (coord_point_with 3 Y i l) })
          (across c a c b) m (omega arith))
          ∙ weigh_every (functional (across c a c b) m) (λ x. pos 0) h.ws Q (every_so (zero_on_plane a b c) Q on_Q)
          ∙ weigh_zero h.ws Q

      by_axis : (d : ℕ) → (n d ≡ pos 0 → ⊥) → X (kept_first d) ≡ Y (kept_first d) → X (kept_second d) ≡ Y (kept_second d) → (i : ℕ) → i < 3 → X i ≡ Y i
      by_axis zero not-zero e f zero l =
          third_x (n 0) (n 1) (n 2) m (pos (total h.us)) (X 0) (X 1) (X 2) (Y 0) (Y 1) (Y 2) here there not-zero e f
      by_axis zero not-zero e f (suc zero) l = e
      by_axis zero not-zero e f (suc (suc zero)) l = f
      by_axis (suc zero) not-zero e f zero l = f
      by_axis (suc zero) not-zero e f (suc zero) l =
          third_y (n 0) (n 1) (n 2) m (pos (total h.us)) (X 0) (X 1) (X 2) (Y 0) (Y 1) (Y 2) here there not-zero e f
      by_axis (suc zero) not-zero e f (suc (suc zero)) l = e
      by_axis (suc (suc d)) not-zero e f zero l = e
      by_axis (suc (suc d)) not-zero e f (suc zero) l = f
      by_axis (suc (suc d)) not-zero e f (suc (suc zero)) l =
          third_z (n 0) (n 1) (n 2) m (pos (total h.us)) (X 0) (X 1) (X 2) (Y 0) (Y 1) (Y 2) here there not-zero e f
      by_axis d not-zero e f (suc (suc (suc i))) l = absurd (omega arith)

      lifted : (n k ≡ pos 0 → ⊥) → CommonWeights 3 P Q
      lifted not-zero = record {
        us = h.us;
        ws = h.ws;
        us_each = us_each;
        ws_each = ws_each;
        same = h.same;
        some = h.some;
        agree = by_axis k not-zero
            (sym (weigh_map (coord 0) (without k) h.us P) ∙ h.agree 0 (omega arith) ∙ weigh_map (coord 0) (without k) h.ws Q)
            (sym (weigh_map (coord 1) (without k) h.us P) ∙ h.agree 1 (omega arith) ∙ weigh_map (coord 1) (without k) h.ws Q);
      }

    -- They have a point in common exactly when they have one without the coordinate k.
    pub share_dropped : (normal_at k a b c ≡ pos 0 → ⊥) → Share 2 (map (without k) P) (map (without k) Q) ↔ Share 3 P Q
    share_dropped not-zero =
        (λ h. share_is_weights.1 (lifted (share_is_weights.0 h) not-zero), share_seen (kept_first k ∷ kept_second k ∷ []) (kept_below k))

-- ---- the coordinate to drop
module _ (a b c : Point) where
  -- The axis is 3 where the triangle is flat, and only there; and elsewhere the normal is not zero at it.
  abbrev Serves : ℕ → Type 0
  Serves k = Says (eqb k 3) (Flat 3 (a ∷ b ∷ c ∷ [])) × ((Flat 3 (a ∷ b ∷ c ∷ []) → ⊥) → normal_at k a b c ≡ pos 0 → ⊥)

  axis_serves : Serves (axis a b c)
  axis_serves = by_tests (is_zero (normal_at 2 a b c)) (is_zero (normal_at 1 a b c)) (is_zero (normal_at 0 a b c)) (zero_says _) (zero_says _) (zero_says _)
    where
      by_tests : (z y x : Bool) → Says z (normal_at 2 a b c ≡ pos 0) → Says y (normal_at 1 a b c ≡ pos 0) → Says x (normal_at 0 a b c ≡ pos 0) →
          Serves (cond z (cond y (cond x 3 0) 1) 2)
      by_tests false y x at-z at_y at_x = (says_no (λ flat. at-z.no refl ((flat_in_space a b c).0 flat).2), λ never_flat. at-z.no refl)
      by_tests true false x at-z at_y at_x = (says_no (λ flat. at_y.no refl ((flat_in_space a b c).0 flat).1), λ never_flat. at_y.no refl)
      by_tests true true false at-z at_y at_x = (says_no (λ flat. at_x.no refl ((flat_in_space a b c).0 flat).0), λ never_flat. at_x.no refl)
      by_tests true true true at-z at_y at_x =
          let flat : Flat 3 (a ∷ b ∷ c ∷ []) = (flat_in_space a b c).1 (at_x.yes refl, at_y.yes refl, at-z.yes refl) in
          (says_yes flat, λ never_flat. absurd (never_flat flat))

  pub axis_says : Says (eqb (axis a b c) 3) (Flat 3 (a ∷ b ∷ c ∷ []))
  axis_says = axis_serves.0

  pub axis_stands : (Flat 3 (a ∷ b ∷ c ∷ []) → ⊥) → normal_at (axis a b c) a b c ≡ pos 0 → ⊥
  axis_stands = axis_serves.1

-- ---- a triangle p q r in the plane of a, b, c: its normal is along that of a, b, c
module _ (p q r a b c : Point) (on_p : OnPlane a b c p) (on_q : OnPlane a b c q) (on_r : OnPlane a b c r) where
  abbrev ρ : List ℤ
  ρ = values (p ∷ q ∷ r ∷ a ∷ b ∷ c ∷ [])

  -- The normals of p, q, r and of a, b, c at the coordinate whose others are u and v.
  abbrev own : ℕ → ℕ → Ex
  own u v = minor_e u v (row_e (point 0) (point 2)) (row_e (point 1) (point 2))

  abbrev plane's : ℕ → ℕ → Ex
  plane's u v = minor_e u v (row_e (point 3) (point 5)) (row_e (point 4) (point 5))

  abbrev on_plane : List Rel
  on_plane = (side_e 3 4 5 0 ≐ O) ∷ (side_e 3 4 5 1 ≐ O) ∷ (side_e 3 4 5 2 ≐ O) ∷ []

  -- At the coordinate d, (p - r) × (q - r) × n is q - r times n·(p - r) less p - r times n·(q - r), and both are zero.
  abbrev none_at : ℕ → Cert
  none_at d = eqn 0 (point 2 d ⊟ point 1 d) ⊕ eqn 1 (point 0 d ⊟ point 2 d) ⊕ eqn 2 (point 1 d ⊟ point 0 d)

  parallel_xy : normal_at 0 p q r *ℤ normal_at 1 a b c ≡ normal_at 1 p q r *ℤ normal_at 0 a b c
  parallel_xy = prove≡ ρ on_plane (own 1 2 ⊠ plane's 2 0) (own 2 0 ⊠ plane's 1 2) (num 1) (none_at 2) tt tt tt refl on_p on_q on_r

  parallel_yz : normal_at 1 p q r *ℤ normal_at 2 a b c ≡ normal_at 2 p q r *ℤ normal_at 1 a b c
  parallel_yz = prove≡ ρ on_plane (own 2 0 ⊠ plane's 0 1) (own 0 1 ⊠ plane's 2 0) (num 1) (none_at 0) tt tt tt refl on_p on_q on_r

  parallel_zx : normal_at 2 p q r *ℤ normal_at 0 a b c ≡ normal_at 0 p q r *ℤ normal_at 2 a b c
  parallel_zx = prove≡ ρ on_plane (own 0 1 ⊠ plane's 1 2) (own 1 2 ⊠ plane's 0 1) (num 1) (none_at 1) tt tt tt refl on_p on_q on_r

  -- So where it is zero at k and that of a, b, c is not, it is zero.
  zero_with : (k i : ℕ) → (normal_at k a b c ≡ pos 0 → ⊥) → normal_at k p q r ≡ pos 0 →
      normal_at i p q r *ℤ normal_at k a b c ≡ normal_at k p q r *ℤ normal_at i a b c → normal_at i p q r ≡ pos 0
  zero_with k i not-zero e h =
      factor_out (normal_at k a b c) (normal_at i p q r) (pos 0) not-zero
      (*ℤ_comm (normal_at k a b c) (normal_at i p q r) ∙ h ∙ ap (λ (z : ℤ). z *ℤ normal_at i a b c) e ∙ zero-*ℤ (normal_at i a b c) ∙ sym (*ℤ-zero (normal_at k a b c)))

  pub flat_dropped : (k : ℕ) → (normal_at k a b c ≡ pos 0 → ⊥) → normal_at k p q r ≡ pos 0 → Flat 3 (p ∷ q ∷ r ∷ [])
  flat_dropped zero not-zero e =
      (flat_in_space p q r).1 (e, zero_with 0 1 not-zero e (sym parallel_xy), zero_with 0 2 not-zero e parallel_zx)
  flat_dropped (suc zero) not-zero e =
      (flat_in_space p q r).1 (zero_with 1 0 not-zero e parallel_xy, e, zero_with 1 2 not-zero e (sym parallel_yz))
  flat_dropped (suc (suc k)) not-zero e =
      (flat_in_space p q r).1 (zero_with 2 0 not-zero e (sym parallel_zx), zero_with 2 1 not-zero e parallel_yz, e)
