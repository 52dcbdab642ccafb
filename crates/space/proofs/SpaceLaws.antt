-- What the proofs of the tests in space share: the numbers of standings, what a normal tells, corners in a new order, and coordinates dropped.
-- Assumes nothing.
use mathlib.Core.Path.{◌≡◌, refl, sym, ◌∙◌, ap, subst}
use mathlib.Core.Bool.{Bool, true, false, not, ◌&&◌, cond}
use mathlib.Core.List.{List, [], ◌∷◌}
use Prim.Native.Nat.{ℕ, zero, suc, ◌*◌, ◌/◌, ◌≤◌}
use native.Mathlib.Omega.{arith}
use lib.Dec.{eqb}
use borrow.Author.Tests.{ltb-true, ltb-false}
use Rattle.std.proofs.Common.{eqb-true}
use lib.Ieee.{Float, nan}
use lib.IntN.{ℤ, nat_abs}
use mir.Val.{bool_byte}
use Rattle.shape.specs.Points.{Point, coord, point_at}
use Rattle.shape.specs.Signs.{row, sign, digit}
use Rattle.shape.specs.Flat.{is_flat}
use Rattle.shape.specs.Normals.{dot, normal_of, axis_of}
use Rattle.shape.specs.SpaceTest.{level, Standing, standing, by_standing, placed, last_signs, kept_first, kept_second, without, axis}
use Rattle.shape.proofs.FlatLaws.{is_flat_law}
use Rattle.shape.proofs.VerdictLaws.{says_fixed}
use Rattle.shape.proofs.Planes.{side_by_normal}
use Rattle.shape.proofs.Dropping.{axis_says}
use Rattle.exact.specs.Grid.{limit, Ready}
use Rattle.exact.specs.Small.{narrow, Narrow}
use Rattle.exact.specs.Vectors.{spatial, components, Sized, minor_size, narrow_size, Holds, PlaneThrough, normal_in, plane_in, plane_row}
use Rattle.space.specs.Spaces.{SpaceAt, SizedSpace, IsNormal, named_axis, IsPlaneOf, SidesHold, of_space, of_spaces, of_list, turns_in, swap_in, told_standing, Numbered, Stands, first_place, second_place, third_place, InOrder, last_signs_by}
use Rattle.estimates.specs.Doubles.{rough, plane_of}
use Rattle.estimates.specs.declared.Plane.{Plane}
use Rattle.std.specs.Prelude.{Some, None, unwrap_or}
use Rattle.exact.specs.declared.points.SpacePoint.{SpacePoint}
use Rattle.exact.specs.declared.points.Normal.{Normal}
use Rattle.exact.specs.declared.points.Triangle.{Triangle}
use Rattle.exact.proofs.GridLaws.{sized_within, sized_point}
use Rattle.exact.proofs.Readings.{kept, coordinate, sized_row, sized_normal}
use Rattle.exact.proofs.Holding.{narrow_holds, small_holds}

-- The pattern that was found is that of two lists.
pub stands_so : {p q s : ℕ} → p ≡ q → Stands p s → Stands q s
stands_so {s = s} e found = subst (λ (p : ℕ). Stands p s) e found

-- The verdict by the standing that code found, by its number.
module _ {p s : ℕ} (found : Stands p s) (close : Bool) (crossing : ℕ → Bool → Bool) {answer : Bool} where
  as_told : answer ≡ by_standing (told_standing s) close crossing → answer ≡ by_standing (standing p) close crossing
  as_told e = e ∙ ap (λ (st : Standing). by_standing st close crossing) found.told

  pub if_beside : s ≡ 0 → answer ≡ false → answer ≡ by_standing (standing p) close crossing
  if_beside e a = as_told (a ∙ ap (λ (n : ℕ). by_standing (told_standing n) close crossing) (sym e))

  pub if_within : s ≡ 1 → answer ≡ close → answer ≡ by_standing (standing p) close crossing
  if_within e a = as_told (a ∙ ap (λ (n : ℕ). by_standing (told_standing n) close crossing) (sym e))

  pub if_alone : (s ≡ 0 → ⊥) → (s ≡ 1 → ⊥) → answer ≡ crossing (turns_in s) (swap_in s) → answer ≡ by_standing (standing p) close crossing
  if_alone not_0 not_1 a = as_told (a ∙ numbered s not_0 not_1)
    where
      numbered : (n : ℕ) → (n ≡ 0 → ⊥) → (n ≡ 1 → ⊥) → crossing (turns_in n) (swap_in n) ≡ by_standing (told_standing n) close crossing
      numbered zero h k = absurd (h refl)
      numbered (suc zero) h k = absurd (k refl)
      numbered (suc (suc n)) h k = refl

-- ---- the corners of a triangle that is known to stand at a, b, c
module _ {a b c : Point} {t : Triangle SpacePoint} (at : SpaceAt a b c t) where
  pub space_size_at : {n : ℕ} → Sized n a → Sized n b → Sized n c → SizedSpace n t
  space_size_at {n} sa sb sc = record {
    at_p = subst (Sized n) (sym at.at_p) sa;
    at_q = subst (Sized n) (sym at.at_q) sb;
    at_r = subst (Sized n) (sym at.at_r) sc;
  }

  pub space_at : {X : Type 0} (f : Point → Point → Point → X) → of_space f t ≡ f a b c
  space_at f = λ i. f (at.at_p i) (at.at_q i) (at.at_r i)

pub spaces_at : {a b c p q r : Point} {t u : Triangle SpacePoint} → SpaceAt a b c t → SpaceAt p q r u → {X : Type 0} (f : (p1 q1 r1 p2 q2 r2 : Point) → X) →
    of_spaces f t u ≡ f a b c p q r
spaces_at at_t at_u f = λ i. f (at_t.at_p i) (at_t.at_q i) (at_t.at_r i) (at_u.at_p i) (at_u.at_q i) (at_u.at_r i)

-- ---- normals
-- The normal of a list's triangle is no larger than a triangle of the grid allows.
pub sized_normal_in : {l : List ℤ} → Ready 9 l → Sized minor_size (normal_in l)
sized_normal_in ready = sized_normal (sized_point ready 3 0 refl) (sized_point ready 3 3 refl) (sized_point ready 3 6 refl)

-- The normal that is kept of a list is that of its triangle.
pub normal_in_law : (l : List ℤ) {t : Triangle SpacePoint} {n : Normal} → SpaceAt (point_at 3 0 l) (point_at 3 3 l) (point_at 3 6 l) t →
    components n ≡ normal_in l → IsNormal t n
normal_in_law l at e = record { is = e ∙ sym (space_at at normal_of) }

-- And the plane that is kept of it in doubles.
pub plane_in_law : (l : List ℤ) {t : Triangle SpacePoint} {plane : Plane} → SpaceAt (point_at 3 0 l) (point_at 3 3 l) (point_at 3 6 l) t →
    plane ≡ plane_in l → IsPlaneOf t plane
plane_in_law l at e = e ∙ sym (space_at at (λ a b c. plane_of (rough a) (rough b) (rough c)))

-- The plane of a triangle in doubles, and its normal, from the first corner.
pub plane_through : {t : Triangle SpacePoint} {n : Normal} {plane : Plane} → IsNormal t n → IsPlaneOf t plane → PlaneThrough (spatial t.p) (components n) plane
plane_through {t} normal is =
    record { b = spatial t.q; c = spatial t.r; sized_b = t.q.on_grid; sized_c = t.r.on_grid; is = is; normal_is = normal.is }

-- The low word tells a product with a narrow normal, for points of the grid.
pub grid_holds : {p q : Point} {n : Point} → Sized limit p → Sized limit q → Sized narrow_size n → Holds (row p q) n
grid_holds sp sq small = narrow_holds (sized_row sp sq) small

-- And each of a triangle's corners against another's plane: where that has a narrow normal, and where all numbers are narrow.
pub normal_holds : {k l : List ℤ} → Ready 9 k → Ready 9 l → Sized narrow_size (normal_in l) → SidesHold k l
normal_holds {k} {l} rk rl small = record { at_p = one 0; at_q = one 3; at_r = one 6 }
  where
    one : (i : ℕ) → Holds (row (point_at 3 6 l) (point_at 3 i k)) (normal_in l)
    one i = grid_holds (sized_point rl 3 6 refl) (sized_point rk 3 i refl) small

pub lists_hold : (k l : List ℤ) → Narrow k → Narrow l → SidesHold k l
lists_hold k l nk nl = record { at_p = one 0; at_q = one 3; at_r = one 6 }
  where
    corner : (i : ℕ) → Sized narrow (point_at 3 i l)
    corner i = sized_within narrow l nl 3 i refl

    one : (i : ℕ) → Holds (row (point_at 3 6 l) (point_at 3 i k)) (normal_in l)
    one i = small_holds (corner 0) (corner 3) (corner 6) (corner 6) (sized_within narrow k nk 3 i refl)

-- The level over the plane through c that has the normal of a, b, c.
pub level_told : {n : Point} (a b c d : Point) → n ≡ normal_of a b c → digit (sign (dot (row c d) n)) ≡ level a b c d
level_told a b c d e = ap (λ (z : ℤ). digit (sign z)) (ap (dot (row c d)) e ∙ side_by_normal a b c d)

-- What a low word tells of a vector, where the side is held, it tells of the normal that has the same numbers.
pub low_told : {u v n : Point} {r : ℕ} → v ≡ n → (Holds u v → r ≡ digit (sign (dot u v))) → Holds u n → r ≡ digit (sign (dot u n))
low_told {u} {r = r} e = subst (λ (p : Point). Holds u p → r ≡ digit (sign (dot u p))) e

-- What the normal of a triangle tells: levels over its plane, the coordinate to drop, whether it is flat.
module _ (t : Triangle SpacePoint) {n : Normal} (normal : IsNormal t n) where
  pub level_by_normal : {r : ℕ} (d : Point) → r ≡ digit (sign (dot (row (spatial t.r) d) (components n))) → r ≡ of_space level t d
  level_by_normal d e = e ∙ level_told (spatial t.p) (spatial t.q) (spatial t.r) d normal.is

  pub axis_by_normal : {r : ℕ} → r ≡ axis_of (components n) → r ≡ of_space axis t
  axis_by_normal e = e ∙ ap axis_of normal.is

  pub flat_by_normal : {r : Bool} → r ≡ eqb (axis_of (components n)) 3 → r ≡ is_flat 3 (spatial t.p ∷ spatial t.q ∷ spatial t.r ∷ [])
  flat_by_normal e =
      e ∙ ap (λ (k : ℕ). eqb k 3) (axis_by_normal refl)
      ∙ says_fixed (axis_says (spatial t.p) (spatial t.q) (spatial t.r)) (is_flat_law 3 (spatial t.p ∷ spatial t.q ∷ spatial t.r ∷ []))

-- ---- a new order of the corners
-- What stands at the places of the new order, in each of the six orders.
pub in_places : (s r : ℕ) → Numbered s → Numbered r → {C X : Type 0} (corner : ℕ → C) (f : C → C → C → X) →
    f (corner (first_place s)) (corner (second_place s r)) (corner (third_place s r)) ≡ placed (turns_in s) (swap_in r) f (corner 0) (corner 3) (corner 6)
in_places s r hs hr corner f = by_swap (swap_in r) refl
  where
    At : (s r turns : ℕ) → Bool → Type 0
    At s r turns swap =
        f (corner (first_place s)) (corner (second_place s r)) (corner (third_place s r)) ≡ placed turns swap f (corner 0) (corner 3) (corner 6)

    each : (turns : ℕ) (swap : Bool) → turns ≤ 2 → At turns (8 * bool_byte swap) turns swap
    each zero false h = refl
    each zero true h = refl
    each (suc zero) false h = refl
    each (suc zero) true h = refl
    each (suc (suc zero)) false h = refl
    each (suc (suc zero)) true h = refl
    each (suc (suc (suc turns))) swap h = absurd (omega arith)

    -- Where the corners stand depends on no more of s and r than that.
    at : (r' : ℕ) (swap : Bool) → r' / 8 ≡ r / 8 → At (turns_in s) r' (turns_in s) swap → At s r (turns_in s) swap
    at r' swap e h =
        let first : first_place (turns_in s) ≡ first_place s = omega arith in
        let second : second_place (turns_in s) r' ≡ second_place s r = omega arith in
        let third : third_place (turns_in s) r' ≡ third_place s r = omega arith in
        sym (λ i. f (corner (first i)) (corner (second i)) (corner (third i))) ∙ h

    by_swap : (swap : Bool) → swap_in r ≡ swap → At s r (turns_in s) swap
    by_swap false e = at 0 false (omega (arith, ltb-false 7 r e)) (each (turns_in s) false hs.few)
    by_swap true e = at 8 true (omega (arith, ltb-true 7 r e, hr.small)) (each (turns_in s) true hs.few)

-- A triangle that was read in that order.
module _ (s r : ℕ) (l : List ℤ) {t : Triangle SpacePoint} (at : InOrder s r l t) where
  pub narrow_in_order : Narrow l → SizedSpace narrow t
  narrow_in_order small =
      space_size_at at (sized_within narrow l small 3 (first_place s) refl) (sized_within narrow l small 3 (second_place s r) refl)
      (sized_within narrow l small 3 (third_place s r) refl)

  pub of_in_order : Numbered s → Numbered r → {X : Type 0} (f : Point → Point → Point → X) → of_space f t ≡ of_list (placed (turns_in s) (swap_in r) f) l
  of_in_order hs hr f = space_at at f ∙ in_places s r hs hr (λ k. point_at 3 k l) f

-- The last signs of two triangles that were read so.
pub last_in_order : (s r : ℕ) (k l : List ℤ) {t u : Triangle SpacePoint} → InOrder s r k t → InOrder r s l u → Numbered s → Numbered r →
    of_spaces last_signs t u ≡ last_signs_by s r k l
last_in_order s r k l {t} {u} at_t at_u hs hr =
    of_in_order s r k at_t hs hr (λ a b c. of_space (last_signs a b c) u)
    ∙ (λ i. of_list (placed (turns_in s) (swap_in r) (λ a b c. of_in_order r s l at_u hr hs (last_signs a b c) i)) k)

-- The answer is that neither of two tests is passed.
pub neither : {v w t u : Bool} → v ≡ t → w ≡ u → not v && not w ≡ cond t false (cond u false true)
neither {v} {w} {t} {u} e f = (λ i. not (e i) && not (f i)) ∙ each t u
  where
    each : (t u : Bool) → not t && not u ≡ cond t false (cond u false true)
    each true u = refl
    each false true = refl
    each false false = refl

-- ---- a coordinate dropped
-- Where none is named, the last is dropped.
pub any_axis : {X : Type 0} (f : ℕ → X) → f 2 ≡ f 3 → (k : ℕ) → f (unwrap_or (named_axis k) 2) ≡ f k
any_axis f same k = by_test (eqb k 3) refl
  where
    by_test : (b : Bool) → eqb k 3 ≡ b → f (unwrap_or (cond b None (Some k)) 2) ≡ f k
    by_test true e = same ∙ ap f (sym (eqb-true k 3 e))
    by_test false e = refl

-- The two coordinates that are kept of a point of the grid, as code reads them.
pub kept_two : (k : ℕ) {a : Point} {x y : ℤ} → Sized limit a → x ≡ kept (coord (kept_first k) a) → y ≡ kept (coord (kept_second k) a) → Sized limit (x ∷ y ∷ [])
kept_two k {a} {x} {y} s ex ey =
    subst (Sized limit) (sym (λ i. (ex ∙ (coordinate tt s (kept_first k)).is) i ∷ (ey ∙ (coordinate tt s (kept_second k)).is) i ∷ [])) (record { each = each })
  where
    each : (i : ℕ) → nat_abs (coord i (without k a)) ≤ limit
    each zero = s.each (kept_first k)
    each (suc zero) = s.each (kept_second k)
    each (suc (suc i)) = omega arith

-- ---- rows of three doubles
-- A plane whose numbers are those of the row is the list's.
pub plane_of_row : (u : List ℤ) {p : Plane} → p.x ∷ p.y ∷ p.z ∷ [] ≡ plane_row u → p ≡ plane_in u
plane_of_row u e = λ i. record { x = first (e i); y = second (e i); z = third (e i) }
  where
    first : List Float → Float
    first [] = nan
    first (x ∷ l) = x

    second : List Float → Float
    second [] = nan
    second (x ∷ l) = first l

    third : List Float → Float
    third [] = nan
    third (x ∷ l) = second l
