-- A segment and a triangle by the levels of the segment's ends over the triangle's plane, read as one number (`ends_over` in specs/Spaces.antt of crate
-- `space`); and the edges of a triangle as parts of its list. Assumes nothing.
use mathlib.Core.Path.{◌≡◌, refl, sym, ap, ◌∙◌}
use mathlib.Core.Bool.{Bool, true, false, cond}
use mathlib.Core.List.{List, [], ◌∷◌}
use Prim.Native.Nat.{ℕ, zero, suc, ◌+◌, ◌-◌, ◌*◌, ◌/◌, ◌%◌, ◌≤◌}
use native.Mathlib.Omega.{arith}
use borrow.Author.Tests.{eq-eqb, ne_eqb}
use lib.Dec.{ltb}
use lib.IntN.{ℤ, pos, negsuc}
use lib.ListN.{take, drop}
use lib.Seq.{get_or-take, get_or-drop}
use mir.Val.{bool_byte}
use Rattle.algebra.proofs.Expression.{◌⊞◌, ◌⊠◌}
use Rattle.algebra.proofs.Solver.{ring}
use Rattle.algebra.proofs.Parts.{length_part}
use Rattle.shape.specs.Points.{Point, point_at}
use Rattle.shape.specs.Signs.{row, side, sign, digit}
use Rattle.shape.specs.Flat.{is_flat}
use Rattle.shape.specs.Normals.{dot}
use Rattle.shape.specs.SpaceTest.{level, past_no_edge, by_ends, segment_in_plane_test}
use Rattle.shape.specs.WireTest.{segment_triangle_test}
use Rattle.shape.proofs.Symbols.{values, O, point, row_e}
use Rattle.shape.proofs.FlatLaws.{is_flat_law, flat_in_space}
use Rattle.shape.proofs.Planes.{side_by_normal}
use Rattle.exact.specs.Grid.{limit, Ready}
use Rattle.exact.proofs.GridLaws.{small_taken, small_dropped}
use Rattle.exact.proofs.Branches.{if_taken, if_left, if_different, by_cases}
use Rattle.space.specs.Spaces.{of_list, of_segment, ends_over}
use Rattle.wires.specs.Wires.{edges_meet, level_test}

-- ---- levels
digit_small : (z : ℤ) → digit (sign z) ≤ 2
digit_small (pos zero) = omega arith
digit_small (pos (suc n)) = omega arith
digit_small (negsuc n) = omega arith

-- Every point is on the plane of a flat triangle, whose normal is zero.
flat_level : (a b c x : Point) → is_flat 3 (a ∷ b ∷ c ∷ []) ≡ true → level a b c x ≡ 1
flat_level a b c x flat =
    let zeros = (flat_in_space a b c).0 ((is_flat_law 3 (a ∷ b ∷ c ∷ [])).yes flat) in
    let u = row_e (point 0) (point 1) in
    ap (λ (z : ℤ). digit (sign z))
    (sym (side_by_normal a b c x)
    ∙ (λ i. dot (row c x) (zeros.0 i ∷ zeros.1 i ∷ zeros.2 i ∷ []))
    ∙ ring (values (c ∷ x ∷ [])) (u 0 ⊠ O ⊞ u 1 ⊠ O ⊞ u 2 ⊠ O) O tt refl)

-- ---- the verdict by the number of the ends
module _ (p q a b c : Point) {e : ℕ} (ends : e ≡ ends_over p q a b c) where
  -- Where one end is off the plane the triangle is not flat.
  never_flat : (e ≡ 4 → ⊥) → is_flat 3 (a ∷ b ∷ c ∷ []) ≡ false
  never_flat off = by_test (is_flat 3 (a ∷ b ∷ c ∷ [])) refl
    where
      by_test : (v : Bool) → is_flat 3 (a ∷ b ∷ c ∷ []) ≡ v → is_flat 3 (a ∷ b ∷ c ∷ []) ≡ false
      by_test false flat = flat
      by_test true flat = absurd (off (ends ∙ (λ i. 3 * flat_level a b c p flat i + flat_level a b c q flat i)))

  -- Both ends strictly on one side.
  pub ends_beside : e % 8 ≡ 0 → false ≡ segment_triangle_test p q a b c
  ends_beside on-one-side =
      let at_p = digit_small (side a b c p) in
      let at_q = digit_small (side a b c q) in
      let same : level a b c p ≡ level a b c q = omega arith in
      let off : e ≡ 4 → ⊥ = λ four. omega arith in
      if_left _ _ refl (never_flat off) (if_taken _ _ refl (eq-eqb (level a b c p) (level a b c q) same) (if_different 1 {r = level a b c p} _ _ refl (λ one. off (omega arith)) refl))

  -- Both on the plane.
  pub ends_level : {answer : Bool} → e ≡ 4 → answer ≡ level_test p q a b c → answer ≡ segment_triangle_test p q a b c
  ends_level four found =
      let small_p = digit_small (side a b c p) in
      let small_q = digit_small (side a b c q) in
      let at_p : level a b c p ≡ 1 = omega arith in
      let at_q : level a b c q ≡ 1 = omega arith in
      found
      ∙ sym (λ i. cond (is_flat 3 (a ∷ b ∷ c ∷ [])) (edges_meet p q a b c)
      (by_ends (at_p i) (at_q i) (segment_in_plane_test p q a b c) (past_no_edge p q a b c) (past_no_edge q p a b c)))

  -- One higher than the other.
  pub ends_through : {answer : Bool} → (e % 8 ≡ 0 → ⊥) → (e ≡ 4 → ⊥) → answer ≡ cond (ltb (e / 3) (e % 3)) (past_no_edge q p a b c) (past_no_edge p q a b c) →
      answer ≡ segment_triangle_test p q a b c
  ends_through not_beside not_level found =
      let small_p = digit_small (side a b c p) in
      let small_q = digit_small (side a b c q) in
      let at_p : e / 3 ≡ level a b c p = omega arith in
      let at_q : e % 3 ≡ level a b c q = omega arith in
      if_left _ _ refl (never_flat not_level)
      (if_left _ _ refl (ne_eqb (level a b c p) (level a b c q) (λ same. by_cases ⊥ (level a b c p) 0 3 (omega arith) (omega arith)
      (λ below. not_beside (ap (λ (n : ℕ). n % 8) {x = e} {y = 0} (omega arith)))
      (λ on. not_level (omega arith))
      (λ above. not_beside (ap (λ (n : ℕ). n % 8) {x = e} {y = 8} (omega arith)))))
      (found ∙ (λ i. cond (ltb (at_p i) (at_q i)) (past_no_edge q p a b c) (past_no_edge p q a b c))))

-- The higher end by its place in the list.
pub from_higher : (k l : List ℤ) (second : Bool) →
    of_list (past_no_edge (point_at 3 (3 * bool_byte second) k) (point_at 3 (3 - 3 * bool_byte second) k)) l
    ≡ cond second (of_segment (λ p q. past_no_edge q p) k l) (of_segment past_no_edge k l)
from_higher k l true = refl
from_higher k l false = refl

-- ---- an edge of a triangle: six numbers of its list, from the place k on
pub edge_ready : (k : ℕ) (l : List ℤ) → k ≤ 3 → Ready 9 l → Ready 6 (take 6 (drop k l))
edge_ready k l few ready = record {
  long = length_part k 6 l (omega (arith, ready.long));
  each = small_taken limit 6 (drop k l) (small_dropped limit k l ready.each);
}

-- Its ends are two corners.
edge_end : (n p k : ℕ) (l : List ℤ) → p + n ≤ 6 → point_at n p (take 6 (drop k l)) ≡ point_at n (k + p) l
edge_end zero p k l few = refl
edge_end (suc n) p k l few =
    let next : k + suc p ≡ suc (k + p) = omega arith in
    λ i. (get_or-take 6 (drop k l) p (pos 0) (omega arith) ∙ get_or-drop k l p (pos 0)) i ∷ (edge_end n (suc p) k l (omega arith) ∙ ap (λ (m : ℕ). point_at n m l) next) i

pub edge_of : (k : ℕ) (t u : List ℤ) {X : Type 0} (f : (p q a b c : Point) → X) →
    of_segment f (take 6 (drop k t)) u ≡ of_list (f (point_at 3 (k + 0) t) (point_at 3 (k + 3) t)) u
edge_of k t u f = λ i. of_list (f (edge_end 3 0 k t (omega arith) i) (edge_end 3 3 k t (omega arith) i)) u
