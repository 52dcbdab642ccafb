-- Two segments, whose ends may be equal, over any number of coordinates: they have a point in common exactly when nothing keeps them apart. That
-- is a determinant in three of the coordinates, by which they don't lie in one plane; a shadow in two of them, in which the ends of the one lie
-- strictly on one side of the other's line; or one of them, along which their stretches have no number in common. In the plane there are no
-- three coordinates and there is one shadow; in space there is one determinant and there are three shadows. Assumes nothing.
use mathlib.Core.Path.{◌≡◌, refl, sym, ◌∙◌, subst}
use mathlib.Core.List.{List, [], ◌∷◌}
use mathlib.Core.Logic.{◌⊎◌, inl, inr, ◌↔◌}
use Prim.Native.Nat.{ℕ, zero, suc, ◌<◌}
use native.Mathlib.Omega.{arith}
use lib.IntN.{ℤ, pos, negsuc, neg_ℤ, ◌-ℤ◌}
use lib.Signed.{◌≤ℤ◌, ◌<ℤ◌, ≤ℤ_refl}
use Rattle.algebra.proofs.Order.{ThreeWay, minus, none, plus, three_way, lt_of_sub, eq_of_sub, lt_or_ge, le_antisym, le_of_lt, ≤ℤ-<ℤ-trans}
use Rattle.algebra.proofs.Expression.{Ex, var, lit, ◌⊞◌, ◌⊟◌, ◌⊠◌, neg}
use Rattle.algebra.proofs.Solver.{ring}
use Rattle.algebra.proofs.Certificate.{Rel, ◌≦◌, ◌≺◌, ◌≐◌, hyp, eqn, num, prove≤, prove<, prove≡}
use Rattle.shape.specs.Points.{Point, coord}
use Rattle.shape.specs.Signs.{turn_in, side}
use Rattle.shape.specs.Sharing.{Share}
use Rattle.shape.specs.Flat.{Equal, OnLine}
use Rattle.shape.proofs.Symbols.{values, O, PointE, point, side_of, turn_e, side_e}
use Rattle.shape.proofs.Trading.{share_trade, share_among}
use Rattle.shape.proofs.Apart.{apart, apart_along_law}
use Rattle.shape.proofs.Meeting.{meet}
use Rattle.shape.proofs.Seeking.{Found, seek}
use Rattle.shape.proofs.Shadows.{seen, share_seen}
use Rattle.shape.proofs.FlatLaws.{compared, on_line}
use Rattle.shape.proofs.Lines.{on_line_trade, on_line_cycle, rising, Differ, differ_or_equal, equal_points}
use Rattle.shape.proofs.Edges.{beside_line_law, along, against}
use Rattle.shape.proofs.Planes.{across, offset, across_at}

-- ---- what keeps two segments apart
-- Both numbers lie strictly on one side of zero.
abbrev pub OneSide : ℤ → ℤ → Type 0
OneSide x y = ((pos 0 <ℤ x) × (pos 0 <ℤ y)) ⊎ ((x <ℤ pos 0) × (y <ℤ pos 0))

-- Both p and q lie below r and below s.
abbrev pub BothBelow : (p q r s : ℤ) → Type 0
BothBelow p q r s = (p <ℤ r) × (p <ℤ s) × (q <ℤ r) × (q <ℤ s)

-- The four points as they are seen in the coordinates i, j and l: their determinant there.
abbrev pub side_in : (i j l : ℕ) → (a b c d : Point) → ℤ
side_in i j l a b c d = side (seen (i ∷ j ∷ l ∷ []) a) (seen (i ∷ j ∷ l ∷ []) b) (seen (i ∷ j ∷ l ∷ []) c) (seen (i ∷ j ∷ l ∷ []) d)

-- Nothing of this: over each one of n coordinates, each two and each three.
pub record Touching (n : ℕ) (p q r s : Point) : Type 0 where
  pub level : (i j l : ℕ) → i < j → j < l → l < n → side_in i j l p q r s ≡ pos 0
  pub first_line : (i j : ℕ) → i < j → j < n → OneSide (turn_in i j p q r) (turn_in i j p q s) → ⊥
  pub second_line : (i j : ℕ) → i < j → j < n → OneSide (turn_in i j r s p) (turn_in i j r s q) → ⊥
  pub not_below : (i : ℕ) → i < n → BothBelow (coord i p) (coord i q) (coord i r) (coord i s) → ⊥
  pub not_above : (i : ℕ) → i < n → BothBelow (coord i r) (coord i s) (coord i p) (coord i q) → ⊥

-- ---- the ends of a segment trade places, and the two segments
swap_ends : {n : ℕ} (p q r s : Point) → Share n (q ∷ p ∷ []) (r ∷ s ∷ []) → Share n (p ∷ q ∷ []) (r ∷ s ∷ [])
swap_ends p q r s = share_among (inr (inl refl), (inl refl, tt)) (inl refl, (inr (inl refl), tt))

-- An end that is a point of the other segment.
first_end : {n : ℕ} (p q r s : Point) → Share n (p ∷ []) (r ∷ s ∷ []) → Share n (p ∷ q ∷ []) (r ∷ s ∷ [])
first_end p q r s = share_among (inl refl, tt) (inl refl, (inr (inl refl), tt))

-- ---- what meets touches
module _ {n : ℕ} (p q r s : Point) (meet : Share n (p ∷ q ∷ []) (r ∷ s ∷ [])) where
  -- the functional along both segments, zero at the first, is the determinant at the ends of the second
  not_over : (i j l : ℕ) → i < n → j < n → l < n → pos 0 <ℤ side_in i j l p q r s → ⊥
  not_over i j l li lj ll h =
      apart (across (at p) (at q) (at r) (at s)) (offset (at p) (at q) (at r) (at s)) (omega arith)
      (prove≤ ρ [] (across_at 0 1 2 3 0) O (num 1) (num 0) tt tt refl, (prove≤ ρ [] (across_at 0 1 2 3 1) O (num 1) (num 0) tt tt refl, tt))
      (prove< ρ over O (across_at 0 1 2 3 2) (num 1) (hyp 0) tt tt refl h, (prove< ρ over O (across_at 0 1 2 3 3) (num 1) (hyp 0) tt tt refl h, tt))
      (share_seen (i ∷ j ∷ l ∷ []) (li, (lj, (ll, tt))) meet)
    where
      at : Point → Point
      at = seen (i ∷ j ∷ l ∷ [])

      ρ : List ℤ
      ρ = values (at p ∷ at q ∷ at r ∷ at s ∷ [])

      over : List Rel
      over = (O ≺ side_e 0 1 2 3) ∷ []

  not_one_side : (i j : ℕ) → i < n → j < n → OneSide (turn_in i j p q r) (turn_in i j p q s) → ⊥
  not_one_side i j li lj (inl h) =
      beside_line_law (at q) (at p) (at p ∷ at q ∷ []) (at r ∷ at s ∷ []) (against (at p) (at q)) (turned r h.0, (turned s h.1, tt)) (share_seen (i ∷ j ∷ []) (li, (lj, tt)) meet)
    where
      at : Point → Point
      at = seen (i ∷ j ∷ [])

      turned : (x : Point) → pos 0 <ℤ turn_in i j p q x → turn_in i j q p x <ℤ pos 0
      turned x = prove< (values (at p ∷ at q ∷ at x ∷ [])) ((O ≺ turn_e 0 1 2) ∷ []) (turn_e 1 0 2) O (num 1) (hyp 0) tt tt refl
  not_one_side i j li lj (inr h) =
      beside_line_law (at p) (at q) (at p ∷ at q ∷ []) (at r ∷ at s ∷ []) (along (at p) (at q)) (h.0, (h.1, tt)) (share_seen (i ∷ j ∷ []) (li, (lj, tt)) meet)
    where
      at : Point → Point
      at = seen (i ∷ j ∷ [])

  not_apart_along : (i : ℕ) → i < n → BothBelow (coord i p) (coord i q) (coord i r) (coord i s) → ⊥
  not_apart_along i l h = by_order (lt_or_ge (coord i p) (coord i q))
    where
      by_order : (coord i p <ℤ coord i q) ⊎ (coord i q ≤ℤ coord i p) → ⊥
      by_order (inl pq) = apart_along_law i (coord i q) l (le_of_lt pq, (≤ℤ_refl (coord i q), tt)) (h.2, (h.3, tt)) meet
      by_order (inr qp) = apart_along_law i (coord i p) l (≤ℤ_refl (coord i p), (qp, tt)) (h.0, (h.1, tt)) meet

touching_of : {n : ℕ} (p q r s : Point) → Share n (p ∷ q ∷ []) (r ∷ s ∷ []) → Touching n p q r s
touching_of {n} p q r s meet = record {
  level = λ i j l ij jl ln. flat i j l (omega arith) (omega arith) ln (three_way (side_in i j l p q r s));
  first_line = λ i j ij jn. not_one_side p q r s meet i j (omega arith) jn;
  second_line = λ i j ij jn. not_one_side r s p q (share_trade meet) i j (omega arith) jn;
  not_below = not_apart_along p q r s meet;
  not_above = not_apart_along r s p q (share_trade meet);
}
  where
    flat : (i j l : ℕ) → i < n → j < n → l < n → ThreeWay (side_in i j l p q r s) → side_in i j l p q r s ≡ pos 0
    flat i j l li lj ll (none e) = e
    flat i j l li lj ll (plus h) = absurd (not_over p q r s meet i j l li lj ll h)
    flat i j l li lj ll (minus h) =
        absurd (not_over q p r s (swap_ends q p r s meet) i j l li lj ll
        (prove< (values (at p ∷ at q ∷ at r ∷ at s ∷ [])) ((side_e 0 1 2 3 ≺ O) ∷ []) O (side_e 1 0 2 3) (num 1) (hyp 0) tt tt refl h))
      where
        at : Point → Point
        at = seen (i ∷ j ∷ l ∷ [])

-- ---- what touches meets: two coordinates in which the directions differ
-- Numbers of which one is below the other, and that are not on one side of zero, have it between them.
straddle : {x y : ℤ} → (OneSide x y → ⊥) → x <ℤ y → (x ≤ℤ pos 0) × (pos 0 ≤ℤ y)
straddle {x} {y} not-one h = (lower (lt_or_ge (pos 0) x), upper (lt_or_ge y (pos 0)))
  where
    lower : (pos 0 <ℤ x) ⊎ (x ≤ℤ pos 0) → x ≤ℤ pos 0
    lower (inl above) = absurd (not-one (inl (above, ≤ℤ-<ℤ-trans (le_of_lt above) h)))
    lower (inr low) = low

    upper : (y <ℤ pos 0) ⊎ (pos 0 ≤ℤ y) → pos 0 ≤ℤ y
    upper (inl below) = absurd (not-one (inr (≤ℤ-<ℤ-trans (le_of_lt h) below, below)))
    upper (inr high) = high

one_side_traded : {x y : ℤ} → (OneSide x y → ⊥) → OneSide y x → ⊥
one_side_traded not-one (inl h) = not-one (inl (h.1, h.0))
one_side_traded not-one (inr h) = not-one (inr (h.1, h.0))

-- The ends of each segment are on either side of the other's line, in the coordinates i and j: the turns are the weights of a common point.
crossing : {n : ℕ} (i j : ℕ) (p q r s : Point) → turn_in i j r s p ≤ℤ pos 0 → pos 0 ≤ℤ turn_in i j r s q → pos 0 ≤ℤ turn_in i j p q r →
    turn_in i j p q s ≤ℤ pos 0 → turn_in i j r s p <ℤ turn_in i j r s q → ((l : ℕ) → l < n → side_in i j l p q r s ≡ pos 0) →
    Share n (p ∷ q ∷ []) (r ∷ s ∷ [])
crossing i j p q r s hp hq hr hs rise flat =
    meet (turn_in i j r s q ∷ neg_ℤ (turn_in i j r s p) ∷ []) (neg_ℤ (turn_in i j p q s) ∷ turn_in i j p q r ∷ []) refl refl
    (hq, (prove≤ ρ ((turn_e 2 3 0 ≦ O) ∷ []) O (neg (turn_e 2 3 0)) (num 1) (hyp 0) tt tt refl hp, tt))
    (prove≤ ρ ((turn_e 0 1 3 ≦ O) ∷ []) O (neg (turn_e 0 1 3)) (num 1) (hyp 0) tt tt refl hs, (hr, tt))
    (ring ρ (turn_e 2 3 1 ⊞ (neg (turn_e 2 3 0) ⊞ O)) (neg (turn_e 0 1 3) ⊞ (turn_e 0 1 2 ⊞ O)) tt refl)
    (prove< ρ ((turn_e 2 3 0 ≺ turn_e 2 3 1) ∷ []) O (turn_e 2 3 1 ⊞ (neg (turn_e 2 3 0) ⊞ O)) (num 1) (hyp 0) tt tt refl rise)
    (λ l below.
    prove≡ (in_three l) ((side_e 0 1 2 3 ≐ O) ∷ [])
    (turn_e 2 3 1 ⊠ point 0 2 ⊞ (neg (turn_e 2 3 0) ⊠ point 1 2 ⊞ O)) (neg (turn_e 0 1 3) ⊠ point 2 2 ⊞ (turn_e 0 1 2 ⊠ point 3 2 ⊞ O))
    (num 1) (eqn 0 (lit (pos 1))) tt tt tt refl (flat l below))
  where
    ρ : List ℤ
    ρ = values (seen (i ∷ j ∷ []) p ∷ seen (i ∷ j ∷ []) q ∷ seen (i ∷ j ∷ []) r ∷ seen (i ∷ j ∷ []) s ∷ [])

    in_three : ℕ → List ℤ
    in_three l = values (seen (i ∷ j ∷ l ∷ []) p ∷ seen (i ∷ j ∷ l ∷ []) q ∷ seen (i ∷ j ∷ l ∷ []) r ∷ seen (i ∷ j ∷ l ∷ []) s ∷ [])

-- Seen in the coordinates i and j, p and q are not equally far from the line r s: the directions differ.
abbrev Crosses : (i j : ℕ) → (p q r s : Point) → Type 0
Crosses i j p q r s = (turn_in i j r s p <ℤ turn_in i j r s q) ⊎ (turn_in i j r s q <ℤ turn_in i j r s p)

-- Point m of four as symbols, with its coordinates in another order, and the determinant of the four.
abbrev ordered_e : (first second third m : ℕ) → PointE
ordered_e i j l m zero = point m i
ordered_e i j l m (suc zero) = point m j
ordered_e i j l m (suc (suc k)) = point m l

abbrev side_in_e : (first second third : ℕ) → Ex
side_in_e i j l = side_of (ordered_e i j l 0) (ordered_e i j l 1) (ordered_e i j l 2) (ordered_e i j l 3)

module _ {n : ℕ} (p q r s : Point) (t : Touching n p q r s) where
  abbrev seen_all : List ℕ → List ℤ
  seen_all is = values (seen is p ∷ seen is q ∷ seen is r ∷ seen is s ∷ [])

  -- The determinant is zero with whatever third coordinate: twice the same one, or in another order.
  level_with : (i j : ℕ) → i < j → j < n → (l : ℕ) → l < n → side_in i j l p q r s ≡ pos 0
  level_with i j ij jn l ln = by_order (compared l i) (compared l j)
    where
      by_order : (l < i) ⊎ ((l ≡ i) ⊎ (i < l)) → (l < j) ⊎ ((l ≡ j) ⊎ (j < l)) → side_in i j l p q r s ≡ pos 0
      by_order (inl li) other =
          prove≡ (seen_all (l ∷ i ∷ j ∷ [])) ((side_e 0 1 2 3 ≐ O) ∷ []) (side_in_e 1 2 0) O (num 1) (eqn 0 (lit (pos 1))) tt tt tt refl (t.level l i j li ij jn)
      by_order (inr (inl e)) other =
          subst (λ (k : ℕ). side_in i j k p q r s ≡ pos 0) (sym e) (ring (seen_all (i ∷ j ∷ [])) (side_in_e 0 1 0) O tt refl)
      by_order (inr (inr il)) (inl lj) =
          prove≡ (seen_all (i ∷ l ∷ j ∷ [])) ((side_e 0 1 2 3 ≐ O) ∷ []) (side_in_e 0 2 1) O (num 1) (eqn 0 (lit (negsuc 0))) tt tt tt refl (t.level i l j il lj jn)
      by_order (inr (inr il)) (inr (inl e)) =
          subst (λ (k : ℕ). side_in i j k p q r s ≡ pos 0) (sym e) (ring (seen_all (i ∷ j ∷ [])) (side_in_e 0 1 1) O tt refl)
      by_order (inr (inr il)) (inr (inr jl)) = t.level i j l ij jl ln

  crosses_meet : (i j : ℕ) → i < j → j < n → Crosses i j p q r s → Share n (p ∷ q ∷ []) (r ∷ s ∷ [])
  crosses_meet i j ij jn (inl h) =
      let ρ = seen_all (i ∷ j ∷ []) in
      let fall : turn_in i j p q s <ℤ turn_in i j p q r =
      prove< ρ ((turn_e 2 3 0 ≺ turn_e 2 3 1) ∷ []) (turn_e 0 1 3) (turn_e 0 1 2) (num 1) (hyp 0) tt tt refl h in
      let of_r_s = straddle (t.second_line i j ij jn) h in
      let of_p_q = straddle (one_side_traded (t.first_line i j ij jn)) fall in
      crossing i j p q r s of_r_s.0 of_r_s.1 of_p_q.1 of_p_q.0 h (level_with i j ij jn)
  crosses_meet i j ij jn (inr h) =
      let ρ = seen_all (i ∷ j ∷ []) in
      let climb : turn_in i j p q r <ℤ turn_in i j p q s =
      prove< ρ ((turn_e 2 3 1 ≺ turn_e 2 3 0) ∷ []) (turn_e 0 1 2) (turn_e 0 1 3) (num 1) (hyp 0) tt tt refl h in
      let of_r_s = straddle (one_side_traded (t.second_line i j ij jn)) h in
      let of_p_q = straddle (t.first_line i j ij jn) climb in
      swap_ends p q r s
      (crossing i j q p r s of_r_s.0 of_r_s.1
      (prove≤ ρ ((turn_e 0 1 2 ≦ O) ∷ []) O (turn_e 1 0 2) (num 1) (hyp 0) tt tt refl of_p_q.0)
      (prove≤ ρ ((O ≦ turn_e 0 1 3) ∷ []) (turn_e 1 0 3) O (num 1) (hyp 0) tt tt refl of_p_q.1) h
      (λ l ln.
      prove≡ (seen_all (i ∷ j ∷ l ∷ [])) ((side_e 0 1 2 3 ≐ O) ∷ []) (side_e 1 0 2 3) O (num 1) (eqn 0 (lit (negsuc 0))) tt tt tt refl (level_with i j ij jn l ln)))

-- ---- what touches meets: both segments on one line
-- How a number stands to a stretch.
data Stands (low high x : ℤ) : Type 0 where
  under : x <ℤ low → Stands low high x
  inside : low ≤ℤ x → x ≤ℤ high → Stands low high x
  over : high <ℤ x → Stands low high x

stands : (low high x : ℤ) → Stands low high x
stands low high x = by_tests (lt_or_ge x low) (lt_or_ge high x)
  where
    by_tests : (x <ℤ low) ⊎ (low ≤ℤ x) → (high <ℤ x) ⊎ (x ≤ℤ high) → Stands low high x
    by_tests (inl h) g = under h
    by_tests (inr h) (inl g) = over g
    by_tests (inr h) (inr g) = inside h g

<ℤ-trans : {x y z : ℤ} → x <ℤ y → y <ℤ z → x <ℤ z
<ℤ-trans h g = ≤ℤ-<ℤ-trans (le_of_lt h) g

-- Coordinate k of q is above that of p: some end of a segment is a point of the other.
overlapping : {n : ℕ} (p q r s : Point) → OnLine n p q r → OnLine n p q s → OnLine n r s p → (k : ℕ) → k < n → coord k p <ℤ coord k q →
    (BothBelow (coord k p) (coord k q) (coord k r) (coord k s) → ⊥) → (BothBelow (coord k r) (coord k s) (coord k p) (coord k q) → ⊥) →
    Share n (p ∷ q ∷ []) (r ∷ s ∷ [])
overlapping {n} p q r s line_r line_s line_p k l pq not_below not_above =
    by_ends_law (stands (coord k p) (coord k q) (coord k r)) (stands (coord k p) (coord k q) (coord k s))
  where
    by_ends_law : Stands (coord k p) (coord k q) (coord k r) → Stands (coord k p) (coord k q) (coord k s) → Share n (p ∷ q ∷ []) (r ∷ s ∷ [])
    by_ends_law (inside pr rq) other = share_trade (first_end r s p q (rising p r q (on_line_trade p q r line_r) k l pr rq pq))
    by_ends_law (under rp) (inside ps sq) = share_trade (swap_ends r s p q (first_end s r p q (rising p s q (on_line_trade p q s line_s) k l ps sq pq)))
    by_ends_law (over qr) (inside ps sq) = share_trade (swap_ends r s p q (first_end s r p q (rising p s q (on_line_trade p q s line_s) k l ps sq pq)))
    by_ends_law (under rp) (under sp) = absurd (not_above (rp, <ℤ-trans rp pq, sp, <ℤ-trans sp pq))
    by_ends_law (over qr) (over qs) = absurd (not_below (<ℤ-trans pq qr, <ℤ-trans pq qs, qr, qs))
    by_ends_law (under rp) (over qs) =
        let ps = <ℤ-trans pq qs in
        first_end p q r s (rising r p s (on_line_trade r s p line_p) k l (le_of_lt rp) (le_of_lt ps) (<ℤ-trans rp ps))
    by_ends_law (over qr) (under sp) =
        let pr = <ℤ-trans pq qr in
        first_end p q r s (share_among (inl refl, tt) (inr (inl refl), (inl refl, tt)) (rising s p r (on_line_cycle r s p line_p) k l (le_of_lt sp) (le_of_lt pr) (<ℤ-trans sp pr)))

-- The same whichever of p and q is above.
overlapping_either : {n : ℕ} (p q r s : Point) → OnLine n p q r → OnLine n p q s → OnLine n r s p → OnLine n r s q → Touching n p q r s →
    Found n (Differ p q) → Share n (p ∷ q ∷ []) (r ∷ s ∷ [])
overlapping_either {n} p q r s line_r line_s line_p line_q t found = by_order found.has
  where
    k : ℕ
    k = found.at

    turned : (x : Point) → OnLine n p q x → OnLine n q p x
    turned x h = on_line_trade q x p (on_line_cycle p q x h)

    by_order : Differ p q found.at → Share n (p ∷ q ∷ []) (r ∷ s ∷ [])
    by_order (inl pq) = overlapping p q r s line_r line_s line_p k found.below pq (t.not_below k found.below) (t.not_above k found.below)
    by_order (inr qp) =
        swap_ends p q r s
        (overlapping q p r s (turned r line_r) (turned s line_s) line_q k found.below qp
        (λ h. t.not_below k found.below (h.2, h.3, h.0, h.1))
        (λ h. t.not_above k found.below (h.1, h.0, h.3, h.2)))

-- What keeps two segments apart does so whichever is named first.
touching_traded : {n : ℕ} (p q r s : Point) → Touching n p q r s → Touching n r s p q
touching_traded p q r s t = record {
  level = λ i j l ij jl ln.
      prove≡ (values (seen (i ∷ j ∷ l ∷ []) p ∷ seen (i ∷ j ∷ l ∷ []) q ∷ seen (i ∷ j ∷ l ∷ []) r ∷ seen (i ∷ j ∷ l ∷ []) s ∷ []))
      ((side_e 0 1 2 3 ≐ O) ∷ []) (side_e 2 3 0 1) O (num 1) (eqn 0 (lit (pos 1))) tt tt tt refl (t.level i j l ij jl ln);
  first_line = t.second_line;
  second_line = t.first_line;
  not_below = t.not_above;
  not_above = t.not_below;
}

-- Equal numbers that are not on one side of zero are zero.
both_zero : {x y : ℤ} → (OneSide x y → ⊥) → x ≡ y → (x ≡ pos 0) × (y ≡ pos 0)
both_zero {x} {y} not-one e = by_sign (three_way x)
  where
    by_sign : ThreeWay x → (x ≡ pos 0) × (y ≡ pos 0)
    by_sign (none z) = (z, sym e ∙ z)
    by_sign (plus h) = absurd (not-one (inl (h, subst (λ (z : ℤ). pos 0 <ℤ z) e h)))
    by_sign (minus h) = absurd (not-one (inr (h, subst (λ (z : ℤ). z <ℤ pos 0) e h)))

-- Each two coordinates show one direction.
module _ {n : ℕ} (p q r s : Point) (t : Touching n p q r s) (alike : (j : ℕ) → j < n → (i : ℕ) → i < j → turn_in i j r s p ≡ turn_in i j r s q) where
  to_r_s : (i j : ℕ) → i < j → j < n → (turn_in i j r s p ≡ pos 0) × (turn_in i j r s q ≡ pos 0)
  to_r_s i j ij jn = both_zero (t.second_line i j ij jn) (alike j jn i ij)

  to_p_q : (i j : ℕ) → i < j → j < n → (turn_in i j p q r ≡ pos 0) × (turn_in i j p q s ≡ pos 0)
  to_p_q i j ij jn =
      both_zero (t.first_line i j ij jn)
      (prove≡ (values (at p ∷ at q ∷ at r ∷ at s ∷ [])) ((turn_e 2 3 0 ≐ turn_e 2 3 1) ∷ []) (turn_e 0 1 2) (turn_e 0 1 3) (num 1) (eqn 0 (lit (negsuc 0))) tt tt tt refl (alike j jn i ij))
    where
      at : Point → Point
      at = seen (i ∷ j ∷ [])

  -- Four equal points, where neither segment has a coordinate that its ends differ in.
  equal_meet : Equal n p q → Equal n r s → Share n (p ∷ q ∷ []) (r ∷ s ∷ [])
  equal_meet pq rs = first_end p q r s (share_among (inl refl, tt) (inl refl, tt) (equal_points p r (λ i l. same i l (lt_or_ge (coord i p) (coord i r)) (lt_or_ge (coord i r) (coord i p)))))
    where
      same : (i : ℕ) → i < n → (coord i p <ℤ coord i r) ⊎ (coord i r ≤ℤ coord i p) → (coord i r <ℤ coord i p) ⊎ (coord i p ≤ℤ coord i r) → coord i p ≡ coord i r
      same i l (inr rp) (inr pr) = le_antisym pr rp
      same i l (inl h) other =
          let h' = subst (λ (z : ℤ). coord i p <ℤ z) (rs i l) h in
          absurd (t.not_below i l (h, h', subst (λ (z : ℤ). z <ℤ coord i r) (pq i l) h, subst (λ (z : ℤ). z <ℤ coord i s) (pq i l) h'))
      same i l (inr rp) (inl h) =
          let h' = subst (λ (z : ℤ). coord i r <ℤ z) (pq i l) h in
          absurd (t.not_above i l (h, h', subst (λ (z : ℤ). z <ℤ coord i p) (rs i l) h, subst (λ (z : ℤ). z <ℤ coord i q) (rs i l) h'))

  line_meet : Share n (p ∷ q ∷ []) (r ∷ s ∷ [])
  line_meet = by_first (differ_or_equal n p q)
    where
      line_p : OnLine n r s p
      line_p = on_line r s p (λ i j ij jn. (to_r_s i j ij jn).0)

      line_q : OnLine n r s q
      line_q = on_line r s q (λ i j ij jn. (to_r_s i j ij jn).1)

      line_r : OnLine n p q r
      line_r = on_line p q r (λ i j ij jn. (to_p_q i j ij jn).0)

      line_s : OnLine n p q s
      line_s = on_line p q s (λ i j ij jn. (to_p_q i j ij jn).1)

      by_second : Equal n p q → Found n (Differ r s) ⊎ Equal n r s → Share n (p ∷ q ∷ []) (r ∷ s ∷ [])
      by_second pq (inl found) = share_trade (overlapping_either r s p q line_p line_q line_r line_s (touching_traded p q r s t) found)
      by_second pq (inr rs) = equal_meet pq rs

      by_first : Found n (Differ p q) ⊎ Equal n p q → Share n (p ∷ q ∷ []) (r ∷ s ∷ [])
      by_first (inl found) = overlapping_either p q r s line_r line_s line_p line_q t found
      by_first (inr pq) = by_second pq (differ_or_equal n r s)

-- ---- the law
pub touching_is_meeting : {n : ℕ} (p q r s : Point) → Touching n p q r s ↔ Share n (p ∷ q ∷ []) (r ∷ s ∷ [])
touching_is_meeting {n} p q r s = (meeting, touching_of p q r s)
  where
    compare : (i j : ℕ) → ThreeWay (turn_in i j r s q -ℤ turn_in i j r s p) → Crosses i j p q r s ⊎ (turn_in i j r s p ≡ turn_in i j r s q)
    compare i j (plus h) = inl (inl (lt_of_sub h))
    compare i j (none e) = inr (eq_of_sub (turn_in i j r s p) (turn_in i j r s q) e)
    compare i j (minus h) = inl (inr (prove< (turn_in i j r s p ∷ turn_in i j r s q ∷ []) ((var 1 ⊟ var 0 ≺ O) ∷ []) (var 1) (var 0) (num 1) (hyp 0) tt tt refl h))

    in_each : (j : ℕ) → j < n → Found j (λ i. Crosses i j p q r s) ⊎ ((i : ℕ) → i < j → turn_in i j r s p ≡ turn_in i j r s q)
    in_each j jn = seek j (λ i ij. compare i j (three_way (turn_in i j r s q -ℤ turn_in i j r s p)))

    by_directions : Touching n p q r s → Found n (λ j. Found j (λ i. Crosses i j p q r s)) ⊎ ((j : ℕ) → j < n → (i : ℕ) → i < j → turn_in i j r s p ≡ turn_in i j r s q) →
        Share n (p ∷ q ∷ []) (r ∷ s ∷ [])
    by_directions t (inl found) = crosses_meet p q r s t found.has.at found.at found.has.below found.below found.has.has
    by_directions t (inr alike) = line_meet p q r s t alike

    meeting : Touching n p q r s → Share n (p ∷ q ∷ []) (r ∷ s ∷ [])
    meeting t = by_directions t (seek n in_each)
