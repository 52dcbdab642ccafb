-- What specs/Flat.antt says by turns is what document 01 says in words: a triangle is flat exactly where one of its corners is
-- a point of the segment between the other two. And: it is flat in any order of its corners. Assumes nothing.
use mathlib.Core.Path.{◌≡◌, refl, ◌∙◌, ap}
use mathlib.Core.List.{List, [], ◌∷◌}
use mathlib.Core.Logic.{◌⊎◌, inl, inr, ◌↔◌}
use Prim.Native.Nat.{ℕ, ◌≤◌, ◌<◌}
use native.Mathlib.Omega.{arith}
use lib.ListN.{length}
use lib.IntN.{ℤ, pos, negsuc, neg_ℤ, ◌+ℤ◌, ◌-ℤ◌, ◌*ℤ◌}
use lib.Signed.{◌≤ℤ◌, ◌<ℤ◌}
use Rattle.algebra.proofs.Order.{sub_nonneg, sub_pos, weak, 0≤-pos, 0<-pos, 0<-addl, lt_or_ge, le_antisym, le_of_lt, ≤ℤ-<ℤ-trans}
use Rattle.algebra.proofs.Expression.{Ex, var, lit, ◌⊞◌, ◌⊟◌, ◌⊠◌, neg}
use Rattle.algebra.proofs.Solver.{◌≗◌, solve}
use Rattle.algebra.proofs.Certificate.{Rel, ◌≺◌, ◌≐◌, hyp, eqn, num, ◌⊕◌, prove≡}
use Rattle.shape.specs.Points.{Point, coord}
use Rattle.shape.specs.Sharing.{total, weigh, Share}
use Rattle.shape.specs.Flat.{Equal, OnLine, Flat}
use Rattle.shape.proofs.Trading.{share_among}
use Rattle.shape.proofs.Meeting.{CommonWeights, weights_of_share, meet}
use Rattle.shape.proofs.Symbols.{values, O, point, turn_e}
use Rattle.shape.proofs.SignLaws.{neighbours_trade, cycle}
use Rattle.shape.proofs.Seeking.{Found, seek}

-- A point as it is seen in two of its coordinates: the turn that three points show there is a turn in the plane.
abbrev pub seen_in : ℕ → ℕ → Point → Point
seen_in i j a = coord i a ∷ coord j a ∷ []

-- ---- in any order of the points
pub on_line_trade : {n : ℕ} (a b c : Point) → OnLine n a b c → OnLine n a c b
on_line_trade a b c h i j li lj =
    neighbours_trade (seen_in i j a ∷ []) (seen_in i j c) (seen_in i j b) [] ∙ ap neg_ℤ (h i j li lj)

pub on_line_cycle : {n : ℕ} (a b c : Point) → OnLine n a b c → OnLine n b c a
on_line_cycle a b c h i j li lj =
    cycle (seen_in i j b) (seen_in i j c ∷ seen_in i j a ∷ [])
    ∙ ap (λ (z : ℤ). neg_ℤ (neg_ℤ z)) (cycle (seen_in i j c) (seen_in i j a ∷ seen_in i j b ∷ []) ∙ ap (λ (z : ℤ). neg_ℤ (neg_ℤ z)) (h i j li lj))

-- ---- one of the three between the other two
pub data OneBetween (n : ℕ) (a b c : Point) : Type 0 where
  first : Share n (a ∷ []) (b ∷ c ∷ []) → OneBetween n a b c
  second : Share n (b ∷ []) (c ∷ a ∷ []) → OneBetween n a b c
  third : Share n (c ∷ []) (a ∷ b ∷ []) → OneBetween n a b c

-- The weights of a, b and c as the variables 0, 1 and 2, and the points as 1, 2 and 3: a times its weight is b and c mixed, in
-- coordinate k.
abbrev mixed_e : ℕ → Rel
mixed_e k = var 0 ⊠ point 1 k ⊞ O ≐ var 1 ⊠ point 2 k ⊞ (var 2 ⊠ point 3 k ⊞ O)

-- b - c in coordinate k.
abbrev gap_e : ℕ → Ex
gap_e k = point 2 k ⊟ point 3 k

-- A point of a segment lies on one line with the ends: its weight times the turn is zero.
between_on_line : {n : ℕ} (a b c : Point) → Share n (a ∷ []) (b ∷ c ∷ []) → OnLine n a b c
between_on_line {n} a b c h = by_weights found.us found.ws found.us_each found.ws_each found.same found.some found.agree
  where
    found : CommonWeights n (a ∷ []) (b ∷ c ∷ [])
    found = weights_of_share h

    by_weights : (us ws : List ℕ) → length us ≡ 1 → length ws ≡ 2 → total us ≡ total ws → 1 ≤ total us →
        ((i : ℕ) → i < n → weigh (coord i) us (a ∷ []) ≡ weigh (coord i) ws (b ∷ c ∷ [])) → OnLine n a b c
    by_weights [] ws lu lw same some agree = absurd (omega (arith, lu))
    by_weights (u ∷ u' ∷ us) ws lu lw same some agree = absurd (omega (arith, lu))
    by_weights (u ∷ []) [] lu lw same some agree = absurd (omega (arith, lw))
    by_weights (u ∷ []) (v ∷ []) lu lw same some agree = absurd (omega (arith, lw))
    by_weights (u ∷ []) (v ∷ w ∷ w' ∷ ws) lu lw same some agree = absurd (omega (arith, lw))
    by_weights (u ∷ []) (v ∷ w ∷ []) lu lw same some agree = λ i j li lj.
        prove≡ (pos u ∷ pos v ∷ pos w ∷ values (seen_in i j a ∷ seen_in i j b ∷ seen_in i j c ∷ []))
        ((O ≺ var 0 ⊞ O) ∷ (var 0 ⊞ O ≐ var 1 ⊞ (var 2 ⊞ O)) ∷ mixed_e 0 ∷ mixed_e 1 ∷ [])
        (turn_e 1 2 3) O (hyp 0)
        (eqn 1 (point 3 1 ⊠ gap_e 0 ⊟ point 3 0 ⊠ gap_e 1) ⊕ eqn 2 (gap_e 1) ⊕ eqn 3 (neg (gap_e 0))) tt tt tt refl
        (0<-pos (total (u ∷ [])) some) (ap pos same) (agree i li) (agree j lj)

-- Three points of a line whose coordinates k rise: the second is between the others, with differences in k as weights.
pub rising : {n : ℕ} (p q r : Point) → OnLine n p q r → (k : ℕ) → k < n →
    coord k p ≤ℤ coord k q → coord k q ≤ℤ coord k r → coord k p <ℤ coord k r → Share n (q ∷ []) (p ∷ r ∷ [])
rising p q r h k l pq qr pr =
    meet ((coord k r -ℤ coord k p) ∷ []) ((coord k r -ℤ coord k q) ∷ (coord k q -ℤ coord k p) ∷ []) refl refl
    (weak (sub_pos pr), tt) (sub_nonneg qr, (sub_nonneg pq, tt))
    (solve 3 (λ p q r. (r ⊟ p) ⊞ O ≗ (r ⊟ q) ⊞ ((q ⊟ p) ⊞ O)) (tt, refl) (coord k p) (coord k q) (coord k r))
    (0<-addl (sub_pos pr) (0≤-pos 0))
    (λ i li.
    prove≡ (values (seen_in k i p ∷ seen_in k i q ∷ seen_in k i r ∷ [])) ((turn_e 0 1 2 ≐ O) ∷ [])
    ((point 2 0 ⊟ point 0 0) ⊠ point 1 1 ⊞ O)
    ((point 2 0 ⊟ point 1 0) ⊠ point 0 1 ⊞ ((point 1 0 ⊟ point 0 0) ⊠ point 2 1 ⊞ O))
    (num 1) (eqn 0 (lit (negsuc 0))) tt tt tt refl (h k i l li))

-- The ends of a segment trade places.
pub ends_trade : {n : ℕ} {p : Point} (q r : Point) → Share n (p ∷ []) (q ∷ r ∷ []) → Share n (p ∷ []) (r ∷ q ∷ [])
ends_trade q r = share_among (inl refl, tt) (inr (inl refl), (inl refl, tt))

-- The first two points trade places.
one_trade : {n : ℕ} (a b c : Point) → OneBetween n b a c → OneBetween n a b c
one_trade a b c (first h) = second (ends_trade a c h)
one_trade a b c (second h) = first (ends_trade c b h)
one_trade a b c (third h) = third (ends_trade b a h)

-- Where coordinate k of a is below that of b, one of the three is between the others there.
lower_in : {n : ℕ} (a b c : Point) → OnLine n a b c → (k : ℕ) → k < n → coord k a <ℤ coord k b → OneBetween n a b c
lower_in {n} a b c h k l ab = by_place (lt_or_ge (coord k a) (coord k c)) (lt_or_ge (coord k c) (coord k b))
  where
    by_place : (coord k a <ℤ coord k c) ⊎ (coord k c ≤ℤ coord k a) → (coord k c <ℤ coord k b) ⊎ (coord k b ≤ℤ coord k c) → OneBetween n a b c
    by_place (inr ca) cb = first (ends_trade c b (rising c a b (on_line_cycle b c a (on_line_cycle a b c h)) k l ca (le_of_lt ab) (≤ℤ-<ℤ-trans ca ab)))
    by_place (inl ac) (inl cb) = third (rising a c b (on_line_trade a b c h) k l (le_of_lt ac) (le_of_lt cb) ab)
    by_place (inl ac) (inr bc) = second (ends_trade a c (rising a b c h k l (le_of_lt ab) bc ac))

-- Two points agree in n coordinates, or one is below the other in some.
abbrev pub Differ : Point → Point → ℕ → Type 0
Differ a b k = (coord k a <ℤ coord k b) ⊎ (coord k b <ℤ coord k a)

pub differ_or_equal : (n : ℕ) (a b : Point) → Found n (Differ a b) ⊎ Equal n a b
differ_or_equal n a b = seek n (λ k l. compare k (lt_or_ge (coord k a) (coord k b)) (lt_or_ge (coord k b) (coord k a)))
  where
    compare : (k : ℕ) → (coord k a <ℤ coord k b) ⊎ (coord k b ≤ℤ coord k a) → (coord k b <ℤ coord k a) ⊎ (coord k a ≤ℤ coord k b) →
        Differ a b k ⊎ (coord k a ≡ coord k b)
    compare k (inl below) other = inl (inl below)
    compare k (inr past) (inl above) = inl (inr above)
    compare k (inr past) (inr before) = inr (le_antisym before past)

-- Points with equal coordinates are one point.
pub equal_points : {n : ℕ} (a b : Point) → Equal n a b → Share n (a ∷ []) (b ∷ [])
equal_points a b e =
    meet (pos 1 ∷ []) (pos 1 ∷ []) refl refl (0≤-pos 1, tt) (0≤-pos 1, tt) refl (0<-pos 1 (omega arith))
    (λ i l. ap (λ (z : ℤ). pos 1 *ℤ z +ℤ pos 0) (e i l))

-- A triangle is flat exactly where one of its corners is a point of the segment between the other two.
pub flat_is_between : {n : ℕ} (a b c : Point) → Flat n (a ∷ b ∷ c ∷ []) ↔ OneBetween n a b c
flat_is_between {n} a b c = (λ h. find h (differ_or_equal n a b), back)
  where
    by_order : OnLine n a b c → (k : ℕ) → k < n → Differ a b k → OneBetween n a b c
    by_order h k l (inl below) = lower_in a b c h k l below
    by_order h k l (inr above) = one_trade a b c (lower_in b a c (on_line_trade b c a (on_line_cycle a b c h)) k l above)

    find : OnLine n a b c → Found n (Differ a b) ⊎ Equal n a b → OneBetween n a b c
    find h (inl found) = by_order h found.at found.below found.has
    find h (inr e) = first (share_among (inl refl, tt) (inl refl, tt) (equal_points a b e))

    back : OneBetween n a b c → OnLine n a b c
    back (first h) = between_on_line a b c h
    back (second h) = on_line_cycle c a b (on_line_cycle b c a (between_on_line b c a h))
    back (third h) = on_line_cycle c a b (between_on_line c a b h)
