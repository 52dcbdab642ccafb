-- Parts of a list, as code takes them (from p up to p + k), and a list with a part put back. Assumes nothing.
use mathlib.Core.Path.{◌≡◌, refl, sym, ap, ◌∙◌, subst}
use mathlib.Core.List.{List, [], ◌∷◌, ◌++◌}
use Prim.Native.Nat.{ℕ, zero, suc, ◌+◌, ◌-◌, ◌*◌, ◌≤◌, ◌<◌}
use native.Mathlib.Omega.{arith}
use native.Mathlib.Nat.{mul-le-mul_left}
use borrow.Author.Count.{below_more}
use borrow.Rule.Slice.PartMut.{put_mid, post_of, take_put}
use lib.ListN.{length, take, drop, length-take, length-drop}
use lib.Seq.{take_at, drop_at, take-take, length-take-le}

module _ {X : Type 0} where
  -- It has k elements, where they lie within the list.
  pub length_part : (p k : ℕ) (xs : List X) → p + k ≤ length xs → length (take k (drop p xs)) ≡ k
  length_part p k xs h = simp (length-take, length-drop) (omega arith)

  pub part : (p k : ℕ) (xs : List X) → take (p + k - p) (drop p xs) ≡ take k (drop p xs)
  part p k xs = ap (λ (n : ℕ). take n (drop p xs)) {x = p + k - p} {y = k} (omega arith)

  pub length_lent : (p k : ℕ) (xs : List X) → p + k ≤ length xs → length (take (p + k - p) (drop p xs)) ≡ k
  length_lent p k xs h = ap length (part p k xs) ∙ length_part p k xs h

  -- What lies within the first p elements is a part of them.
  within_front : (q j p : ℕ) (xs : List X) → q + j ≤ p → take j (drop q (take p xs)) ≡ take j (drop q xs)
  within_front zero j p xs h = take-take j p xs (omega arith)
  within_front (suc q) j zero xs h = absurd (omega arith)
  within_front (suc q) j (suc p) [] h = refl
  within_front (suc q) j (suc p) (x ∷ xs) h = within_front q j p xs (omega arith)

  -- ---- ys in the place of the n elements from p on: they stand there, and a part before them is as it was
  pub put_here : (p k n : ℕ) (xs ys : List X) → p ≤ length xs → length ys ≡ k → take k (drop p (put_mid p n xs ys)) ≡ ys
  put_here p k n xs ys h e =
      ap (take k) (drop_at (take p xs) (ys ++ post_of p n xs) p (length-take-le p xs h)) ∙ take_at ys (post_of p n xs) k e

  pub put_before : (q j p n : ℕ) (xs ys : List X) → q + j ≤ p → p ≤ length xs → take j (drop q (put_mid p n xs ys)) ≡ take j (drop q xs)
  put_before q j p n xs ys h g =
      sym (within_front q j p (put_mid p n xs ys) h) ∙ ap (λ (l : List X). take j (drop q l)) (take_put p n xs ys g) ∙ within_front q j p xs h

  -- Parts of k elements each, written one after the other: what holds of the first i, and of the next, holds of all that are there.
  pub parts_hold : (k i n : ℕ) (xs new : List X) (P : ℕ → List X → Type 0) → k * i ≤ length xs → length new ≡ k → P i new →
      ((j : ℕ) → j < i → P j (take k (drop (k * j) xs))) → (j : ℕ) → j < i + 1 → P j (take k (drop (k * j) (put_mid (k * i) n xs new)))
  parts_hold k i n xs new P inside long this earlier =
      below_more (λ j. P j (take k (drop (k * j) (put_mid (k * i) n xs new)))) i
      (λ j h. subst (P j) (sym (put_before (k * j) k (k * i) n xs new (omega (arith, mul-le-mul_left k h)) inside)) (earlier j h))
      (subst (P i) (sym (put_here (k * i) k n xs new inside long)) this)

  -- As many parts as were written are those that f gives.
  pub parts_more : (k i n : ℕ) (xs new : List X) (f : ℕ → List X) → k * i ≤ length xs → length new ≡ k → new ≡ f i →
      ((j : ℕ) → j < i → take k (drop (k * j) xs) ≡ f j) → (j : ℕ) → j < i + 1 → take k (drop (k * j) (put_mid (k * i) n xs new)) ≡ f j
  parts_more k i n xs new f = parts_hold k i n xs new (λ j l. l ≡ f j)
