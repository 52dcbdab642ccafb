-- Sums and differences of pairs of words, over their values: a low word that has wrapped is told by a comparison, what it lost goes up into the high
-- word, and no high word overflows where the sum or the difference is up to 2^126 in size. The check finds the proofs of `add` and `sub` without them; they say why these hold.
-- Assumes nothing.
use Rattle.std.proofs.Common.{◌≡◌, ℕ, ◌+◌, ◌*◌, ◌%◌, ◌^◌, ◌<◌, ◌≤◌, [], ◌∷◌, ℤ, pos, negsuc, ◌+ℤ◌, ◌-ℤ◌, ◌*ℤ◌, nat_abs, sym, refl, ap, subst, arith, to_z-of_z, w64, SFits, to_z, of_z}
use Rattle.algebra.proofs.Bound.{abs_add, abs_sub, abs_mul}
use Rattle.algebra.proofs.Machine.{Reads, held}
use Rattle.algebra.proofs.Expression.{var, lit, ◌⊞◌, ◌⊟◌, ◌⊠◌}
use Rattle.algebra.proofs.Solver.{ring}
use Rattle.algebra.proofs.Certificate.{◌≐◌, eqn, num, prove≡}
use Rattle.wide.specs.Value.{value, Low}
use Rattle.wide.specs.Sums.{Small}
use Rattle.wide.specs.declared.Wide.{Wide}

-- ---- the value, in any base p: a carry of k goes up, a borrow of k comes down
abbrev worth : ℤ → ℕ → ℕ → ℤ
worth h l p = h *ℤ pos p +ℤ pos l

carried : (a b : ℤ) (k l m r p : ℕ) → l + m ≡ r + k * p → worth (a +ℤ b +ℤ pos k) r p ≡ worth a l p +ℤ worth b m p
carried a b k l m r p e =
    prove≡ (a ∷ b ∷ pos l ∷ pos m ∷ pos r ∷ pos p ∷ pos k ∷ []) ((var 2 ⊞ var 3 ≐ var 4 ⊞ var 6 ⊠ var 5) ∷ [])
    ((var 0 ⊞ var 1 ⊞ var 6) ⊠ var 5 ⊞ var 4) ((var 0 ⊠ var 5 ⊞ var 2) ⊞ (var 1 ⊠ var 5 ⊞ var 3)) (num 1) (eqn 0 (lit (negsuc 0))) tt tt tt refl (ap pos e)

borrowed : (a b : ℤ) (k l m r p : ℕ) → r + m ≡ l + k * p → worth (a -ℤ b -ℤ pos k) r p ≡ worth a l p -ℤ worth b m p
borrowed a b k l m r p e =
    prove≡ (a ∷ b ∷ pos l ∷ pos m ∷ pos r ∷ pos p ∷ pos k ∷ []) ((var 4 ⊞ var 3 ≐ var 2 ⊞ var 6 ⊠ var 5) ∷ [])
    ((var 0 ⊟ var 1 ⊟ var 6) ⊠ var 5 ⊞ var 4) ((var 0 ⊠ var 5 ⊞ var 2) ⊟ (var 1 ⊠ var 5 ⊞ var 3)) (num 1) (eqn 0 (lit (pos 1))) tt tt tt refl (ap pos e)

-- ---- the high word of a number up to 2^126 in size
high_size : (h : ℤ) (l : ℕ) → l < 2 ^ 64 → Small (worth h l (2 ^ 64)) → nat_abs h ≤ 2 ^ 62
high_size h l word small = omega (arith, abs_mul h (pos (2 ^ 64)), ap nat_abs without_low, abs_sub (worth h l (2 ^ 64)) (pos l))
  where
    without_low : h *ℤ pos (2 ^ 64) ≡ worth h l (2 ^ 64) -ℤ pos l
    without_low = ring ((h *ℤ pos (2 ^ 64)) ∷ pos l ∷ []) (var 0) ((var 0 ⊞ var 1) ⊟ var 1) tt refl

-- ---- the high words as the code holds them
abbrev kept : ℤ → ℤ
kept z = to_z w64 (of_z w64 z)

-- What is known of a sum with the carry k and the low word r: its high word before the carry is added and after it, and the value.
pub record Sum (a b : Wide) (k r : ℕ) : Type 0 where
  pub plain : Reads (kept a.hi +ℤ kept b.hi) (a.hi +ℤ b.hi) (2 ^ 62 + 1)
  pub high : Reads (kept (kept a.hi +ℤ kept b.hi) +ℤ pos k) (a.hi +ℤ b.hi +ℤ pos k) (2 ^ 62)
  pub value_is : worth (a.hi +ℤ b.hi +ℤ pos k) r (2 ^ 64) ≡ value a +ℤ value b

pub record Difference (a b : Wide) (k r : ℕ) : Type 0 where
  pub plain : Reads (kept a.hi -ℤ kept b.hi) (a.hi -ℤ b.hi) (2 ^ 62 + 1)
  pub high : Reads (kept (kept a.hi -ℤ kept b.hi) -ℤ pos k) (a.hi -ℤ b.hi -ℤ pos k) (2 ^ 62)
  pub value_is : worth (a.hi -ℤ b.hi -ℤ pos k) r (2 ^ 64) ≡ value a -ℤ value b

module _ (a b : Wide) (fa : SFits w64 a.hi) (fb : SFits w64 b.hi) (k r : ℕ) (one : k ≤ 1) (word : r < 2 ^ 64) where
  sum_of : a.lo + b.lo ≡ r + k * 2 ^ 64 → Small (value a +ℤ value b) → Sum a b k r
  sum_of e small = record { plain = before; high = record { is = (λ i. (held w64 before tt).is i +ℤ pos k); within = record { abs = size } }; value_is = is }
    where
      is : worth (a.hi +ℤ b.hi +ℤ pos k) r (2 ^ 64) ≡ value a +ℤ value b
      is = carried a.hi b.hi k a.lo b.lo r (2 ^ 64) e

      size : nat_abs (a.hi +ℤ b.hi +ℤ pos k) ≤ 2 ^ 62
      size = high_size (a.hi +ℤ b.hi +ℤ pos k) r word (subst Small (sym is) small)

      without : a.hi +ℤ b.hi ≡ (a.hi +ℤ b.hi +ℤ pos k) -ℤ pos k
      without = ring (a.hi ∷ b.hi ∷ pos k ∷ []) (var 0 ⊞ var 1) ((var 0 ⊞ var 1 ⊞ var 2) ⊟ var 2) tt refl

      before : Reads (kept a.hi +ℤ kept b.hi) (a.hi +ℤ b.hi) (2 ^ 62 + 1)
      before = record {
        is = (λ i. to_z-of_z fa i +ℤ to_z-of_z fb i);
        within = record { abs = omega (arith, ap nat_abs without, abs_sub (a.hi +ℤ b.hi +ℤ pos k) (pos k), size) };
      }

  difference_of : r + b.lo ≡ a.lo + k * 2 ^ 64 → Small (value a -ℤ value b) → Difference a b k r
  difference_of e small = record { plain = before; high = record { is = (λ i. (held w64 before tt).is i -ℤ pos k); within = record { abs = size } }; value_is = is }
    where
      is : worth (a.hi -ℤ b.hi -ℤ pos k) r (2 ^ 64) ≡ value a -ℤ value b
      is = borrowed a.hi b.hi k a.lo b.lo r (2 ^ 64) e

      size : nat_abs (a.hi -ℤ b.hi -ℤ pos k) ≤ 2 ^ 62
      size = high_size (a.hi -ℤ b.hi -ℤ pos k) r word (subst Small (sym is) small)

      without : a.hi -ℤ b.hi ≡ (a.hi -ℤ b.hi -ℤ pos k) +ℤ pos k
      without = ring (a.hi ∷ b.hi ∷ pos k ∷ []) (var 0 ⊟ var 1) ((var 0 ⊟ var 1 ⊟ var 2) ⊞ var 2) tt refl

      before : Reads (kept a.hi -ℤ kept b.hi) (a.hi -ℤ b.hi) (2 ^ 62 + 1)
      before = record {
        is = (λ i. to_z-of_z fa i -ℤ to_z-of_z fb i);
        within = record { abs = omega (arith, ap nat_abs without, abs_add (a.hi -ℤ b.hi -ℤ pos k) (pos k), size) };
      }

-- ---- low words with wrap: the comparison finds whether 2^64 was lost or lent
module _ (a b : Wide) (fa : SFits w64 a.hi) (fb : SFits w64 b.hi) (la : Low a) (lb : Low b) (r : ℕ) where
  module _ (small : Small (value a +ℤ value b)) (e : r ≡ (a.lo + b.lo) % 2 ^ 64) where
    pub sum_wrapped : r < a.lo → Sum a b 1 r
    sum_wrapped h = sum_of a b fa fb 1 r (omega arith) (omega arith) (omega arith) small

    pub sum_plain : a.lo ≤ r → Sum a b 0 r
    sum_plain h = sum_of a b fa fb 0 r (omega arith) (omega arith) (omega arith) small

  module _ (small : Small (value a -ℤ value b)) (word : r < 2 ^ 64) (e : (r + b.lo) % 2 ^ 64 ≡ a.lo) where
    pub difference_wrapped : a.lo < r → Difference a b 1 r
    difference_wrapped h = difference_of a b fa fb 1 r (omega arith) word (omega arith) small

    pub difference_plain : r ≤ a.lo → Difference a b 0 r
    difference_plain h = difference_of a b fa fb 0 r (omega arith) word (omega arith) small
