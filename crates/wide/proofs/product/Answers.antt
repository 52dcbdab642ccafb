-- `wide::product` meets its contract: each column of the product fits 64 bits, and the columns make the product. Assumes nothing.
use Rattle.std.proofs.Common.{◌≡◌, ℕ, ◌+◌, ◌*◌, ◌/◌, ◌%◌, ◌^◌, ◌<◌, ◌≤◌, ℤ, pos, ◌+ℤ◌, ◌*ℤ◌, nat_abs, sym, refl, ap, ◌∙◌, subst, ap₂, mul-le-mul, arith, w64, Fits, SFits, to_z, of_z}
use lib.Signed.{shr_z}
use lib.Bits.{bit_and, and_mask}
use mir.Facts.{to_z_pos}
use Rattle.algebra.proofs.Machine.{Reads, in_range, held, sum, product}
use Rattle.wide.proofs.Halves.{low, high, low_is, low_cast, mod_lt32, high_lt, top, bottom, two_halves, half_fits, halves, column, columns}
use Rattle.wide.proofs.product.Goals as goal

module _ (u v : ℤ) (fu : SFits w64 u) (fv : SFits w64 v) where
  abbrev u1 : ℤ
  u1 = shr_z u (2 ^ 32)

  abbrev v1 : ℤ
  v1 = shr_z v (2 ^ 32)

  abbrev u0 : ℕ
  u0 = of_z w64 u % 2 ^ 32

  abbrev v0 : ℕ
  v0 = of_z w64 v % 2 ^ 32

  lows : nat_abs (low (of_z w64 u)) * nat_abs (low (of_z w64 v)) ≡ u0 * v0
  lows = ap₂ (λ (a b : ℤ). nat_abs a * nat_abs b) (low_is (of_z w64 u)) (low_is (of_z w64 v))

  lows-le : u0 * v0 ≤ 4294967295 * 4294967295
  lows-le = mul-le-mul {n₁ = u0} {m₁ = v0} {n₂ = 4294967295} {m₂ = 4294967295} (omega (arith, mod_lt32 (of_z w64 u))) (omega (arith, mod_lt32 (of_z w64 v)))

  w_fits : Fits w64 (nat_abs (low (of_z w64 u)) * nat_abs (low (of_z w64 v)))
  w_fits = subst (λ (n : ℕ). Fits w64 n) (sym lows) (record { fits = go (u0 * v0) lows-le })
    where
      go : (n : ℕ) → n ≤ 4294967295 * 4294967295 → n < 2 ^ 64
      go n h = omega arith

  w-high : u0 * v0 / 2 ^ 32 < 2 ^ 32
  w-high = go (u0 * v0) lows-le
    where
      go : (n : ℕ) → n ≤ 4294967295 * 4294967295 → n / 2 ^ 32 < 2 ^ 32
      go n h = omega arith

  w-cast : SFits w64 (pos (nat_abs (low (of_z w64 u)) * nat_abs (low (of_z w64 v)) / 4294967296))
  w-cast = subst (λ (n : ℕ). SFits w64 (pos (n / 4294967296))) (sym lows) (record { sfits = omega (arith, w-high) })

  -- a high half times a low one
  cross : Reads (high u *ℤ low (of_z w64 v)) (u1 *ℤ pos v0) (2 ^ 31 * 4294967295)
  cross = product (top refl fu) (bottom {z = v} refl)

  -- the middle column
  abbrev tm : ℤ
  tm = to_z w64 (of_z w64 (high u *ℤ low (of_z w64 v))) +ℤ to_z w64 (nat_abs (low (of_z w64 u)) * nat_abs (low (of_z w64 v)) / 4294967296)

  abbrev t : ℤ
  t = u1 *ℤ pos v0 +ℤ pos (u0 * v0 / 2 ^ 32)

  t-is : tm ≡ t
  t-is = ap₂ ◌+ℤ◌ (held w64 cross tt).is (ap (λ (n : ℕ). to_z w64 (n / 4294967296)) lows ∙ to_z_pos w64 {n = u0 * v0 / 2 ^ 32} (omega (arith, w-high)))

  t-ok : SFits w64 t
  t-ok = column u1 v0 (u0 * v0 / 2 ^ 32) (high_lt u fu) (mod_lt32 (of_z w64 v)) w-high

  t-fits : SFits w64 tm
  t-fits = subst (λ (z : ℤ). SFits w64 z) (sym t-is) t-ok

  abbrev t0 : ℕ
  t0 = of_z w64 t % 2 ^ 32

module _ (u v : ℤ) (fu : SFits w64 u) (fv : SFits w64 v) where
  -- the next column
  abbrev sm : ℤ
  sm = to_z w64 (of_z w64 (high v *ℤ low (of_z w64 u))) +ℤ low (of_z w64 (tm u v fu fv))

  abbrev s : ℤ
  s = v1 u v fu fv *ℤ pos (u0 u v fu fv) +ℤ pos (t0 u v fu fv)

  s-is : sm ≡ s
  s-is = ap₂ ◌+ℤ◌ (held w64 (cross v u fv fu) tt).is (bottom (t-is u v fu fv)).is

  s-ok : SFits w64 s
  s-ok = column (v1 u v fu fv) (u0 u v fu fv) (t0 u v fu fv) (high_lt v fv) (mod_lt32 (of_z w64 u)) (mod_lt32 (of_z w64 (t u v fu fv)))

  s-fits : SFits w64 sm
  s-fits = subst (λ (z : ℤ). SFits w64 z) (sym s-is) s-ok

  abbrev s0 : ℕ
  s0 = of_z w64 s % 2 ^ 32

  -- the high word
  uv : Reads (high u *ℤ high v) (u1 u v fu fv *ℤ v1 u v fu fv) (2 ^ 31 * 2 ^ 31)
  uv = product (top refl fu) (top refl fv)

  uvt : Reads (to_z w64 (of_z w64 (high u *ℤ high v)) +ℤ high (tm u v fu fv)) (u1 u v fu fv *ℤ v1 u v fu fv +ℤ shr_z (t u v fu fv) (2 ^ 32)) (2 ^ 31 * 2 ^ 31 + 2 ^ 31)
  uvt = sum (held w64 uv tt) (top (t-is u v fu fv) (t-ok u v fu fv))

  uvts : Reads (to_z w64 (of_z w64 (to_z w64 (of_z w64 (high u *ℤ high v)) +ℤ high (tm u v fu fv))) +ℤ high sm) (u1 u v fu fv *ℤ v1 u v fu fv +ℤ shr_z (t u v fu fv) (2 ^ 32) +ℤ shr_z s (2 ^ 32)) (2 ^ 31 * 2 ^ 31 + 2 ^ 31 + 2 ^ 31)
  uvts = sum (held w64 uvt tt) (top s-is s-ok)

  -- the low word
  abbrev lom : ℕ
  lom = nat_abs (low (of_z w64 sm)) * 4294967296 + bit_and (nat_abs (low (of_z w64 u)) * nat_abs (low (of_z w64 v))) 4294967295

  lo-is : lom ≡ s0 * 2 ^ 32 + u0 u v fu fv * v0 u v fu fv % 2 ^ 32
  lo-is = ap₂ ◌+◌ (ap (λ (z : ℤ). nat_abs z * 4294967296) (bottom s-is).is) (and_mask (nat_abs (low (of_z w64 u)) * nat_abs (low (of_z w64 v))) 32 ∙ ap (λ (n : ℕ). n % 2 ^ 32) (lows u v fu fv))

  lo-fits : Fits w64 lom
  lo-fits =
      subst (λ (n : ℕ). Fits w64 n) (sym lo-is)
      (record { fits = two_halves s0 (u0 u v fu fv * v0 u v fu fv % 2 ^ 32) (mod_lt32 (of_z w64 s)) (mod_lt32 (u0 u v fu fv * v0 u v fu fv)) })

  div-mod : (n : ℕ) → n ≡ n / 2 ^ 32 * 2 ^ 32 + n % 2 ^ 32
  div-mod n = omega arith

  -- what the code joins, and that the columns make the product
  joined : to_z w64 (of_z w64 (to_z w64 (of_z w64 (to_z w64 (of_z w64 (high u *ℤ high v)) +ℤ high (tm u v fu fv))) +ℤ high sm)) *ℤ pos (2 ^ 64) +ℤ pos lom
      ≡ (u1 u v fu fv *ℤ v1 u v fu fv +ℤ shr_z (t u v fu fv) (2 ^ 32) +ℤ shr_z s (2 ^ 32)) *ℤ pos (2 ^ 64) +ℤ pos (s0 * 2 ^ 32 + u0 u v fu fv * v0 u v fu fv % 2 ^ 32)
  joined = ap₂ (λ (h : ℤ) (l : ℕ). h *ℤ pos (2 ^ 64) +ℤ pos l) (held w64 uvts tt).is lo-is

  by_columns : (u1 u v fu fv *ℤ v1 u v fu fv +ℤ shr_z (t u v fu fv) (2 ^ 32) +ℤ shr_z s (2 ^ 32)) *ℤ pos (2 ^ 64) +ℤ pos (s0 * 2 ^ 32 + u0 u v fu fv * v0 u v fu fv % 2 ^ 32) ≡ u *ℤ v
  by_columns =
      columns u v (u1 u v fu fv) (v1 u v fu fv) (shr_z (t u v fu fv) (2 ^ 32)) (shr_z s (2 ^ 32)) (u0 u v fu fv) (v0 u v fu fv)
      (u0 u v fu fv * v0 u v fu fv / 2 ^ 32) (u0 u v fu fv * v0 u v fu fv % 2 ^ 32) (t0 u v fu fv) s0
      (halves u fu) (halves v fv) (div-mod (u0 u v fu fv * v0 u v fu fv)) (halves (t u v fu fv) (t-ok u v fu fv)) (halves s s-ok)

pub overflow_mul-t : goal.overflow_mul-t
overflow_mul-t c = in_range (cross c.args.u c.args.v c.ranges.u c.ranges.v) tt

pub overflow_add-t : goal.overflow_add-t
overflow_add-t c = t-fits c.args.u c.args.v c.ranges.u c.ranges.v

pub overflow_mul-s : goal.overflow_mul-s
overflow_mul-s c = in_range (cross c.args.v c.args.u c.ranges.v c.ranges.u) tt

pub overflow_add-s : goal.overflow_add-s
overflow_add-s c = s-fits c.args.u c.args.v c.ranges.u c.ranges.v

pub overflow_mul-result : goal.overflow_mul-result
overflow_mul-result c = in_range (uv c.args.u c.args.v c.ranges.u c.ranges.v) tt

pub overflow_add-result : goal.overflow_add-result
overflow_add-result c = in_range (uvt c.args.u c.args.v c.ranges.u c.ranges.v) tt

pub overflow_add-result-2 : goal.overflow_add-result-2
overflow_add-result-2 c = in_range (uvts c.args.u c.args.v c.ranges.u c.ranges.v) tt

pub overflow_cast-result : goal.overflow_cast-result
overflow_cast-result c = low_cast (of_z w64 (sm c.args.u c.args.v c.ranges.u c.ranges.v))

pub overflow_mul-result-2 : goal.overflow_mul-result-2
overflow_mul-result-2 c = half_fits (of_z w64 (sm c.args.u c.args.v c.ranges.u c.ranges.v))

pub overflow_add-result-3 : goal.overflow_add-result-3
overflow_add-result-3 c = lo-fits c.args.u c.args.v c.ranges.u c.ranges.v

pub returns : goal.returns
returns c = joined c.args.u c.args.v c.ranges.u c.ranges.v ∙ by_columns c.args.u c.args.v c.ranges.u c.ranges.v
