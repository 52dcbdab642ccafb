-- A natural number rounded to a format: up to 2^(prec + j), with the format's `prec` binary digits, the result is a whole number of no more than that, off by
-- at most half of 2^j. (At 2^(prec + j) itself nothing is rounded.) Assumes nothing.
use mathlib.Core.Path.{◌≡◌, sym, ap, ◌∙◌, subst}
use mathlib.Core.Logic.{◌⊎◌, inl, inr}
use mathlib.Core.Bool.{Bool}
use Prim.Native.Nat.{ℕ, suc, ◌+◌, ◌-◌, ◌*◌, ◌/◌, ◌%◌, ◌^◌, ◌≤◌, ◌<◌, compare}
use native.Mathlib.Nat.{mul_right_comm, one-mul, mul-one, div-one, eq_of_mul-eq-mul_right, lt_of_le_of_lt, le_trans, mul-le-mul, le_of_mul-le-mul_right, eq-or-lt_of_le, add_comm, add_assoc}
use native.Mathlib.Omega.{arith}
use lib.Dec.{lit<}
use lib.Pow.{pow-add, pow_pos, pow_mono, pow-lt, shl_lt}
use lib.Ieee.{Float, nan, inf, fin, Format, binary32, binary64, prec, emax, low, up, down, size, units, round}
use lib.Ieee.Nearest.{closest}
use lib.Ieee.Exact.{HasValue, units_val, round_exact}
use lib.Ieee.Fits.{core, round_is, nearest-le, kept-lt}
use Rattle.estimates.proofs.Nearest.{HalfApart, digits_over, rounded}

-- The same value as another fraction.
same_value : (x : Float) (s : Bool) (a c a' c' : ℕ) → 0 < c → a' * c ≡ a * c' → HasValue x s a c → HasValue x s a' c'
same_value nan s a c a' c' positive e v = v
same_value (inf t) s a c a' c' positive e v = v
same_value (fin t m d) s a c a' c' positive e v = (
  v.0,
  eq_of_mul-eq-mul_right c positive (m * up d * c') (a' * down d)
      (mul_right_comm (m * up d) c' c
      ∙ ap (λ (x : ℕ). x * c') v.1
      ∙ mul_right_comm a (down d) c'
      ∙ ap (λ (x : ℕ). x * down d) (sym e)
      ∙ mul_right_comm a' c (down d)),
)

-- What rounding the whole number n to the format f gives, with the sign s.
pub record RoundsTo (f : Format) (s : Bool) (n j : ℕ) : Type 0 where
  pub number : ℕ
  pub has : HasValue (round f s n 1) s number 1
  pub near : HalfApart (2 ^ j) number n
  pub most : number ≤ 2 ^ (prec f + j)

-- Below 2^(prec + j): `q` is what is kept of the number, `k` how many digits are cut off, both over the format's smallest values.
module _ (f : Format) (s : Bool) (n j : ℕ) (below : n < 2 ^ (prec f + j)) (finite : prec f + j ≤ emax f) where
  abbrev unit : ℕ
  unit = low f

  abbrev k : ℕ
  k = size (n * 2 ^ unit) - prec f

  abbrev q : ℕ
  q = closest (n * 2 ^ unit) (2 ^ k)

  round_by_units : round f s n 1 ≡ units f s q k
  round_by_units =
      round_is f s n 1
      ∙ ap (λ (x : ℕ). core f s (n * 2 ^ unit) 1 (size x - prec f)) (div-one (n * 2 ^ unit))
      ∙ ap (λ (x : ℕ). units f s (closest (n * 2 ^ unit) x) k) (one-mul (2 ^ k))

  kept_most : q ≤ 2 ^ prec f
  kept_most = le_trans (nearest-le (n * 2 ^ unit / 2 ^ k) (compare (n * 2 ^ unit % 2 ^ k * 2) (2 ^ k))) (kept-lt (prec f) (n * 2 ^ unit))

  powers : 2 ^ prec f * 2 ^ (j + unit) ≡ 2 ^ (prec f + j) * 2 ^ unit
  powers = sym (pow-add 2 (prec f) (j + unit)) ∙ ap (λ (x : ℕ). 2 ^ x) (sym (add_assoc (prec f) j unit)) ∙ pow-add 2 (prec f + j) unit

  units_most : q * 2 ^ k ≤ 2 ^ (prec f + j) * 2 ^ unit
  units_most = subst (λ (x : ℕ). q * 2 ^ k ≤ x) powers (mul-le-mul kept_most (pow_mono (digits_over (prec f) unit n j below)))

  no_overflow : (r : ℕ) → q * 2 ^ k ≡ r * 2 ^ unit → r ≤ 2 ^ (prec f + j) → q * 2 ^ k < 2 ^ (unit + suc (emax f))
  no_overflow r stands most =
      subst (λ (x : ℕ). x < 2 ^ (unit + suc (emax f))) (sym stands)
      (subst (λ (x : ℕ). r * 2 ^ unit < 2 ^ x) (add_comm (suc (emax f)) unit) (shl_lt (suc (emax f)) unit (lt_of_le_of_lt most (pow-lt (omega arith)))))

  rounds_below : RoundsTo f s n j
  rounds_below =
      let r = rounded (prec f) unit n j below in
      let most : r.number ≤ 2 ^ (prec f + j) = le_of_mul-le-mul_right (subst (λ (x : ℕ). x ≤ 2 ^ (prec f + j) * 2 ^ unit) r.stands units_most) (pow_pos unit) in
      let has = units_val f s q k (no_overflow r.number r.stands most) in
      record {
        number = r.number;
        has =
            subst (λ (x : Float). HasValue x s r.number 1) (sym round_by_units)
            (same_value (units f s q k) s (q * 2 ^ k) (2 ^ unit) r.number 1 (pow_pos unit) (sym r.stands ∙ sym (mul-one (q * 2 ^ k))) has);
        near = r.near;
        most = most;
      }

-- A power of two is a value of the format.
one_digit : (f : Format) → 1 < 2 ^ prec f
one_digit binary32 = lit< tt
one_digit binary64 = lit< tt

power_exact : (f : Format) (s : Bool) (i : ℕ) → i ≤ emax f → HasValue (round f s (2 ^ i) 1) s (2 ^ i) 1
power_exact f s i finite =
    round_exact f s (2 ^ i) 1 1 (i + low f) (omega arith) (one_digit f)
    (subst (λ (x : ℕ). x < 2 ^ (low f + suc (emax f))) (sym (one-mul (2 ^ (i + low f)))) (pow-lt (omega arith)))
    (sym (pow-add 2 i (low f)) ∙ sym (one-mul (2 ^ (i + low f))) ∙ sym (mul-one (1 * 2 ^ (i + low f))))

-- Up to 2^(prec + j).
pub rounds_to : (f : Format) (s : Bool) (n j : ℕ) → n ≤ 2 ^ (prec f + j) → prec f + j ≤ emax f → RoundsTo f s n j
rounds_to f s n j most finite = by_order (eq-or-lt_of_le most)
  where
    by_order : (n ≡ 2 ^ (prec f + j)) ⊎ (n < 2 ^ (prec f + j)) → RoundsTo f s n j
    by_order (inl e) = record {
      number = n;
      has = subst (λ (x : ℕ). HasValue (round f s x 1) s x 1) (sym e) (power_exact f s (prec f + j) finite);
      near = (omega arith, omega arith);
      most = most;
    }
    by_order (inr below) = rounds_below f s n j below finite
