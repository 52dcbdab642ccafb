-- A natural number rounded to p binary digits is a whole number again, off by at most half of the last digit that is kept: half of 2^j, where the number is
-- below 2^(p + j). Rounding, as the kit defines it, counts in the smallest values of the format, so that the number n stands as n * 2^unit. Nothing here is
-- about doubles. Assumes nothing.
use mathlib.Core.Path.{◌≡◌, sym, ap, ◌∙◌, subst}
use mathlib.Core.Bool.{not}
use Prim.Native.Nat.compare
use Prim.Native.Nat.{ℕ, zero, suc, ◌+◌, ◌-◌, ◌*◌, ◌/◌, ◌%◌, ◌^◌, ◌≤◌, ◌<◌, compare, Ordering}
use native.Mathlib.Nat.{mul_assoc, mul_right_comm, add-mul, one-mul, suc-mul, le_of_mul-le-mul_right, div-add-mod', mod-lt, mul-div_cancel, mul-mod_left}
use native.Mathlib.Omega.{arith}
use native.Mathlib.Decide.{dec_le}
use lib.Dec.{T, is_le, compare_is_eq, eqb, leb→le, nleb→lt, eqb→eq, eqb_refl}
use lib.Arith.{lt_of_le-ne}
use lib.Pow.{pow-add, pow_pos, pow_mono, shl_lt}
use lib.Ieee.{nearest, size}
use lib.Ieee.Nearest.{closest}
use lib.Ieee.Digits.{size-le}

-- ---- what a comparison says
abbrev Says : Ordering → ℕ → ℕ → Type 0
Says Ordering.lt a b = a < b
Says Ordering.eq a b = a ≡ b
Says Ordering.gt a b = b < a

compared : (a b : ℕ) → Says (compare a b) a b
compared a b = by_ordering (compare a b) (leb→le a b) (nleb→lt a b) (eqb→eq a b) (λ (e : a ≡ b). subst (λ (x : ℕ). T (eqb a x)) e (eqb_refl a))
  where
    by_ordering : (o : Ordering) → (T (is_le o) → a ≤ b) → (T (not (is_le o)) → b < a) → (T (compare_is_eq o) → a ≡ b) → (a ≡ b → T (compare_is_eq o)) → Says o a b
    by_ordering Ordering.lt le gt eq ne = lt_of_le-ne (le tt) ne
    by_ordering Ordering.eq le gt eq ne = eq tt
    by_ordering Ordering.gt le gt eq ne = gt tt

-- ---- the closest multiple of a number
-- a and w are no farther apart than half of b.
abbrev pub HalfApart : ℕ → ℕ → ℕ → Type 0
HalfApart b w a = (w * 2 ≤ a * 2 + b) × (a * 2 ≤ w * 2 + b)

-- At a tie the quotient q goes up by its last digit, which is 0 or 1.
at_tie : (q up r b a : ℕ) → up < 2 → q * b + r ≡ a → r * 2 ≡ b → HalfApart b ((q + up) * b) a
at_tie q zero r b a l e h = rw (add-mul q 0 b) (omega arith)
at_tie q (suc zero) r b a l e h = rw (add-mul q 1 b) (omega (arith, one-mul b))
at_tie q (suc (suc up)) r b a l e h = absurd (omega arith)

by_remainder : (q r b a : ℕ) (o : Ordering) → q * b + r ≡ a → r < b → Says o (r * 2) b → HalfApart b (nearest q o * b) a
by_remainder q r b a Ordering.lt e l h = omega arith
by_remainder q r b a Ordering.eq e l h = at_tie q (q % 2) r b a (omega arith) e h
by_remainder q r b a Ordering.gt e l h = omega (arith, suc-mul q b)

closest_near : (a b : ℕ) → 0 < b → HalfApart b (closest a b * b) a
closest_near a b positive = by_remainder (a / b) (a % b) b a (compare (a % b * 2) b) (div-add-mod' a b) (mod-lt a positive) (compared (a % b * 2) b)

-- A multiple is its own closest.
zero_below : (b : ℕ) → 0 < b → compare 0 b ≡ Ordering.lt
zero_below zero h = absurd (omega arith)
zero_below (suc b) h = compare.zero-suc b

closest_exact : (x b : ℕ) → 0 < b → closest (x * b) b ≡ x
closest_exact x b positive =
    ap (λ (q : ℕ). nearest q (compare (x * b % b * 2) b)) (mul-div_cancel x positive)
    ∙ ap (λ (m : ℕ). nearest x (compare (m * 2) b)) (mul-mod_left x b)
    ∙ ap (λ (o : Ordering). nearest x o) (zero_below b positive)

-- ---- a number that stands as n * 2^unit
-- w stands for a whole number, no farther than half of 2^j from n.
pub record Rounded (unit w n j : ℕ) : Type 0 where
  pub number : ℕ
  pub stands : w ≡ number * 2 ^ unit
  pub near : HalfApart (2 ^ j) number n

-- What is apart by half of 2^j units is, without the units, apart by half of 2^j.
without_units : (r n b unit : ℕ) → HalfApart (b * 2 ^ unit) (r * 2 ^ unit) (n * 2 ^ unit) → HalfApart b r n
without_units r n b unit h = (one_way r n h.0, one_way n r h.1)
  where
    gathered : (r n : ℕ) → r * 2 ^ unit * 2 ≤ n * 2 ^ unit * 2 + b * 2 ^ unit → r * 2 * 2 ^ unit ≤ (n * 2 + b) * 2 ^ unit
    gathered r n l = rw (add-mul (n * 2) b (2 ^ unit), mul_right_comm r 2 (2 ^ unit), mul_right_comm n 2 (2 ^ unit)) l

    one_way : (r n : ℕ) → r * 2 ^ unit * 2 ≤ n * 2 ^ unit * 2 + b * 2 ^ unit → r * 2 ≤ n * 2 + b
    one_way r n l = le_of_mul-le-mul_right {k = 2 ^ unit} (gathered r n l) (pow_pos unit)

-- A larger distance.
farther : (w a b c : ℕ) → b ≤ c → HalfApart b w a → HalfApart c w a
farther w a b c l h = let x = h.0 in let y = h.1 in (omega arith, omega arith)

-- The power of two that is cut off, in two parts.
split : (x k m : ℕ) → m ≤ k → x * 2 ^ k ≡ x * 2 ^ (k - m) * 2 ^ m
split x k m l = ap (λ (e : ℕ). x * 2 ^ e) (parts k m l) ∙ ap (λ (y : ℕ). x * y) (pow-add 2 (k - m) m) ∙ sym (mul_assoc x (2 ^ (k - m)) (2 ^ m))
  where
    parts : (k m : ℕ) → m ≤ k → k ≡ k - m + m
    parts k m l = omega arith

-- With k digits cut off: where these are all below the unit, nothing is; else the closest multiple is a whole number of units.
cut_off : (unit n j k : ℕ) → k ≤ j + unit → Dec (k ≤ unit) → Rounded unit (closest (n * 2 ^ unit) (2 ^ k) * 2 ^ k) n j
cut_off unit n j k few (yes l) =
    let parts = split n unit k l in
    record {
      number = n;
      stands =
          ap (λ (x : ℕ). closest x (2 ^ k) * 2 ^ k) parts
          ∙ ap (λ (x : ℕ). x * 2 ^ k) (closest_exact (n * 2 ^ (unit - k)) (2 ^ k) (pow_pos k))
          ∙ sym parts;
      near = (omega arith, omega arith);
    }
cut_off unit n j k few (no l) =
    let q = closest (n * 2 ^ unit) (2 ^ k) in
    let r = q * 2 ^ (k - unit) in
    let stands : q * 2 ^ k ≡ r * 2 ^ unit = split q k unit (omega arith) in
    let enough : 2 ^ k ≤ 2 ^ j * 2 ^ unit = subst (λ (x : ℕ). 2 ^ k ≤ x) (pow-add 2 j unit) (pow_mono few) in
    let half : HalfApart (2 ^ k) (r * 2 ^ unit) (n * 2 ^ unit) = subst (λ (x : ℕ). HalfApart (2 ^ k) x (n * 2 ^ unit)) stands (closest_near (n * 2 ^ unit) (2 ^ k) (pow_pos k)) in
    record {
      number = r;
      stands = stands;
      near = without_units r n (2 ^ j) unit (farther (r * 2 ^ unit) (n * 2 ^ unit) (2 ^ k) (2 ^ j * 2 ^ unit) enough half);
    }

-- A number below 2^(p + j) has that many digits more than p, and units.
pub digits_over : (p unit n j : ℕ) → n < 2 ^ (p + j) → size (n * 2 ^ unit) - p ≤ j + unit
digits_over p unit n j h = rest (size (n * 2 ^ unit)) p (size-le (n * 2 ^ unit) (p + j + unit) (shl_lt (p + j) unit h))
  where
    rest : (z p : ℕ) → z ≤ p + j + unit → z - p ≤ j + unit
    rest z p l = omega arith

-- So rounded to p digits it is off by at most half of 2^j.
pub rounded : (p unit n j : ℕ) → n < 2 ^ (p + j) → Rounded unit (closest (n * 2 ^ unit) (2 ^ (size (n * 2 ^ unit) - p)) * 2 ^ (size (n * 2 ^ unit) - p)) n j
rounded p unit n j h = let k = size (n * 2 ^ unit) - p in cut_off unit n j k (digits_over p unit n j h) (dec_le k unit)
