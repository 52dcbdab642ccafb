-- The bits of words (specs/Bits.antt): of none and of all, of a word with one bit more, below those that it had or among them, and of the bits that two
-- words have in common. Assumes nothing.
use mathlib.Core.Path.{◌≡◌, refl, ap, ◌∙◌}
use mathlib.Core.Bool.{Bool, true, false, cond}
use Prim.Native.Nat.{ℕ, zero, suc, ◌+◌, ◌-◌, ◌*◌, ◌/◌, ◌%◌, ◌^◌, ◌<◌, ◌≤◌, min}
use native.Mathlib.Omega.{arith}
use borrow.Author.Tests.{eqb-true, eqb-false, eq-eqb, ne_eqb}
use lib.Bits.{bit_and, and_step}
use lib.Count as count
use lib.Count.{ones_step, ones-le}
use lib.Dec.{eqb}
use lib.Pow.{pow_pos}
use mir.Val.{bool_byte}
use Rattle.words.specs.Bits.{bit, ones}

-- ---- none and all
pub bit_of_none : (t : ℕ) → bit t 0 ≡ false
bit_of_none zero = refl
bit_of_none (suc t) = bit_of_none t

pub ones_of_none : (n : ℕ) → ones n 0 ≡ 0
ones_of_none zero = refl
ones_of_none (suc n) = omega (arith, ones_of_none n)

pub bit_of_all : (t n : ℕ) → t < n → bit t (2 ^ n - 1) ≡ true
bit_of_all t zero h = absurd (omega arith)
bit_of_all zero (suc n) h = eq-eqb ((2 ^ suc n - 1) % 2) 1 (omega (arith, pow_pos n))
bit_of_all (suc t) (suc n) h =
    let half : (2 ^ suc n - 1) / 2 ≡ 2 ^ n - 1 = omega (arith, pow_pos n) in
    rw half (bit_of_all t n (omega arith))

pub set_within : (t n word : ℕ) → word < 2 ^ n → bit t word ≡ true → t < n
set_within t zero word small set =
    let none : word ≡ 0 = omega arith in
    let clear : bit t word ≡ false = rw none (bit_of_none t) in
    let same : ◌≡◌ {A = ℕ} 0 1 = cc in
    absurd (omega arith)
set_within zero (suc n) word small set = omega arith
set_within (suc t) (suc n) word small set = omega (arith, set_within t n (word / 2) (omega arith) set)

pub few_ones : (n word : ℕ) → ones n word ≤ n
few_ones zero word = omega arith
few_ones (suc n) word = omega (arith, few_ones n (word / 2))

-- What the library counts: above the word's bits there are none.
pub ones_counted : (n word : ℕ) → word < 2 ^ n → count.ones word ≡ ones n word
ones_counted zero word h = omega (arith, ones-le 0 word h)
ones_counted (suc n) word h = ones_step word ∙ ap (λ (k : ℕ). word % 2 + k) (ones_counted n (word / 2) (omega arith))

-- ---- a word with one bit more, below those that it had
pub halves : (word : ℕ) (v : Bool) → (2 * word + bool_byte v) / 2 ≡ word
halves word true = omega arith
halves word false = omega arith

rests : (word : ℕ) (v : Bool) → (2 * word + bool_byte v) % 2 ≡ bool_byte v
rests word true = omega arith
rests word false = omega arith

pub lowest_bit : (word : ℕ) (v : Bool) → bit 0 (2 * word + bool_byte v) ≡ v
lowest_bit word v = ap (λ (r : ℕ). eqb r 1) (rests word v) ∙ of_one v
  where
    of_one : (v : Bool) → eqb (bool_byte v) 1 ≡ v
    of_one true = refl
    of_one false = refl

pub higher_bit : (t word : ℕ) (v : Bool) → bit (suc t) (2 * word + bool_byte v) ≡ bit t word
higher_bit t word v = ap (bit t) (halves word v)

pub one_more_small : (n word : ℕ) (v : Bool) → word < 2 ^ n → 2 * word + bool_byte v < 2 ^ suc n
one_more_small n word true small = omega arith
one_more_small n word false small = omega arith

-- ---- a word with one bit more, among those that it had
even : (word : ℕ) → bit 0 word ≡ false → word % 2 ≡ 0
even word e =
    let none : (word % 2 ≡ 1 → ⊥) = eqb-false (word % 2) 1 e in
    omega arith

half_added : (z word : ℕ) → (word + 2 ^ suc z) / 2 ≡ word / 2 + 2 ^ z
half_added z word = omega arith

pub bit_added : (z word : ℕ) → bit z word ≡ false → bit z (word + 2 ^ z) ≡ true
bit_added zero word e = eq-eqb ((word + 1) % 2) 1 (omega (arith, even word e))
bit_added (suc z) word e = rw (half_added z word) (bit_added z (word / 2) e)

pub bit_added_other : (t z word : ℕ) → (t ≡ z → ⊥) → bit z word ≡ false → bit t (word + 2 ^ z) ≡ bit t word
bit_added_other zero zero word other e = absurd (other refl)
bit_added_other zero (suc z) word other e = ap (λ (r : ℕ). eqb r 1) {x = (word + 2 ^ suc z) % 2} {y = word % 2} (omega arith)
bit_added_other (suc t) zero word other e = ap (bit t) {x = (word + 1) / 2} {y = word / 2} (omega (arith, even word e))
bit_added_other (suc t) (suc z) word other e = rw (half_added z word) (bit_added_other t z (word / 2) (λ same. other (ap suc same)) e)

pub added_small : (n z word : ℕ) → word < 2 ^ n → z < n → bit z word ≡ false → word + 2 ^ z < 2 ^ n
added_small zero z word small h e = absurd (omega arith)
added_small (suc n) zero word small h e = omega (arith, even word e)
added_small (suc n) (suc z) word small h e = omega (arith, added_small n z (word / 2) (omega arith) (omega arith) e)

-- ---- the bits that two words have in common
pub and_half : (a b : ℕ) → bit_and a b / 2 ≡ bit_and (a / 2) (b / 2)
and_half a b = omega (arith, and_step a b)

pub and_low : (a b : ℕ) → bit_and a b % 2 ≡ min (a % 2) (b % 2)
and_low a b = omega (arith, and_step a b)

pub and_bit_exact : (t a b : ℕ) → bit t (bit_and a b) ≡ cond (bit t a) (bit t b) false
and_bit_exact zero a b = rw (and_low a b) (by_test (bit 0 a) refl)
  where
    by_test : (s : Bool) → bit 0 a ≡ s → eqb (min (a % 2) (b % 2)) 1 ≡ cond s (bit 0 b) false
    by_test true e = ap (λ (r : ℕ). eqb r 1) {x = min (a % 2) (b % 2)} {y = b % 2} (omega (arith, eqb-true (a % 2) 1 e))
    by_test false e = ne_eqb (min (a % 2) (b % 2)) 1 (λ h. omega (arith, even a e))
and_bit_exact (suc t) a b = rw (and_half a b) (and_bit_exact t (a / 2) (b / 2))
