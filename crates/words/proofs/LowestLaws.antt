-- The lowest bit of a word that is set, and the word without it (specs/Bits.antt). Assumes nothing.
use mathlib.Core.Path.{◌≡◌, refl, sym, ap, subst, ◌∙◌}
use mathlib.Core.Bool.{true, false}
use Prim.Native.Nat.{ℕ, zero, suc, ◌+◌, ◌-◌, ◌/◌, ◌%◌, ◌^◌, ◌<◌}
use native.Mathlib.Omega.{arith}
use borrow.Author.Tests.{eq-eqb, ne_eqb}
use lib.Bits.{bit_and, and_self}
use lib.Count.{under, count_trailing_zeros}
use lib.Dec.{eqb}
use lib.Pow.{pow_pos}
use Rattle.words.specs.Bits.{bit, Lowest, lowest_here, lowest_above}
use Rattle.words.proofs.BitLaws.{and_half, and_low}

-- ---- the bits of both
pub lowest_is_set : {z word rest : ℕ} → Lowest z word rest → bit z word ≡ true
lowest_is_set {word = word} (lowest_here set gone same) = eq-eqb (word % 2) 1 set
lowest_is_set (lowest_above none gone low) = lowest_is_set low

pub lowest_is_gone : {z word rest : ℕ} → Lowest z word rest → bit z rest ≡ false
lowest_is_gone {rest = rest} (lowest_here set gone same) = ne_eqb (rest % 2) 1 (λ e. omega arith)
lowest_is_gone (lowest_above none gone low) = lowest_is_gone low

pub others_stay : {z word rest : ℕ} → Lowest z word rest → (t : ℕ) → (t ≡ z → ⊥) → bit t rest ≡ bit t word
others_stay (lowest_here set gone same) zero other = absurd (other refl)
others_stay (lowest_here set gone same) (suc t) other = ap (bit t) same
others_stay (lowest_above none gone low) zero other = ap (λ (r : ℕ). eqb r 1) (gone ∙ sym none)
others_stay (lowest_above none gone low) (suc t) other = others_stay low t (λ same. other (ap suc same))

-- ---- both as numbers
pub lowest_added : {z word rest : ℕ} → Lowest z word rest → word ≡ rest + 2 ^ z
lowest_added (lowest_here set gone same) = omega arith
lowest_added (lowest_above none gone low) = omega (arith, lowest_added low)

pub rest_less : {z word rest : ℕ} → Lowest z word rest → rest < word
rest_less {z} low = omega (arith, lowest_added low, pow_pos z)

pub lowest_within : {z word rest : ℕ} → Lowest z word rest → (n : ℕ) → word < 2 ^ n → z < n
lowest_within low zero small = absurd (omega (arith, rest_less low))
lowest_within (lowest_here set gone same) (suc n) small = omega arith
lowest_within {word = word} {rest = rest} (lowest_above {z = z} none gone low) (suc n) small =
    omega (arith, lowest_within {z = z} {word = word / 2} {rest = rest / 2} low n (omega arith))

-- ---- how code finds them
pub lowest_taken : (n word : ℕ) → (word ≡ 0 → ⊥) → word < 2 ^ n → Lowest (count_trailing_zeros n word) word (bit_and word (word - 1))
unfolding count_trailing_zeros
lowest_taken zero word some small = absurd (some (omega arith))
lowest_taken (suc n) word some small = by_lowest (word % 2) refl (λ above. lowest_taken n (word / 2) above (omega arith))
  where
    half : ℕ
    half = word / 2

    gone : bit_and word (word - 1) % 2 ≡ 0
    gone = omega (arith, and_low word (word - 1))

    by_lowest : (d : ℕ) → word % 2 ≡ d → ((half ≡ 0 → ⊥) → Lowest (count_trailing_zeros n half) half (bit_and half (half - 1))) →
        Lowest (under d (count_trailing_zeros n half)) word (bit_and word (word - 1))
    by_lowest zero none low =
        let one_less : (word - 1) / 2 ≡ half - 1 = omega arith in
        let above = and_half word (word - 1) ∙ ap (bit_and half) one_less in
        lowest_above none gone (subst (Lowest (count_trailing_zeros n half) half) (sym above) (low (λ nothing. some (omega arith))))
    by_lowest (suc d) odd low =
        let same : (word - 1) / 2 ≡ half = omega arith in
        let set : word % 2 ≡ 1 = omega arith in
        lowest_here set gone (and_half word (word - 1) ∙ ap (bit_and half) same ∙ and_self half)
