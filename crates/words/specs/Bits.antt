-- The vocabulary of words and their bits.
use Rattle.std.specs.Prelude.{◌≡◌, Bool, ℕ, zero, suc, ◌+◌, ◌/◌, ◌%◌, ◌<◌, eqb, Option, MatchOption}

-- Bit t of a word.
abbrev pub bit : ℕ → ℕ → Bool
bit zero word = eqb (word % 2) 1
bit (suc t) word = bit t (word / 2)

-- How many of the n lowest bits are set.
abbrev pub ones : ℕ → ℕ → ℕ
ones zero word = 0
ones (suc n) word = word % 2 + ones n (word / 2)

-- z is the place of the lowest bit of the word that is set, and `rest` is the word without that bit.
pub data Lowest : ℕ → ℕ → ℕ → Type 0 where
  lowest_here : {word rest : ℕ} → word % 2 ≡ 1 → rest % 2 ≡ 0 → rest / 2 ≡ word / 2 → Lowest zero word rest
  lowest_above : {z word rest : ℕ} → word % 2 ≡ 0 → rest % 2 ≡ 0 → Lowest z (word / 2) (rest / 2) → Lowest (suc z) word rest

-- What a step of a walk over the bits that are set takes of a word: the place of the lowest, and the word without that bit is left.
pub record Takes (word z rest : ℕ) : Type 0 where
  pub within : z < 64
  pub lowest : Lowest z word rest

-- A step of the walk: it takes the lowest bit, or there is none and none is left.
abbrev pub Walks : (word : ℕ) → Option ℕ → (rest : ℕ) → Type 0
Walks word place rest = MatchOption place ((word ≡ 0) × (rest ≡ 0)) (λ z. Takes word z rest)
