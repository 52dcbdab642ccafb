-- Lists of small numbers, for the inside alone: no public contract speaks of them.
use Rattle.std.specs.Prelude.{◌≡◌, ℕ, ◌≤◌, Bool, true, List, ℤ, pos, slice_index_or, unsigned_abs}

-- A list whose numbers are so small, as all were on the grid before Q-6, that the low word of every side tells it. Crate `boxes` names the same number.
abbrev pub narrow : ℕ
narrow = 524288

abbrev pub Narrow : List ℤ → Type 0
Narrow numbers = (i : ℕ) → unsigned_abs (slice_index_or numbers i (pos 0)) ≤ narrow

-- Two lists that are, where the flag says so.
abbrev pub BothNarrow : Bool → (t u : List ℤ) → Type 0
BothNarrow flag t u = flag ≡ true → Narrow t × Narrow u
