-- Rows of a run, by computing alone: what each kind asks, with which of the numbers, and where the six numbers of a call stand. Assumes nothing.
use mathlib.Core.Path.{◌≡◌, refl}
use mathlib.Core.List.{List, [], ◌∷◌}
use Prim.Native.Nat.{ℕ}
use lib.IntN.{ℤ, pos}
use Rattle.checks.specs.Answers.{refused}
use Rattle.slots.specs.Changes.{place, lift, shift}
use Rattle.plate.specs.Histories.{History, change, undo}
use Rattle.runs.specs.PlateRuns.{call, parts, unknown, ask_of, Six}

abbrev numbers : List ℤ
numbers = pos 4 ∷ pos 5 ∷ pos 6 ∷ []

pub kinds_row : (ask_of 0 2 3 numbers ≡ unknown) × (ask_of 1 2 3 numbers ≡ call (change (place 2 3 numbers))) × (ask_of 2 2 3 numbers ≡ call (change (lift 2))) ×
    (ask_of 3 2 3 numbers ≡ call (change (shift 2 (pos 4) (pos 5) (pos 6)))) × (ask_of 4 2 3 numbers ≡ call undo) × (ask_of 5 2 3 numbers ≡ parts 2 3) ×
    (ask_of 6 2 3 numbers ≡ unknown)
kinds_row = (refl, refl, refl, refl, refl, refl, refl)

-- The number, side and place of a refusal, the count, the reach, and 0 for the value.
pub six_row : {h : History} {six : List ℕ} (s : Six (refused 9 0 12) h six) → six ≡ 9 ∷ 0 ∷ 12 ∷ s.count ∷ h.reach ∷ 0 ∷ []
six_row s = s.are
