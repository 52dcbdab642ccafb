-- The example of document 02's request Q-2, a sheet and its whole text. proofs/Example.antt has the theorem that this is its text.
use Rattle.std.specs.Prelude.{List, [], ◌∷◌, ◌++◌, ℕ, pos, negsuc}
use Rattle.slots.specs.Changes.{place}
use Rattle.plate.specs.Histories.{Call, change, undo}
use Rattle.asking.specs.Writing.{written}

-- Place A, (0,0,0) (4,0,0) (0,4,0), in slot 0 as part 0,
abbrev pub first : Call
first = change (place 0 0 (pos 0 ∷ pos 0 ∷ pos 0 ∷ pos 4 ∷ pos 0 ∷ pos 0 ∷ pos 0 ∷ pos 4 ∷ pos 0 ∷ []))

-- P1's second triangle, (1,1,-1) (1,1,1) (5,5,1), in slot 1 as part 1,
abbrev pub second : Call
second = change (place 1 1 (pos 1 ∷ pos 1 ∷ negsuc 0 ∷ pos 1 ∷ pos 1 ∷ pos 1 ∷ pos 5 ∷ pos 5 ∷ pos 1 ∷ []))

-- and three undos.
abbrev pub example : List ℕ
example = written first ++ written second ++ written undo ++ written undo ++ written undo

-- `0 0`, `0 1`, `0 0`, `0 0`, `12 0`, one a line.
abbrev pub example_text : List ℕ
example_text =
    48 ∷ 32 ∷ 48 ∷ 10
    ∷ 48 ∷ 32 ∷ 49 ∷ 10
    ∷ 48 ∷ 32 ∷ 48 ∷ 10
    ∷ 48 ∷ 32 ∷ 48 ∷ 10
    ∷ 49 ∷ 50 ∷ 32 ∷ 48 ∷ 10
    ∷ []
