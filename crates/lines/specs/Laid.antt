-- Text laid into a buffer. No public promise speaks of it.
use Rattle.std.specs.Prelude.{List, ◌++◌, ℕ, ◌+◌, length, take, drop}

-- A buffer with a text laid into it from a place on.
abbrev pub laid : List ℕ → ℕ → List ℕ → List ℕ
laid buffer at text = take at buffer ++ text ++ drop (at + length text) buffer
