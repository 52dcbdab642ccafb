-- How large a sum or a difference may be: a word of the inside.
use Rattle.std.specs.Prelude.{◌^◌, ◌≤◌, ℤ, unsigned_abs}

-- Two words hold it with a bit to spare: nothing but low words wraps on the way to it.
abbrev pub Small : ℤ → Type 0
Small z = unsigned_abs z ≤ 2 ^ 126
