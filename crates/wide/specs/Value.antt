-- The one whole number that a pair of words stands for, in two's complement.
use Rattle.std.specs.Prelude.{◌^◌, ◌<◌, ℤ, pos, ◌+ℤ◌, ◌*ℤ◌}
use Rattle.wide.specs.declared.Wide.{Wide}

-- hi · 2^64 + lo.
abbrev pub value : Wide → ℤ
value w = w.hi *ℤ pos (2 ^ 64) +ℤ pos w.lo

-- The low word is one of 64 bits, as every pair's is that code holds.
abbrev pub Low : Wide → Type 0
Low w = w.lo < 2 ^ 64
