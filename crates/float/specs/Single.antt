-- Rule F9: the numbers of binary32 among those of binary64. Definitions only.
use Rattle.std.specs.Prelude.{ℕ, Bool, not, ◌&&◌, Float}
use Rattle.std.specs.Float.{binary32}
use Rattle.std.specs.Float.Ieee.{of_bits, to_bits, fits, is_nan}

-- Widening: the number that the pattern of a binary32 stands for, subnormal ones and both zeros exactly; a NaN's pattern is the NaN
abbrev pub of_single : ℕ → Float
of_single pattern = of_bits binary32 pattern

-- x is exactly a binary32: a number of that format, and no NaN
unfoldable pub exactly32 : Float → Bool
exactly32 x = fits binary32 x && not (is_nan x)

-- the pattern of a number that is
abbrev pub single_bits : Float → ℕ
single_bits x = to_bits binary32 x
