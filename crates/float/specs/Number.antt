-- Rule F6: the constants, each by its bits, as Rattle has a literal of the source: so a clause that names one and code that
-- has the literal are the same term. proofs/Numbers.antt shows that each is the decimal, rounded once. Definitions only.
use Rattle.std.specs.Prelude.{Bool, true, false, Float}
use Rattle.std.specs.Float.{nan, inf, fin, binary64}
use Rattle.std.specs.Float.Ieee.{of_bits}

-- no NaN
abbrev pub real : Float → Bool
real nan = false
real (inf s) = true
real (fin s m e) = true

abbrev pub nought : Float
nought = of_bits binary64 0x0000_0000_0000_0000

abbrev pub half : Float
half = of_bits binary64 0x3fe0_0000_0000_0000

abbrev pub one : Float
one = of_bits binary64 0x3ff0_0000_0000_0000

-- 1.5
abbrev pub one_and_half : Float
one_and_half = of_bits binary64 0x3ff8_0000_0000_0000

abbrev pub two : Float
two = of_bits binary64 0x4000_0000_0000_0000

abbrev pub three : Float
three = of_bits binary64 0x4008_0000_0000_0000

abbrev pub sixteen : Float
sixteen = of_bits binary64 0x4030_0000_0000_0000

-- 2^40
abbrev pub two_to_40 : Float
two_to_40 = of_bits binary64 0x4270_0000_0000_0000

-- 1e-6
abbrev pub millionth : Float
millionth = of_bits binary64 0x3eb0_c6f7_a0b5_ed8d

-- 1e-10
abbrev pub ten_billionth : Float
ten_billionth = of_bits binary64 0x3ddb_7cdf_d9d7_bdbb

-- 1e-12
abbrev pub trillionth : Float
trillionth = of_bits binary64 0x3d71_9799_812d_ea11

-- +inf
abbrev pub infinity : Float
infinity = of_bits binary64 0x7ff0_0000_0000_0000
