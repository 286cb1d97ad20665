-- Each number of specs/Number.antt is the decimal of rule F6, rounded once to the nearest `f64`, by computing both; and what it is as a fraction, which the laws compute with.
-- Assumes nothing.
use mathlib.Core.Path.{◌≡◌, refl}
use mathlib.Core.Bool.{false}
use Prim.Native.Nat.{◌^◌}
use lib.IntN.{pos, negsuc}
use lib.Ieee.{inf, fin, binary64, of_bits, round}
use Rattle.float.specs.Number.{nought, half, one, one_and_half, two, three, sixteen, two_to_40, millionth, ten_billionth, trillionth, infinity}

-- ---- a / c, rounded once
pub nought_rounded : nought ≡ round binary64 false 0 1
unfolding of_bits round
nought_rounded = refl

pub half_rounded : half ≡ round binary64 false 5 10
unfolding of_bits round
half_rounded = refl

pub one_rounded : one ≡ round binary64 false 1 1
unfolding of_bits round
one_rounded = refl

pub one_and_half_rounded : one_and_half ≡ round binary64 false 15 10
unfolding of_bits round
one_and_half_rounded = refl

pub two_rounded : two ≡ round binary64 false 2 1
unfolding of_bits round
two_rounded = refl

pub three_rounded : three ≡ round binary64 false 3 1
unfolding of_bits round
three_rounded = refl

pub sixteen_rounded : sixteen ≡ round binary64 false 16 1
unfolding of_bits round
sixteen_rounded = refl

pub two_to_40_rounded : two_to_40 ≡ round binary64 false (2 ^ 40) 1
unfolding of_bits round
two_to_40_rounded = refl

pub millionth_rounded : millionth ≡ round binary64 false 1 (10 ^ 6)
unfolding of_bits round
millionth_rounded = refl

pub ten_billionth_rounded : ten_billionth ≡ round binary64 false 1 (10 ^ 10)
unfolding of_bits round
ten_billionth_rounded = refl

pub trillionth_rounded : trillionth ≡ round binary64 false 1 (10 ^ 12)
unfolding of_bits round
trillionth_rounded = refl

-- ---- as a fraction
pub nought_is : nought ≡ fin false 0 (pos 0)
unfolding of_bits
nought_is = refl

pub one_is : one ≡ fin false 1 (pos 0)
unfolding of_bits
one_is = refl

pub two_is : two ≡ fin false 1 (pos 1)
unfolding of_bits
two_is = refl

pub two_to_40_is : two_to_40 ≡ fin false 1 (pos 40)
unfolding of_bits
two_to_40_is = refl

pub trillionth_is : trillionth ≡ fin false 4951760157141521 (negsuc 91)
unfolding of_bits
trillionth_is = refl

pub infinity_is : infinity ≡ inf false
unfolding of_bits
infinity_is = refl
