-- Rule F8: the square root, worked out in whole numbers. Definitions only. proofs/RootNearest.antt shows that no number of the format is nearer, and that a
-- tie does not occur.
use Rattle.std.specs.Prelude.{ℕ, zero, suc, ◌+◌, ◌-◌, ◌*◌, ◌/◌, ◌^◌, true, false, cond, ltb, Float}
use Rattle.std.specs.Float.{nan, inf, fin, binary64}
use Rattle.std.specs.Float.Ieee.{up, down, size, units}

-- The root of w, cut to a whole number, digit by digit: s is what is found of it, and d binary digits are left. The next is 0 where with a 1 the square is above w.
unfoldable pub digits : ℕ → ℕ → ℕ → ℕ
digits zero w s = s
digits (suc d) w s = digits d w (cond (ltb w ((s + 2 ^ d) * (s + 2 ^ d))) s (s + 2 ^ d))

-- The whole number nearest to the root of w, which has 106 digits at most: s where the root is below s + ½, that is 4w below (2s + 1)², and else s + 1.
-- 4w is even and the square odd, so there is no tie.
unfoldable pub nearest_root : ℕ → ℕ
nearest_root w = let s = digits 53 w 0 in cond (ltb (4 * w) ((2 * s + 1) * (2 * s + 1))) s (s + 1)

-- The root of w, rounded, in units of the least number above zero: of its digits the first 53 stay and k are dropped. So it is the nearest q to the root of w / 4^k, times 2^k.
unfoldable pub root_of : ℕ → Float
root_of w = let k = (size w + 1) / 2 - 53 in units binary64 false (nearest_root (w / 4 ^ k)) k

-- The size of a finite number in units of the least number above zero, 2^-1074. Every number of the format is a whole number of them.
abbrev pub in_units : Float → ℕ
in_units nan = 0
in_units (inf s) = 0
in_units (fin s m e) = m * up e * 2 ^ 1074 / down e

-- Rule F8: zeros and +inf are their own roots; that of a NaN, or of what is below zero, is a NaN. The root of n units is that of n * 2^1074, in units.
unfoldable pub root : Float → Float
root nan = nan
root (inf true) = nan
root (inf false) = inf false
root (fin s zero e) = fin s zero e
root (fin true (suc m) e) = nan
root (fin false (suc m) e) = root_of (in_units (fin false (suc m) e) * 2 ^ 1074)
