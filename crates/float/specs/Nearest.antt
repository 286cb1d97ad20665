-- What a root rounded to nearest is (rule F8), by comparing squares alone: proofs/RootNearest.antt shows that `root` is it, and that there is one. Definitions only.
use Rattle.std.specs.Prelude.{◌≡◌, ℕ, zero, suc, ◌+◌, ◌*◌, ◌^◌, ◌<◌, Bool, true, false, T, Float}
use Rattle.std.specs.Float.{nan, inf, fin, binary64}
use Rattle.std.specs.Float.Ieee.{fits}
use Rattle.std.specs.Float.Ieee.Positive.{positive}
use Rattle.float.specs.Root.{in_units}

-- a number of the format from zero up
abbrev pub number : Float → Bool
number nan = false
number (inf s) = false
number (fin true m e) = false
number (fin false m e) = fits binary64 (fin false m e)

abbrev pub square : ℕ → ℕ
square n = n * n

-- The root of w units is nearer to r than to any other number y: it lies on r's side of their middle, which is half of r + y, so w is compared with the square of that.
-- It never is the middle, so to nearest even is to nearest.
pub record Nearest (w : ℕ) (r : Float) : Type 0 where
  pub held : T (fits binary64 r)
  pub above_zero : T (positive r)
  pub to_lower : (y : Float) → T (number y) → in_units y < in_units r → square (in_units y + in_units r) < 4 * w
  pub to_higher : (y : Float) → T (number y) → in_units r < in_units y → 4 * w < square (in_units r + in_units y)

-- Rule F8: r is the root of x. Zeros and +inf are their own; that of a NaN, or of what is below zero, is a NaN. The root of n units is that of n * 2^1074, in units.
abbrev pub IsRoot : Float → Float → Type 0
IsRoot nan r = r ≡ nan
IsRoot (inf true) r = r ≡ nan
IsRoot (inf false) r = r ≡ inf false
IsRoot (fin s zero e) r = r ≡ fin s zero e
IsRoot (fin true (suc m) e) r = r ≡ nan
IsRoot (fin false (suc m) e) r = Nearest (in_units (fin false (suc m) e) * 2 ^ 1074) r
