-- `total_cmp` (rule F5). Definitions only.
use Rattle.std.specs.Prelude.{zero, suc, Bool, true, false, cond, not, ◌&&◌, ◌||◌, Float}
use Rattle.std.specs.Float.{fin, inf, nan}
use Rattle.std.specs.Float.Ieee.{lt}
use Rattle.float.specs.Number.{real}

-- first by R, then by S
abbrev pub lex : {A : Type 0} → (A → A → Bool) → (A → A → Bool) → A → A → Bool
lex R S x y = R x y || (not (R y x) && S x y)

-- Rule F5: the lesser number; a NaN is above every number
unfoldable pub less_number : Float → Float → Bool
less_number x y = cond (real x) (cond (real y) (lt x y) true) false

unfoldable pub minus_zero : Float → Bool
minus_zero nan = false
minus_zero (inf s) = false
minus_zero (fin false m e) = false
minus_zero (fin true zero e) = true
minus_zero (fin true (suc m) e) = false

unfoldable pub less_zero : Float → Float → Bool
less_zero x y = minus_zero x && not (minus_zero y)

-- Rule F5: x comes before y, by number and then -0 before 0
unfoldable pub total_less : Float → Float → Bool
total_less x y = lex less_number less_zero x y
