-- Whether a number below n passes a test, and how many do. Definitions only.
use Rattle.std.specs.Prelude.{ℕ, zero, suc, ◌+◌, Bool, false, ◌||◌, cond}

-- whether one of the numbers below n meets the test
unfoldable pub any : (ℕ → Bool) → ℕ → Bool
any test zero = false
any test (suc n) = any test n || test n

abbrev pub tick : Bool → ℕ
tick t = cond t 1 0

-- how many of the numbers below n meet the test
unfoldable pub count : (ℕ → Bool) → ℕ → ℕ
count test zero = 0
count test (suc n) = count test n + tick (test n)
