-- The lowest of some numbers in a row that meets a test. Definitions only.
use Rattle.std.specs.Prelude.{ℕ, zero, suc, Bool, cond, Option, Some, None}

-- of k numbers from i on
unfoldable pub lowest : (ℕ → Bool) → ℕ → ℕ → Option ℕ
lowest test i zero = None
lowest test i (suc k) = cond (test i) (Some i) (lowest test (suc i) k)
