-- Where there is no lowest placement that does not stand a test all stand it, and the check that would name it passes. Assumes nothing.
use Rattle.std.specs.Prelude.{Option, Some, None}
use mathlib.Core.Path.{◌≡◌, refl}
use Prim.Native.Nat.{ℕ, ◌+◌, ◌≤◌, ◌<◌}
use mathlib.Core.Bool.{Bool, true, false, not, true≢false}
use lib.Dec.{T}
use Rattle.lent.proofs.Lowest.{none_from}
use Rattle.street.specs.Making.{lowest, misplaced}

stood : (t : Bool) → not t ≡ false → T t
stood true e = tt
stood false e = absurd (true≢false e)

pub all_stand : (stands : ℕ → Bool) (k i j : ℕ) → lowest stands i k ≡ None → i ≤ j → j < i + k → T (stands j)
all_stand stands k i j e p q = stood (stands j) (none_from (λ p. not (stands p)) i k e j p q)

pub none_misplaced : (number : ℕ) (f : Option ℕ) → (misplaced number f).fails ≡ false → f ≡ None
unfolding misplaced
none_misplaced number (Some i) e = absurd (true≢false e)
none_misplaced number None e = refl
