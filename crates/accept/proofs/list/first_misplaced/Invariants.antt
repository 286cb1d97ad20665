-- Those from p on give the lowest of all; the room has 1 for what was seen below p. Assumes nothing.
use mathlib.Core.Path.{◌≡◌}
use Prim.Native.Nat.{ℕ, ◌-◌, ◌<◌}
use lib.ListN.{length, get_or}
use Rattle.lent.specs.Lowest.{lowest}
use Rattle.accept.specs.Count.{tick}
use Rattle.accept.specs.Conditions.{misplaced}
use Rattle.accept.proofs.Fills.{Seen}
use Rattle.accept.proofs.list.first_misplaced.Given as goal

abbrev pub invariant-loop-p : goal.invariant-loop-p
invariant-loop-p l =
    ((k : ℕ) → k < l.n → get_or l.work k 0 ≡ tick (Seen l.n l.index k l.p))
    × (lowest (misplaced l.n l.index) l.p (length l.index - l.p) ≡ lowest (misplaced l.n l.index) 0 (length l.index))
