-- Those from the round on give the lowest of all. Assumes nothing.
use mathlib.Core.Path.{◌≡◌}
use Prim.Native.Nat.{◌-◌}
use Rattle.lent.specs.Lowest.{lowest}
use Rattle.accept.specs.inner.Room.{uneven}
use Rattle.accept.proofs.cover.first_uncovered.Given as goal

abbrev pub invariant-loop-from : goal.invariant-loop-from
invariant-loop-from l = lowest (uneven l.links) l.from (l.places - l.from) ≡ lowest (uneven l.links) 0 l.places
