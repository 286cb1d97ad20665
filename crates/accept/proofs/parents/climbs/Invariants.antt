-- What is left of the way up gives the whole. Assumes nothing.
use mathlib.Core.Path.{◌≡◌}
use Prim.Native.Nat.{◌-◌}
use Rattle.lent.specs.Limits.{deepest}
use Rattle.accept.specs.inner.Room.{climbs}
use Rattle.accept.proofs.parents.climbs.Given as goal

abbrev pub invariant-loop : goal.invariant-loop
invariant-loop l = climbs l.work (deepest - l.counter) l.at ≡ climbs l.work deepest l.j
