-- The entries from here on give what all of them give. Assumes nothing.
use mathlib.Core.Path.{◌≡◌}
use Prim.Native.Nat.{◌+◌, ◌-◌}
use Rattle.walk.specs.Steps.{entries}
use Rattle.street.specs.Walking.{placement_entry}
use Rattle.street.proofs.entry.leaf.Given as goal

abbrev pub invariant-loop-place : goal.invariant-loop-place
invariant-loop-place l =
    entries (placement_entry l.street l.index l.ray) (l.first + l.count - l.place) l.place l.found ≡ entries (placement_entry l.street l.index l.ray) l.count l.first l.initial.found
