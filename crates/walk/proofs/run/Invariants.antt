-- The loop's invariant: what is left of the walk gives the whole walk's answer. Assumes nothing.
use mathlib.Core.Path.{◌≡◌}
use Prim.Native.Nat.{◌-◌, ◌<◌}
use lib.ListN.{length}
use Rattle.lent.specs.Limits.{most_pending}
use Rattle.walk.proofs.LoopInvariant.{Going, last_of}
use Rattle.walk.proofs.run.Given as goal

abbrev pub invariant-loop-pending : goal.invariant-loop-pending
invariant-loop-pending l = Going l.scene l.ray l.nodes l.pending l.a × (0 < l.pending.len → l.last ≡ last_of l.pending) × (length l.pending.nodes ≡ most_pending)

abbrev pub decreases-loop-pending : goal.decreases-loop-pending
decreases-loop-pending l = l.nodes - l.a.boxes
