-- After i nodes each node is told by those below i. Assumes nothing.
use mathlib.Core.Path.{◌≡◌}
use Prim.Native.Nat.{ℕ, ◌<◌}
use lib.ListN.{get_or}
use Rattle.tree.specs.Lent.{node_count}
use Rattle.accept.specs.inner.Room.{named}
use Rattle.accept.proofs.parents.name_parents.Given as goal

abbrev pub invariant-loop-i : goal.invariant-loop-i
invariant-loop-i l = (j : ℕ) → j < node_count l.links → get_or l.work j 0 ≡ named l.links j l.i
