-- After i nodes the room counts those below i. Assumes nothing.
use Rattle.accept.specs.inner.Room.{Balanced}
use Rattle.accept.proofs.cover.balance.Given as goal

abbrev pub invariant-loop-i : goal.invariant-loop-i
invariant-loop-i l = Balanced l.links l.i l.work l.from
