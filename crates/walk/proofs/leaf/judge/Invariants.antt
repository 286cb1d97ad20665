-- The loop's invariant: the entries from here on have the verdict of all of them. Assumes nothing.
use Rattle.walk.proofs.Entries.{Judging}
use Rattle.walk.proofs.leaf.judge.Given as goal

abbrev pub invariant-loop-place : goal.invariant-loop-place
invariant-loop-place l = Judging l.triangles l.index l.first l.count l.place
