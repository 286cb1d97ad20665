-- The loop's invariant: the tests from here on leave what all of them leave. Assumes nothing.
use Rattle.walk.proofs.Entries.{Testing}
use Rattle.walk.proofs.leaf.nearest.Given as goal

abbrev pub invariant-loop-place : goal.invariant-loop-place
invariant-loop-place l = Testing l.triangles l.index l.ray l.first l.count l.initial.found l.place l.found
