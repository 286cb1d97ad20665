-- What is left of the range fills the bins so far to the whole, on each axis; no bin counts more than were put in. Assumes nothing.
use Rattle.builder.proofs.Filling.{Ahead}
use Rattle.builder.proofs.bins.fill.Given as goal

abbrev pub invariant-loop-i : goal.invariant-loop-i
invariant-loop-i l =
    Ahead l.triangles 0 l.min.x l.scale.x l.index l.i-index l.bins.x × Ahead l.triangles 1 l.min.y l.scale.y l.index l.i-index l.bins.y × Ahead l.triangles 2 l.min.z l.scale.z l.index l.i-index l.bins.z
