-- The numbers written so far are the first of the mesh's. Assumes nothing.
use mathlib.Core.Path.{◌≡◌}
use lib.ListN.{length, take}
use Rattle.stl.specs.Layout.{triangle_in, numbers_of}
use Rattle.stl.proofs.reading.put.Given as goal

abbrev pub invariant-loop-k : goal.invariant-loop-k
invariant-loop-k l = (length l.out ≡ 12) × (take l.k l.out ≡ take l.k (numbers_of (triangle_in l.s l.at)))
