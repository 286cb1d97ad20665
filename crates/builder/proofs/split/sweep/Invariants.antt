-- First the right sides, from the right end; then the boundaries from i on, with what is to the left joined, give the whole sweep. Assumes nothing.
use mathlib.Core.Path.{◌≡◌}
use Prim.Native.Nat.{◌*◌, ◌-◌, ◌≤◌}
use lib.ListN.{length, drop}
use Rattle.aabb.specs.Bounds.{Clear}
use Rattle.builder.specs.Bins.{no_bin, suffix_of}
use Rattle.builder.specs.Choice.{sweep_from}
use Rattle.lent.specs.Limits.{most_triangles}
use Rattle.builder.proofs.Sweeping.{Sides}
use Rattle.builder.proofs.split.sweep.Given as goal

abbrev pub invariant-loop-k : goal.invariant-loop-k
invariant-loop-k l =
    (length l.sides ≡ 16) × (l.k ≤ 16) × (l.run.count ≤ (16 - l.k) * most_triangles) × Clear l.run.bounds × (l.run ≡ suffix_of (drop l.k l.bins)) × Sides l.bins l.sides l.k

abbrev pub invariant-loop-i : goal.invariant-loop-i
invariant-loop-i l =
    (length l.sides ≡ 16) × (l.i ≤ 15) × (l.left.count ≤ l.i * most_triangles) × Clear l.left.bounds × (sweep_from l.on.axis l.on.min l.on.width l.on.parent l.most l.left (drop l.i l.bins) l.i ≡ sweep_from l.on.axis l.on.min l.on.width l.on.parent l.initial.most no_bin l.bins 0) × Sides l.bins l.sides 1
