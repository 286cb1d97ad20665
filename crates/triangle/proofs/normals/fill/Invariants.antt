-- What is left to fill gives the whole. Assumes nothing.
use mathlib.Core.Path.{◌≡◌}
use Prim.Native.Nat.{◌-◌, ◌/◌}
use lib.ListN.{length}
use Rattle.triangle.specs.Refilled.{filled_from}
use Rattle.triangle.proofs.normals.fill.Given as goal

abbrev pub invariant-loop-i : goal.invariant-loop-i
invariant-loop-i l =
    (length l.mesh ≡ length l.initial.mesh) × (filled_from l.mesh l.i (length l.initial.mesh / 12 - l.i) ≡ filled_from l.initial.mesh 0 (length l.initial.mesh / 12))
