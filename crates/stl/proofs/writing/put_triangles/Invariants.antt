-- The triangles written so far are the first of the file's. Assumes nothing.
use mathlib.Core.Path.{◌≡◌}
use Prim.Native.Nat.{◌*◌, ◌-◌, ◌≤◌}
use lib.ListN.{length, take}
use Rattle.stl.specs.Layout.{records_of}
use Rattle.stl.proofs.writing.put_triangles.Given as goal

abbrev pub invariant-loop-i : goal.invariant-loop-i
invariant-loop-i l = (l.i ≤ l.n) × (length l.out ≡ length l.initial.out) × (take (50 * l.i) l.out ≡ records_of l.mesh l.i)

abbrev pub decreases-loop-i : goal.decreases-loop-i
decreases-loop-i l = l.n - l.i
