-- The numbers written so far are the first of the list. Assumes nothing.
use mathlib.Core.Path.{◌≡◌}
use Prim.Native.Nat.{◌-◌, ◌≤◌}
use lib.ListN.{length, take}
use Rattle.report.specs.Little.{numbers}
use Rattle.report.proofs.number.fill.Given as goal

abbrev pub invariant-loop-i : goal.invariant-loop-i
invariant-loop-i l = (l.i ≤ length l.initial.out) × (length l.out ≡ length l.initial.out) × (take l.i l.out ≡ numbers l.s l.at l.i)

abbrev pub decreases-loop-i : goal.decreases-loop-i
decreases-loop-i l = length l.initial.out - l.i
