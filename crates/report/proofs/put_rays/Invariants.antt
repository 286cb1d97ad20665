-- The lines written so far are those of the rays walked. Assumes nothing.
use mathlib.Core.Path.{◌≡◌}
use Prim.Native.Nat.{◌+◌, ◌*◌, ◌-◌, ◌≤◌}
use lib.ListN.{length}
use Rattle.report.specs.Text.{Wrote}
use Rattle.report.specs.Survey.{ray_lines}
use Rattle.report.proofs.put_rays.Given as goal

abbrev pub invariant-loop-k : goal.invariant-loop-k
invariant-loop-k l = (l.k ≤ l.rays) × (length l.out ≡ length l.initial.out) × (l.next ≤ l.at + 128 * l.k) × Wrote l.initial.out l.at (ray_lines l.input l.from l.scene l.k) l.out l.next

abbrev pub decreases-loop-k : goal.decreases-loop-k
decreases-loop-k l = l.rays - l.k
