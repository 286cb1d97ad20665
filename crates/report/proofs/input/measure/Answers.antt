-- The tests are those of the definition, in the order in which the bytes allow them. Assumes nothing.
use mathlib.Core.Path.{refl}
use native.Mathlib.Omega.{arith}
use Rattle.report.proofs.Measuring.{over, cut, over_rays, misfit, measured_good}
use Rattle.report.proofs.input.measure.Goals.{then-triangles-gt200-via-then-triangles-gt200, then-triangles-gt200-via-else-triangles-gt200+then-length-at, then-rays-gt200-via-then-rays-gt200, then-rays-gt200-via-else-rays-gt200+then-length-at-2}
use Rattle.report.proofs.input.measure.Goals as goal

pub returns-then-length-lt4 : goal.returns-then-length-lt4
returns-then-length-lt4 c = cut _ _ refl (omega arith)

pub returns-then-triangles-gt200 : goal.returns-then-triangles-gt200
returns-then-triangles-gt200 c =
    elim c.then-triangles-gt200.branch [
      | then-triangles-gt200-via-then-triangles-gt200 w ↦ over _ _ c.word-triangles.ensures w.if-triangles-gt200.true
      | then-triangles-gt200-via-else-triangles-gt200+then-length-at w ↦ cut _ _ c.word-triangles.ensures w.if-length-at.true
    ]

pub returns-then-rays-gt200 : goal.returns-then-rays-gt200
returns-then-rays-gt200 c =
    elim c.then-rays-gt200.branch [
      | then-rays-gt200-via-then-rays-gt200 w ↦ over_rays _ _ c.word-triangles.ensures _ c.word-rays.ensures w.if-rays-gt200.true
      | then-rays-gt200-via-else-rays-gt200+then-length-at-2 w ↦ misfit _ _ c.word-triangles.ensures _ c.word-rays.ensures (λ e. omega (arith, e, w.if-length-at-2.true))
    ]

pub returns : goal.returns
returns c = measured_good _ _ c.word-triangles.ensures _ c.word-rays.ensures c.if-triangles-gt200.false c.if-rays-gt200.false (omega (arith, c.if-length-at-2.false))
