-- The lines written so far are those of the rays walked. Assumes nothing.
use mathlib.Core.Path.{◌≡◌, refl, ◌∙◌}
use borrow.Author.Rules.{rules}
use native.Mathlib.Omega.{arith}
use Rattle.report.specs.Survey.{ray_lines}
use Rattle.report.proofs.Writing.{and_then, wrote_none, wrote_as}
use Rattle.report.proofs.Lines.{lines_more, lines_all}
use Rattle.report.proofs.put_rays.Goals as goal

pub loop-k-init : goal.loop-k-init
unfolding ray_lines
loop-k-init c = (search rules, refl, search rules, wrote_none _ _)

pub loop-k-preserved : goal.loop-k-preserved
loop-k-preserved c =
    let l = c.loop-k in
    let r = c.ray-ray in
    let w = c.walk in
    let p = c.put_ray-next in (
      omega (arith, c.loop-k-test.true),
      p.auto.out ∙ l.invariant.1,
      omega (arith, p.ensures.1, l.invariant.2),
      wrote_as _ _ _ _ _ _ (lines_more _ _ _ _ _ _ r.ensures w.ensures) (and_then _ _ _ _ _ _ _ _ (omega (arith, l.invariant.2, c.loop-k-test.true, c.requires)) l.invariant.3 p.ensures.0),
    )

pub shape_of-out : goal.shape_of-out
shape_of-out c = c.loop-k.invariant.1

pub returns : goal.returns
returns c =
    let l = c.loop-k in
    let e : l.k ≡ c.args.rays = omega (arith, l.invariant.0, c.loop-k-test.false) in
    lines_all _ _ _ _ _ _ _ _ _ e l.invariant.3
