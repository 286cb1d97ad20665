-- Growing by the corners that are left gives what growing by all of them does. Assumes nothing.
use mathlib.Core.Path.{ap, ◌∙◌}
use mathlib.Core.List.{List}
use Rattle.aabb.specs.declared.vector.Vec3.{Vec3}
use Rattle.aabb.specs.declared.bounds.Aabb.{Aabb}
use Rattle.street.specs.Placing.{grown_by, corners, world_box}
use Rattle.street.proofs.Corners.{corners_are, by_one, turn, over}
use Rattle.street.proofs.placing.world_box.Goals as goal

pub loop-x-preserved : goal.loop-x-preserved
loop-x-preserved c = turn _ _ _ _ _ _ c.loop-x.invariant _ c.loop-x-test.true (by_one _ _ _ _ _ c.point.ensures c.grow-bounds.ensures)

pub loop-y-preserved : goal.loop-y-preserved
loop-y-preserved c = turn _ _ _ _ _ _ c.loop-y.invariant _ c.loop-y-test.true (over _ _ _ _ _ _ c.loop-x.invariant c.loop-x-test.false)

pub loop-z-preserved : goal.loop-z-preserved
loop-z-preserved c = turn _ _ _ _ _ _ c.loop-z.invariant _ c.loop-z-test.true (over _ _ _ _ _ _ c.loop-y.invariant c.loop-y-test.false)

pub returns : goal.returns
unfolding world_box
returns c =
    let a = c.args in
    let e = c.empty-bounds in
    over _ _ _ _ _ _ c.loop-z.invariant c.loop-z-test.false
    ∙ ap (λ (ps : List Vec3). grown_by a.matrix e.result ps) (corners_are a.root)
    ∙ ap (λ (b : Aabb). grown_by a.matrix b (corners a.root)) e.ensures
