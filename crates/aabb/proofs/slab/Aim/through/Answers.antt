-- The loop's invariant: the axes that are left, from the interval so far, give the whole answer. Assumes nothing.
use mathlib.Core.Path.{◌∙◌, refl}
use native.Mathlib.Omega.{arith}
use Rattle.aabb.specs.Slab.{reach}
use Rattle.aabb.proofs.Axes.{Here, begun, done, flat_below, flat_above, flat_within, ruled_out, left_open}
use Rattle.aabb.proofs.slab.Aim.through.Goals.{After-along-max, then-s-min-via-then-s-min, then-s-min-via-else-s-min+then-s-max, then-s+else-s-min+else-s-max, else-s+else-enter-exit}
use Rattle.aabb.proofs.slab.Aim.through.Goals as goal

here : (k : After-along-max)
    → let a = k.args in Here a.self a.bounds k.loop-axis.axis k.loop-axis.enter k.loop-axis.exit k.along-s.result k.along-min.result k.along-max.result
here k =
    record {
      so_far = k.loop-axis.invariant;
      more = omega (arith, k.loop-axis.invariant.upto);
      sight = k.along-s.ensures;
      low = k.along-min.ensures;
      high = k.along-max.ensures;
    }

pub loop-axis-init : goal.loop-axis-init
loop-axis-init c = begun _ _ _ refl

pub overflow_add-axis : goal.overflow_add-axis
overflow_add-axis c = omega arith

pub loop-axis-smaller : goal.loop-axis-smaller
loop-axis-smaller c = omega arith

pub loop-axis-preserved : goal.loop-axis-preserved
unfolding reach
loop-axis-preserved c =
    elim c.if-s.branch [
      | then-s+else-s-min+else-s-max w ↦ rw (w.enter-is, w.exit-is) (flat_within (here c.before) w.if-s.true w.if-s-min.false w.if-s-max.false)
      | else-s+else-enter-exit w ↦ rw (w.enter-is, w.exit-is) (left_open (here c.before) w.if-s.false w.first.ensures w.second.ensures w.higher-enter.ensures w.lower-exit.ensures w.if-enter-exit.false)
    ]

pub returns-then-axis-eq3 : goal.returns-then-axis-eq3
returns-then-axis-eq3 c = c.ahead.ensures ∙ done c.loop-axis.invariant c.if-axis-eq3.true

pub returns-then-s-min : goal.returns-then-s-min
returns-then-s-min c =
    let h = here (goal.at.returns-then-s-min c).After-along-max in
    elim c.then-s-min.branch [
      | then-s-min-via-then-s-min w ↦ flat_below h c.if-s.true w.if-s-min.true
      | then-s-min-via-else-s-min+then-s-max w ↦ flat_above h c.if-s.true w.if-s-min.false w.if-s-max.true
    ]

pub returns-then-enter-exit : goal.returns-then-enter-exit
unfolding reach
returns-then-enter-exit c =
    ruled_out (here c.before.before.before.before.before.before.before.before.before.before) c.if-s.false c.first.ensures c.second.ensures c.higher-enter.ensures c.lower-exit.ensures c.if-enter-exit.true
