-- The first k places are those of the rays walked, and the rest of the room is as it was. Assumes nothing.
use mathlib.Core.Path.{◌∙◌}
use native.Mathlib.Omega.{arith}
use Rattle.sky.proofs.Room.{place_is, time_more, told_more}
use Rattle.sky.proofs.fill.Goals as goal

pub loop-k-preserved : goal.loop-k-preserved
loop-k-preserved c =
    let l = c.loop-k in
    let is = place_is _ _ l.k _ _ _ c.read-ray.ensures c.walk-answer.ensures c.place_of.ensures in record {
      times_so_far = c.put.ensures.times_after ∙ time_more _ _ l.k _ is l.times _ (omega (arith, c.loop-k-test.true, c.requires.0)) l.invariant.times_so_far;
      told_so_far = c.put.ensures.told_after ∙ told_more _ _ l.k _ is l.told _ (omega (arith, c.loop-k-test.true, c.requires.1)) l.invariant.told_so_far;
    }
