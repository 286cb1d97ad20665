-- The box starts at its place. Assumes nothing.
use Prim.Native.Nat.{◌*◌}
use Rattle.aabb.specs.Bounds.{box, box_at}
use Rattle.aabb.proofs.Tests.{pair_starts}
use Rattle.aabb.proofs.bounds.past_end.Goals as goal

pub returns : goal.returns
unfolding box_at
returns c =
    let a = c.args in
    pair_starts box a.numbers.now (a.i * 6) _ _ _ c.place-at.ensures c.read-min.ensures c.read-max.ensures
