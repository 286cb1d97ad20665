-- The ray starts at its place. Assumes nothing.
use Prim.Native.Nat.{◌*◌}
use Rattle.aabb.specs.Vector.{ray_from, ray_at}
use Rattle.aabb.proofs.Tests.{pair_starts}
use Rattle.aabb.proofs.vector.Ray.read.Goals as goal

pub returns : goal.returns
unfolding ray_at
returns c =
    let a = c.args in
    pair_starts ray_from a.numbers.now (a.k * 6) _ _ _ c.place-at.ensures c.read-origin.ensures c.read-direction.ensures
