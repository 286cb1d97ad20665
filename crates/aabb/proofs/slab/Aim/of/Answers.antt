-- By what each axis ensures. Assumes nothing.
use Rattle.aabb.proofs.Axes.{made}
use Rattle.aabb.proofs.slab.Aim.of.Goals as goal

pub returns : goal.returns
returns c = made _ _ _ _ c.of-x.ensures c.of-y.ensures c.of-z.ensures
