-- The fields are the definition's. Assumes nothing.
use mathlib.Core.Path.{ap}
use Prim.Native.Nat.{◌+◌}
use native.Mathlib.Omega.{arith}
use Rattle.aabb.specs.declared.bounds.Aabb.{Aabb}
use Rattle.aabb.proofs.Running.{union_by}
use Rattle.builder.specs.declared.bins.Bin.{Bin}
use Rattle.builder.specs.Bins.{join_bins}
use Rattle.builder.proofs.bins.Bin.joined.Goals as goal

pub overflow_add-result : goal.overflow_add-result
overflow_add-result c = omega (arith, c.requires.0)

pub returns : goal.returns
unfolding join_bins
returns c =
    let a = c.args in
    let u = union_by a.self.bounds a.other.bounds _ c.requires.1 c.joined-bounds.ensures in
    (ap {B = Bin} (λ (z : Aabb). record { count = a.self.count + a.other.count; bounds = z }) u.0, u.1)
