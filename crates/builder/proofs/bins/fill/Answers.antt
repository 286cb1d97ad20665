-- What is left of the range fills the bins so far to the whole, on each axis; no bin counts more than were put in. Assumes nothing.
use Prim.Native.Nat.{◌≤◌}
use native.Mathlib.Omega.{arith}
use lib.ListN.{get_or}
use lib.Ieee.{sub, mul, binary64}
use mathlib.Core.Path.{ap}
use Rattle.aabb.specs.declared.vector.Vec3.{Vec3}
use Rattle.aabb.specs.Vector.{along}
use Rattle.triangle.specs.Mesh.{centroid_at}
use Rattle.lent.specs.Limits.{most_triangles}
use Rattle.lent.proofs.Permutation.{occ_at}
use Rattle.builder.proofs.Filling.{ahead_start, ahead_next, ahead_end, held_up}
use Rattle.builder.proofs.RangePasses.{bounds_by, centroid_by}
use Rattle.builder.proofs.bins.fill.Goals as goal

pub loop-i-init : goal.loop-i-init
loop-i-init c =
    let a = c.args in
    let m = a.triangles.now in
    let e = c.requires.empty in
    (ahead_start m 0 a.min.x a.scale.x a.index.now _ e.0, ahead_start m 1 a.min.y a.scale.y a.index.now _ e.1, ahead_start m 2 a.min.z a.scale.z a.index.now _ e.2)

pub corners-t-requires : goal.corners-t-requires
corners-t-requires c = c.requires.numbered _ (occ_at c.args.index.now c.loop-i.i-index c.loop-i-test.true)

pub loop-i-preserved : goal.loop-i-preserved
unfolding centroid_at along
loop-i-preserved c =
    let a = c.args in
    let m = a.triangles.now in
    let l = c.loop-i in
    let v = l.invariant in
    let h = c.loop-i-test.true in
    let t = c.corners-t in
    let i = get_or a.index.now l.i-index 0 in
    let p = centroid_by m i t.result c.centroid-c.result t.ensures c.centroid-c.ensures in
    let b = bounds_by m i t.result c.box_of-b.result t.ensures c.box_of-b.ensures in (
      ahead_next m 0 a.min.x a.scale.x a.index.now l.i-index l.bins.x v.0 _ _ _ h (ap (λ (z : Vec3). mul binary64 (sub binary64 z.x a.min.x) a.scale.x) p) b c.put.ensures,
      ahead_next m 1 a.min.y a.scale.y a.index.now l.i-index l.bins.y v.1 _ _ _ h (ap (λ (z : Vec3). mul binary64 (sub binary64 z.y a.min.y) a.scale.y) p) b c.put-in-loop-i.ensures,
      ahead_next m 2 a.min.z a.scale.z a.index.now l.i-index l.bins.z v.2 _ _ _ h (ap (λ (z : Vec3). mul binary64 (sub binary64 z.z a.min.z) a.scale.z) p) b c.put-in-loop-i-2.ensures,
    )

pub returns : goal.returns
returns c =
    let a = c.args in
    let m = a.triangles.now in
    let l = c.loop-i in
    let v = l.invariant in
    let e = c.loop-i-test.false in
    let few : l.i-index ≤ most_triangles = omega (arith, l.auto.i-index-end, c.requires.index_len_bound) in record {
      held = (held_up l.i-index most_triangles l.bins.x few v.0.held, held_up l.i-index most_triangles l.bins.y few v.1.held, held_up l.i-index most_triangles l.bins.z few v.2.held);
      on_x = ahead_end m 0 a.min.x a.scale.x a.index.now l.i-index l.bins.x v.0 e;
      on_y = ahead_end m 1 a.min.y a.scale.y a.index.now l.i-index l.bins.y v.1 e;
      on_z = ahead_end m 2 a.min.z a.scale.z a.index.now l.i-index l.bins.z v.2 e;
    }
