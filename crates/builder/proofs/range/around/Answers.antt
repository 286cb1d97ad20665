-- What is left of the range gives both boxes from those so far, and no number of these is a NaN. Assumes nothing.
use mathlib.Core.Path.{sym, ◌∙◌}
use lib.ListN.{get_or}
use Rattle.aabb.proofs.Running.{clear_as, empty_clear, grown_by_lem, union_by}
use Rattle.builder.proofs.RangePasses.{bounds_by, box_again, box_end, box_start, centroid_by, centroids_again, centroids_end, centroids_start}
use Rattle.lent.proofs.Permutation.{occ_at}
use Rattle.builder.proofs.range.around.Goals as goal

pub loop-i-init : goal.loop-i-init
loop-i-init c =
    let a = c.args in
    (box_start a.triangles.now a.index.now _ c.empty-bounds.ensures, centroids_start a.triangles.now a.index.now _ c.empty-centroids.ensures, clear_as _ _ c.empty-bounds.ensures empty_clear, clear_as _ _ c.empty-centroids.ensures empty_clear)

pub corners-t-requires : goal.corners-t-requires
corners-t-requires c =
    c.requires.numbered _ (occ_at c.args.index.now c.loop-i.i-index c.loop-i-test.true)

pub loop-i-preserved : goal.loop-i-preserved
loop-i-preserved c =
    let a = c.args in
    let l = c.loop-i in
    let h = c.loop-i-test.true in
    let v = c.corners-t in
    let k = get_or a.index.now l.i-index 0 in
    let b = union_by l.bounds _ _ l.invariant.2 c.joined-bounds.ensures in
    let p = grown_by_lem l.centroids _ _ l.invariant.3 c.widened-centroids.ensures in (
      box_again a.triangles.now a.index.now l.i-index h l.bounds _ _ _ (bounds_by a.triangles.now k v.result _ v.ensures c.box_of.ensures) b.0 l.invariant.0,
      centroids_again a.triangles.now a.index.now l.i-index h l.centroids _ _ _ (centroid_by a.triangles.now k v.result _ v.ensures c.centroid.ensures) p.0 l.invariant.1,
      b.1,
      p.1,
    )

pub returns : goal.returns
returns c =
    let a = c.args in
    let l = c.loop-i in (
      sym (box_end a.triangles.now a.index.now l.bounds l.i-index c.loop-i-test.false) ∙ l.invariant.0,
      sym (centroids_end a.triangles.now a.index.now l.centroids l.i-index c.loop-i-test.false) ∙ l.invariant.1,
    )
