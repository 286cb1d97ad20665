-- The bins start empty, are filled in one pass, and each axis is tried with the best of those before it. Assumes nothing.
use mathlib.Core.Path.{◌∙◌, ap}
use Prim.Native.Nat.{ℕ}
use native.Mathlib.Omega.{arith}
use lib.ListN.{replicate}
use lib.Ieee.{Float}
use Rattle.builder.specs.declared.bins.Bin.{Bin}
use Rattle.aabb.specs.Vector.{along}
use Rattle.builder.specs.Bins.{filled, no_bin}
use Rattle.builder.specs.Choice.{best_of_axes, try_axis}
use Rattle.builder.proofs.split.best_of_axes.Goals as goal

pub fill-requires : goal.fill-requires
fill-requires c = let p = c.requires in
    let e = ap (λ (b : Bin). replicate 16 b) c.none-none.ensures.0 in record {
      numbered = p.numbered;
      index_len_bound = p.index_len_bound;
      empty = (e, e, e);
    }

pub try_axis-x-requires : goal.try_axis-x-requires
try_axis-x-requires c = c.fill.ensures.held.0

pub try_axis-y-requires : goal.try_axis-y-requires
try_axis-y-requires c = c.fill.ensures.held.1

pub try_axis-requires : goal.try_axis-requires
try_axis-requires c = c.fill.ensures.held.2

pub returns : goal.returns
unfolding best_of_axes along
returns c =
    let a = c.args in
    let m = a.triangles.now in
    let ids = a.index.now in
    let f = c.fill.ensures in
    let on = λ (k : ℕ) (lo sc : Float). filled m k lo sc (replicate 16 no_bin) ids in
    c.try_axis.ensures m ids (f.on_z ∙ ap (on 2 a.centroids.min.z) (c.scales.ensures 2 (omega arith)))
    ∙ ap (try_axis m ids a.centroids 2 a.parent) (c.try_axis-y.ensures m ids (f.on_y ∙ ap (on 1 a.centroids.min.y) (c.scales.ensures 1 (omega arith)))
    ∙ ap (try_axis m ids a.centroids 1 a.parent) (c.try_axis-x.ensures m ids (f.on_x ∙ ap (on 0 a.centroids.min.x) (c.scales.ensures 0 (omega arith)))))
