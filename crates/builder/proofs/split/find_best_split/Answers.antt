-- A leaf at few or flat, or where the best of the axes costs no less than one. Assumes nothing.
use mathlib.Core.Path.{◌∙◌}
use Rattle.builder.proofs.Choosing.{choose_best, choose_few, choose_flat, chosen_leaf, chosen_split}
use Rattle.builder.proofs.split.find_best_split.Goals as goal

pub returns-then-index-le-MAX_LEAF_PRIMITIVES : goal.returns-then-index-le-MAX_LEAF_PRIMITIVES
returns-then-index-le-MAX_LEAF_PRIMITIVES c =
    let a = c.args in
    choose_few a.triangles.now a.index.now a.hull.bounds a.hull.centroids c.if-index-le-MAX_LEAF_PRIMITIVES.true

pub returns-then-parent : goal.returns-then-parent
returns-then-parent c =
    let a = c.args in
    choose_flat a.triangles.now a.index.now a.hull.bounds a.hull.centroids c.surface_area-parent.result c.if-index-le-MAX_LEAF_PRIMITIVES.false c.surface_area-parent.ensures c.if-parent.true

pub best_of_axes-best-requires : goal.best_of_axes-best-requires
best_of_axes-best-requires c = c.requires

pub returns-then-best-leaf : goal.returns-then-best-leaf
returns-then-best-leaf c =
    let a = c.args in
    let s = c.surface_area-parent in
    let b = c.best_of_axes-best in
    chosen_split _ b.result c.if-best-leaf.true ∙ choose_best a.triangles.now a.index.now a.hull.bounds a.hull.centroids s.result c.if-index-le-MAX_LEAF_PRIMITIVES.false s.ensures b.result c.if-parent.false b.ensures

pub returns : goal.returns
returns c =
    let a = c.args in
    let s = c.surface_area-parent in
    let b = c.best_of_axes-best in
    chosen_leaf _ b.result c.if-best-leaf.false ∙ choose_best a.triangles.now a.index.now a.hull.bounds a.hull.centroids s.result c.if-index-le-MAX_LEAF_PRIMITIVES.false s.ensures b.result c.if-parent.false b.ensures
