-- Each return is a case of the tree: a leaf, too deep, a left half too deep, both halves. The measure is the depth that is left. Assumes nothing.
use mathlib.Core.Path.{◌∙◌, ap, subst, subst⁻¹}
use Prim.Native.Nat.{ℕ, ◌-◌, ◌/◌, ◌≤◌, ◌<◌}
use native.Mathlib.Omega.{arith}
use mathlib.Core.List.{List, ◌++◌}
use lib.ListN.{length, length-drop}
use lib.Seq.{length-take-le}
use borrow.Rule.Slice.PartMut.{mid_of, post_of, put_mid}
use Rattle.std.specs.Prelude.{Option}
use Rattle.lent.specs.Permutation.{occ}
use Rattle.builder.specs.Layout.{Divided}
use Rattle.builder.specs.Tree.{grow}
use Rattle.builder.proofs.Growing.{Mid, both_halves, divided_both, divided_deep, divided_leaf, divided_left, halves_length, left_room, mid, right_room, second_half, then_room}
use Rattle.builder.proofs.Trees.{left_has, right_has}
use Rattle.builder.proofs.division.+subdivide.Goals as goal

pub around-hull-requires : goal.around-hull-requires
around-hull-requires t c = let p = c.requires in record {
  numbered = p.numbered;
  index_len_bound = omega (arith, p.index_bound);
}

pub find_best_split-decision-requires : goal.find_best_split-decision-requires
find_best_split-decision-requires t c = let p = c.requires in record {
  numbered = p.numbered;
  index_len_bound = omega (arith, p.index_bound);
}

pub returns-in_default : goal.returns-in_default
returns-in_default t c =
    let a = c.args in
    let h = c.around-hull in
    let b = c.put_box in
    let f = c.find_best_split-decision in
    let k = c.put_link in
    divided_leaf a.triangles.now a.below a.first a.index.now h.result.bounds f.result a.node a.next a.boxes.now b.new.boxes a.links.now h.result.centroids h.ensures.0 h.ensures.1 f.ensures b.ensures k.new.links c.in_default.is k.ensures

pub returns-then-below-eq0 : goal.returns-then-below-eq0
returns-then-below-eq0 t c =
    let a = c.args in
    let h = c.around-hull in
    let b = c.put_box in
    let f = c.find_best_split-decision in
    divided_deep a.triangles.now a.below a.first a.index.now h.result.bounds f.result a.node a.next a.boxes.now b.new.boxes a.links.now h.result.centroids h.ensures.0 h.ensures.1 f.ensures b.ensures c.in-Some.field-0.axis c.in-Some.field-0.position a.index.now b.new.boxes a.links.now c.in-Some.is c.if-below-eq0.true

pub separate-left-requires : goal.separate-left-requires
separate-left-requires t c = omega (arith, c.requires.index_bound)

pub overflow_cast-next : goal.overflow_cast-next
overflow_cast-next t c = omega (arith, c.requires.index_bound, c.requires.index_in_bounds)

pub put_link-requires-2 : goal.put_link-requires-2
put_link-requires-2 t c = omega (arith, c.requires.index_bound, c.requires.index_in_bounds)

pub slice_bounds-subdivide-end : goal.slice_bounds-subdivide-end
slice_bounds-subdivide-end t c =
    let a = c.args in
    let s = c.separate-left in
    let h = c.around-hull in
    let f = c.find_best_split-decision in
    let q : Mid a.index.now s.new.index s.result = mid a.triangles.now a.index.now h.result.bounds h.result.centroids f.result c.in-Some.field-0.axis c.in-Some.field-0.position s.new.index s.result f.ensures c.in-Some.is s.ensures in
    omega (arith, q)

pub overflow_add-next : goal.overflow_add-next
overflow_add-next t c = omega (arith, c.requires.index_bound, c.requires.index_in_bounds)

pub overflow_sub-below : goal.overflow_sub-below
overflow_sub-below t c = omega (arith, c.if-below-eq0.false)

pub subdivide-requires : goal.subdivide-requires
subdivide-requires t c =
    let a = c.args in
    let s = c.separate-left in
    let h = c.around-hull in
    let f = c.find_best_split-decision in
    let q : Mid a.index.now s.new.index s.result = mid a.triangles.now a.index.now h.result.bounds h.result.centroids f.result c.in-Some.field-0.axis c.in-Some.field-0.position s.new.index s.result f.ensures c.in-Some.is s.ensures in
    let part = length-take-le (s.result - 0) s.new.index (omega (arith, q)) in let laid = left_room a.first a.node a.next (length a.index.now) s.result _ (length a.boxes.now) _ (length a.links.now) _ q.low q.high part c.put_box.auto.boxes c.put_link-2.auto.links (c.requires.index_bound, c.requires.index_in_bounds) in (omega (arith, c.decreases, c.if-below-eq0.false), (left_has (λ (v : ℕ). v < length a.triangles.now / 12) a.triangles.now c.in-Some.field-0.axis c.in-Some.field-0.position a.index.now s.new.index s.result s.ensures c.requires.numbered (s.result - 0), laid))

pub shape_of-index-in_err-then : goal.shape_of-index-in_err-then
shape_of-index-in_err-then t c = omega (arith, c.separate-left.auto)

pub shape_of-boxes-in_err-then : goal.shape_of-boxes-in_err-then
shape_of-boxes-in_err-then t c = c.subdivide.auto.boxes ∙ c.put_box.auto.boxes

pub shape_of-links-in_err-then : goal.shape_of-links-in_err-then
shape_of-links-in_err-then t c = c.subdivide.auto.links ∙ c.put_link-2.auto.links

pub returns-in_err-then : goal.returns-in_err-then
returns-in_err-then t c =
    let a = c.args in
    let h = c.around-hull in
    let b = c.put_box in
    let f = c.find_best_split-decision in
    let s = c.separate-left in
    let k = c.put_link-2 in
    let o = c.subdivide in
    subst⁻¹ (λ (r : Option ℕ). Divided (grow a.triangles.now a.below a.first a.index.now) a.node a.next a.boxes.now a.links.now r (o.new.index ++ post_of 0 (s.result - 0) s.new.index) o.new.boxes o.new.links) c.from_residual.ensures (divided_left a.triangles.now a.below a.first a.index.now h.result.bounds f.result a.node a.next a.boxes.now b.new.boxes a.links.now h.result.centroids h.ensures.0 h.ensures.1 f.ensures b.ensures c.in-Some.field-0.axis c.in-Some.field-0.position s.new.index s.result k.new.links o.result o.new.index o.new.boxes o.new.links c.in-Some.is s.ensures c.if-below-eq0.false k.ensures o.ensures (o.new.index ++ post_of 0 (s.result - 0) s.new.index) o.new.boxes o.new.links c.in_err-then.was)

pub offset_bounds-index-left : goal.offset_bounds-index-left
offset_bounds-index-left t c =
    let a = c.args in
    let s = c.separate-left in
    let h = c.around-hull in
    let f = c.find_best_split-decision in
    let q : Mid a.index.now s.new.index s.result = mid a.triangles.now a.index.now h.result.bounds h.result.centroids f.result c.in-Some.field-0.axis c.in-Some.field-0.position s.new.index s.result f.ensures c.in-Some.is s.ensures in
    omega (arith, q, c.requires.index_bound, c.requires.index_in_bounds)

pub slice_bounds-subdivide-count-2 : goal.slice_bounds-subdivide-count-2
slice_bounds-subdivide-count-2 t c =
    let a = c.args in
    let s = c.separate-left in
    let h = c.around-hull in
    let f = c.find_best_split-decision in
    let q : Mid a.index.now s.new.index s.result = mid a.triangles.now a.index.now h.result.bounds h.result.centroids f.result c.in-Some.field-0.axis c.in-Some.field-0.position s.new.index s.result f.ensures c.in-Some.is s.ensures in
    let le : s.result ≤ length s.new.index = omega (arith, q) in
    omega (arith, halves_length s.new.index c.subdivide.new.index s.result le c.subdivide.auto.index)

pub slice_bounds-subdivide-start-2 : goal.slice_bounds-subdivide-start-2
slice_bounds-subdivide-start-2 t c =
    let a = c.args in
    let s = c.separate-left in
    let h = c.around-hull in
    let f = c.find_best_split-decision in
    let q : Mid a.index.now s.new.index s.result = mid a.triangles.now a.index.now h.result.bounds h.result.centroids f.result c.in-Some.field-0.axis c.in-Some.field-0.position s.new.index s.result f.ensures c.in-Some.is s.ensures in
    let le : s.result ≤ length s.new.index = omega (arith, q) in
    omega (arith, halves_length s.new.index c.subdivide.new.index s.result le c.subdivide.auto.index)

pub overflow_add-next-2 : goal.overflow_add-next-2
overflow_add-next-2 t c = omega (arith, c.requires.index_bound, c.requires.index_in_bounds)

pub overflow_add-first : goal.overflow_add-first
overflow_add-first t c =
    let a = c.args in
    let s = c.separate-left in
    let h = c.around-hull in
    let f = c.find_best_split-decision in
    let q : Mid a.index.now s.new.index s.result = mid a.triangles.now a.index.now h.result.bounds h.result.centroids f.result c.in-Some.field-0.axis c.in-Some.field-0.position s.new.index s.result f.ensures c.in-Some.is s.ensures in
    omega (arith, q, c.requires.index_bound, c.requires.index_in_bounds)

pub overflow_sub-below-2 : goal.overflow_sub-below-2
overflow_sub-below-2 t c = omega (arith, c.if-below-eq0.false)

pub subdivide-requires-2 : goal.subdivide-requires-2
subdivide-requires-2 t c =
    let a = c.args in
    let s = c.separate-left in
    let h = c.around-hull in
    let f = c.find_best_split-decision in
    let q : Mid a.index.now s.new.index s.result = mid a.triangles.now a.index.now h.result.bounds h.result.centroids f.result c.in-Some.field-0.axis c.in-Some.field-0.position s.new.index s.result f.ensures c.in-Some.is s.ensures in
    let le : s.result ≤ length s.new.index = omega (arith, q) in
    let b = c.put_box in
    let k = c.put_link-2 in
    let o = c.subdivide in
    let half = ap length (second_half s.new.index o.new.index s.result le o.auto.index) ∙ length-drop s.result s.new.index ∙ ap (λ (z : ℕ). z - s.result) q.len in
    let room = then_room a.triangles.now a.below a.first a.index.now h.result.bounds f.result a.node a.next a.boxes.now b.new.boxes a.links.now h.result.centroids h.ensures.0 h.ensures.1 f.ensures b.ensures c.in-Some.field-0.axis c.in-Some.field-0.position s.new.index s.result k.new.links o.result o.new.index o.new.boxes o.new.links c.in-Some.is s.ensures c.if-below-eq0.false k.ensures o.ensures c.in_ok-then.then c.in_ok-then.was le in let laid = right_room a.first a.node a.next (length a.index.now) s.result _ c.in_ok-then.then (length a.boxes.now) _ (length a.links.now) _ q.low q.high half room.0 room.1 (o.auto.boxes ∙ b.auto.boxes) (o.auto.links ∙ k.auto.links) (c.requires.index_bound, c.requires.index_in_bounds) in (omega (arith, c.decreases, c.if-below-eq0.false), (λ v i. right_has (λ (v : ℕ). v < length a.triangles.now / 12) a.triangles.now c.in-Some.field-0.axis c.in-Some.field-0.position a.index.now s.new.index s.result s.ensures c.requires.numbered s.result v (subst (λ (l : List ℕ). 0 < occ v l) (second_half s.new.index o.new.index s.result le o.auto.index) i), laid))

pub shape_of-index : goal.shape_of-index
shape_of-index t c = omega (arith, c.separate-left.auto)

pub shape_of-boxes : goal.shape_of-boxes
shape_of-boxes t c = c.subdivide-2.auto.boxes ∙ c.subdivide.auto.boxes ∙ c.put_box.auto.boxes

pub shape_of-links : goal.shape_of-links
shape_of-links t c = c.subdivide-2.auto.links ∙ c.subdivide.auto.links ∙ c.put_link-2.auto.links

pub returns : goal.returns
returns t c =
    let a = c.args in
    let s = c.separate-left in
    let h = c.around-hull in
    let f = c.find_best_split-decision in
    let q : Mid a.index.now s.new.index s.result = mid a.triangles.now a.index.now h.result.bounds h.result.centroids f.result c.in-Some.field-0.axis c.in-Some.field-0.position s.new.index s.result f.ensures c.in-Some.is s.ensures in
    let le : s.result ≤ length s.new.index = omega (arith, q) in
    let b = c.put_box in
    let k = c.put_link-2 in
    let o = c.subdivide in
    let w = c.subdivide-2 in
    let back = o.new.index ++ post_of 0 (s.result - 0) s.new.index in
    divided_both a.triangles.now a.below a.first a.index.now h.result.bounds f.result a.node a.next a.boxes.now b.new.boxes a.links.now h.result.centroids h.ensures.0 h.ensures.1 f.ensures b.ensures c.in-Some.field-0.axis c.in-Some.field-0.position s.new.index s.result k.new.links o.result o.new.index o.new.boxes o.new.links c.in-Some.is s.ensures c.if-below-eq0.false k.ensures o.ensures c.in_ok-then.then w.result (mid_of s.result (length back - s.result) back) w.new.index (put_mid s.result (length back - s.result) back w.new.index) w.new.boxes w.new.links c.in_ok-then.was
    (second_half s.new.index o.new.index s.result le o.auto.index) w.ensures (both_halves s.new.index o.new.index s.result le o.auto.index w.new.index)
