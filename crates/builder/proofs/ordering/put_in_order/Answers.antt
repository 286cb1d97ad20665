-- First the list is a heap from k on; then a heap up to `end`, and in place from there on. Assumes nothing.
use mathlib.Core.Path.{◌≡◌, refl, sym, ◌∙◌, subst}
use Prim.Native.Nat.{ℕ, ◌+◌, ◌-◌, ◌<◌}
use native.Mathlib.Omega.{arith}
use lib.Seq.{length-take-le}
use Rattle.triangle.specs.Mesh.{centroid_at}
use Rattle.builder.specs.Fallback.{sorts_before, ordered}
use Rattle.builder.specs.inner.Heap.{HeapFrom}
use Rattle.builder.proofs.Heaps.{heap_none, lent, sifted_end, sifted_start, turned}
use Rattle.builder.proofs.Linear.{linear_ahead}
use Rattle.builder.proofs.Parting.{swapped_by}
use Rattle.builder.proofs.Sorting.{in_order_is}
use borrow.Author.Rules.{rules}
use Rattle.builder.proofs.ordering.put_in_order.Goals as goal

one_less : (k : ℕ) → 0 < k → k - 1 + 1 ≡ k
one_less k h = omega arith

pub loop-k-init : goal.loop-k-init
loop-k-init c = let a = c.args in (refl, λ v. refl, heap_none (sorts_before (centroid_at a.triangles.now a.axis)) (linear_ahead (centroid_at a.triangles.now a.axis)) a.index.now _ refl, search rules)

pub sift-requires : goal.sift-requires
sift-requires c =
    let l = c.loop-k in record {
      index_len_bound = (omega (arith, l.invariant.0, c.requires), omega (arith, l.invariant.3, c.requires));
      heap_from = subst (λ (z : ℕ). HeapFrom (sorts_before (centroid_at c.args.triangles.now c.args.axis)) z l.index) (sym (one_less l.k c.loop-k-test.true)) l.invariant.2;
    }

pub loop-k-preserved : goal.loop-k-preserved
loop-k-preserved c =
    let l = c.loop-k in
    let s = c.sift in
    (s.auto.index ∙ l.invariant.0, λ v. s.ensures.perm v ∙ l.invariant.1 v, s.ensures.heap_from_2, omega (arith, l.invariant.3))

pub loop-end-init : goal.loop-end-init
loop-end-init c =
    let a = c.args in
    let l = c.loop-k in
    (refl, λ v. refl, sifted_start (sorts_before (centroid_at a.triangles.now a.axis)) (linear_ahead (centroid_at a.triangles.now a.axis)) l.k _ l.index l.invariant.2 c.loop-k-test.false refl, search rules)

pub swap-requires : goal.swap-requires
swap-requires c =
    let l = c.loop-end in
    record {
      a_in_bounds = omega (arith, c.loop-end-test.true, l.invariant.0, l.invariant.3);
      b_in_bounds = omega (arith, c.loop-end-test.true, l.invariant.0, l.invariant.3);
    }

pub slice_bounds-sift-end : goal.slice_bounds-sift-end
slice_bounds-sift-end c =
    let l = c.loop-end in
    let len = c.swap.ensures.len in
    omega (arith, c.loop-end-test.true, l.invariant.0, l.invariant.3, len)

pub sift-requires-in-loop-end : goal.sift-requires-in-loop-end
sift-requires-in-loop-end c =
    let a = c.args in
    let l = c.loop-end in
    let w = c.swap in
    let len = w.ensures.len in
    let part = length-take-le (l.end - 1 - 0) w.new.self (omega (arith, l.invariant.0, l.invariant.3, len)) in record {
      index_len_bound = (omega (arith, l.invariant.3, l.invariant.0, c.loop-k.invariant.0, c.requires, part), omega arith);
      heap_from = lent (sorts_before (centroid_at a.triangles.now a.axis)) (linear_ahead (centroid_at a.triangles.now a.axis)) l.end l.index w.new.self (swapped_by l.index _ 0 (l.end - 1) (omega (arith, c.loop-end-test.true, l.invariant.0, l.invariant.3)) (omega (arith, c.loop-end-test.true, l.invariant.0, l.invariant.3)) w.ensures.after) l.invariant.2 c.loop-end-test.true (omega (arith, l.invariant.0, l.invariant.3));
    }

pub loop-end-preserved : goal.loop-end-preserved
loop-end-preserved c =
    let a = c.args in
    let l = c.loop-end in
    let w = c.swap in
    let s = c.sift-in-loop-end in
    let t = turned (sorts_before (centroid_at a.triangles.now a.axis)) (linear_ahead (centroid_at a.triangles.now a.axis)) l.end l.index w.new.self (swapped_by l.index _ 0 (l.end - 1) (omega (arith, c.loop-end-test.true, l.invariant.0, l.invariant.3)) (omega (arith, c.loop-end-test.true, l.invariant.0, l.invariant.3)) w.ensures.after) l.invariant.2 c.loop-end-test.true (omega (arith, l.invariant.0, l.invariant.3)) s.new.index s.auto.index s.ensures.perm s.ensures.heap_from_2 in
    (t.len ∙ l.invariant.0, λ v. t.same v ∙ l.invariant.1 v, t.sifted, omega (arith, l.invariant.3))

pub shape_of-index : goal.shape_of-index
shape_of-index c = c.loop-end.invariant.0 ∙ c.loop-k.invariant.0

pub returns : goal.returns
unfolding ordered
returns c =
    let a = c.args in
    let l = c.loop-end in
    in_order_is (sorts_before (centroid_at a.triangles.now a.axis)) (linear_ahead (centroid_at a.triangles.now a.axis)) l.index a.index.now (sifted_end (sorts_before (centroid_at a.triangles.now a.axis)) (linear_ahead (centroid_at a.triangles.now a.axis)) l.end l.index l.invariant.2 c.loop-end-test.false) (λ v. l.invariant.1 v ∙ c.loop-k.invariant.1 v)
