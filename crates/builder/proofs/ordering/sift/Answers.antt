-- The list is a heap from `at` on but for what stands at i, the number that goes down. Assumes nothing.
use mathlib.Core.Path.{◌≡◌, refl, sym, ◌∙◌, ap, subst⁻¹}
use Prim.Native.Nat.{ℕ, ◌<◌}
use native.Mathlib.Omega.{arith}
use mathlib.Core.List.{List}
use lib.ListN.{length, get_or}
use Rattle.triangle.specs.Mesh.{centroid_at}
use Rattle.builder.specs.Fallback.{sorts_before}
use Rattle.lent.specs.Permutation.{occ}
use Rattle.builder.proofs.Heaps.{Nearly, nearly_next, nearly_none, nearly_start, nearly_stop, swap_second}
use Rattle.builder.proofs.Linear.{linear_ahead}
use Rattle.builder.proofs.Parting.{length_swap, swapped_by}
use Rattle.lent.proofs.Permutation.{perm_swap}
use Rattle.builder.proofs.ordering.sift.Goals.{After-is_ahead}
use Rattle.builder.proofs.ordering.sift.Goals as goal

-- what `is_ahead` tells, of the numbers in the list
told : (c : After-is_ahead)
    → let a = c.args in let l = c.loop-i in c.is_ahead.result ≡ sorts_before (centroid_at a.triangles.now a.axis) (get_or l.index l.i 0) (get_or l.index c.greater_child-g.result.place 0)
told c =
    let a = c.args in
    let at = centroid_at a.triangles.now a.axis in
    let l = c.loop-i in
    let g = c.greater_child-g.ensures.number_value in
    rw (← l.invariant.4, ← g.0) (c.is_ahead.ensures at c.of-own.ensures.1 g.1)

pub loop-i-init : goal.loop-i-init
loop-i-init c =
    let a = c.args in
    let at = centroid_at a.triangles.now a.axis in
    let p = c.requires in
    (refl, λ v. refl, nearly_start (sorts_before at) (linear_ahead at) a.at a.index.now p.heap_from, p.index_len_bound.1, c.of-own.ensures.0)

pub overflow_mul-i : goal.overflow_mul-i
overflow_mul-i c = omega (arith, c.loop-i.invariant.3, c.requires.index_len_bound.0)

pub overflow_add-i : goal.overflow_add-i
overflow_add-i c = omega (arith, c.loop-i.invariant.3, c.requires.index_len_bound.0)

pub greater_child-g-requires : goal.greater_child-g-requires
greater_child-g-requires c = c.loop-i-test.true

pub swap-requires : goal.swap-requires
swap-requires c =
    let g = c.greater_child-g.ensures.greater in
    let s = g.inside in
    let e = g.after in
    record { a_in_bounds = omega (arith, c.loop-i-test.true); b_in_bounds = s }

pub loop-i-smaller : goal.loop-i-smaller
loop-i-smaller c =
    let g = c.greater_child-g.ensures.greater in
    let s = g.inside in
    let e = g.after in
    omega (arith, c.loop-i.invariant.0, c.loop-i-test.true)

pub loop-i-preserved : goal.loop-i-preserved
loop-i-preserved c =
    let a = c.args in
    let at = centroid_at a.triangles.now a.axis in
    let l = c.loop-i in
    let g = c.greater_child-g.result.place in
    let greater = c.greater_child-g.ensures.greater in
    let s = greater.inside in
    let e = greater.after in
    let hi : l.i < length l.index = omega (arith, c.loop-i-test.true) in
    let w = swapped_by l.index _ l.i g hi s c.swap.ensures.after in (
      ap length w ∙ length_swap l.index l.i g ∙ l.invariant.0,
      λ v. ap (occ v) w ∙ perm_swap l.index l.i g hi s v ∙ l.invariant.1 v,
      subst⁻¹ (Nearly (sorts_before at) (linear_ahead at) a.at g) w (nearly_next (sorts_before at) (linear_ahead at) a.at l.i g l.index l.invariant.2 greater (sym (told (goal.at.loop-i-preserved c).After-is_ahead) ∙ c.if-not-is_ahead.false)),
      omega (arith, l.invariant.0),
      l.invariant.4 ∙ sym (ap (λ (xs : List ℕ). get_or xs g 0) w ∙ swap_second l.index l.i g hi s (λ q. omega arith)),
    )

pub returns-then-not-is_ahead : goal.returns-then-not-is_ahead
returns-then-not-is_ahead c =
    let a = c.args in
    let at = centroid_at a.triangles.now a.axis in
    let l = c.loop-i in
    let g = c.greater_child-g in record {
      perm = l.invariant.1;
      heap_from_2 = nearly_stop (sorts_before at) (linear_ahead at) a.at l.i g.result.place l.index l.invariant.2 g.ensures.greater (sym (told (goal.at.returns-then-not-is_ahead c).After-is_ahead) ∙ c.if-not-is_ahead.true);
    }

pub returns : goal.returns
returns c =
    let a = c.args in
    let at = centroid_at a.triangles.now a.axis in
    let l = c.loop-i in record {
      perm = l.invariant.1;
      heap_from_2 = nearly_none (sorts_before at) (linear_ahead at) a.at l.i l.index l.invariant.2 c.loop-i-test.false;
    }
