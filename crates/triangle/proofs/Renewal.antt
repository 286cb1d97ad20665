-- What a call that refills normals leaves where it is served (`Renewed`): by the answer, 1, 2 and 5 were passed, and the mesh is the one that is filled. Assumes nothing.
use Rattle.std.specs.Prelude.{None}
use mathlib.Core.Path.{◌≡◌, sym, ap, ◌∙◌, subst}
use Prim.Native.Nat.{ℕ, ◌/◌, ◌%◌, ◌≤◌, ◌<◌}
use native.Mathlib.Omega.{arith}
use mathlib.Core.List.{List}
use lib.ListN.{length}
use lib.Dec.{T, eqb}
use lib.Ieee.{Float}
use borrow.Author.Tests.{eqb-true, ltb-false, not-false}
use Rattle.lent.specs.Limits.{most_triangles}
use Rattle.lent.specs.Ladder.{none, numbered, triangle_count}
use Rattle.lent.proofs.Ladder.{ends, goes, agree, not_below, all_passed}
use Rattle.triangle.specs.Mesh.{triangle_at, admitted_triangle, first_refused}
use Rattle.triangle.specs.Refilled.{Outcome, outcome, filled_from, refilled, Renewed}
use Rattle.triangle.proofs.Admitting.{none_bad, none_unadmitted, none_refused, all_admitted}
use Rattle.triangle.proofs.UnitNormal.{new_admitted}
use Rattle.triangle.proofs.Untouched.{length_kept, number_kept, triangle_new, filled_twice}

record Served (m l : List Float) : Type 0 where
  whole : length m % 12 ≡ 0
  few : triangle_count m ≤ most_triangles
  all_fine : first_refused m 0 (triangle_count m) ≡ None
  is : l ≡ filled_from m 0 (triangle_count m)

no_refusal : (number at : ℕ) → numbered number at ≡ none → ⊥
no_refusal number at e = let z : ◌≡◌ {A = ℕ} 0 1 = cc in omega arith

passed : (m l : List Float) → refilled m ≡ outcome none l → Served m l
unfolding refilled
passed m l e =
    let p = all_passed _ _ _ (outcome none l) e (λ k a r. no_refusal k a (ap (λ (o : Outcome). o.refusal) r)) in
    let q = p.0 in
    record {
      whole = eqb-true (length m % 12) 0 (not-false (eqb (length m % 12) 0) q.0);
      few = ltb-false most_triangles (triangle_count m) q.1.0;
      all_fine = none_unadmitted (first_refused m 0 (triangle_count m)) q.1.1.0;
      is = sym (ap (λ (o : Outcome). o.mesh) p.1);
    }

module _ (m : List Float) (few : triangle_count m ≤ most_triangles) (whole : length m % 12 ≡ 0) (all_fine : first_refused m 0 (triangle_count m) ≡ None) where
  abbrev n : ℕ
  n = triangle_count m

  abbrev l : List Float
  l = filled_from m 0 n

  same : length l ≡ length m
  same = length_kept n m 0

  as_many : triangle_count l ≡ n
  as_many = ap (λ (k : ℕ). k / 12) same

  each_new : (i : ℕ) → i < n → T (admitted_triangle (triangle_at l i))
  each_new i h =
      subst (λ t. T (admitted_triangle t)) (sym (triangle_new m n (omega arith) i h)) (new_admitted (triangle_at m i) (none_refused m n 0 i all_fine (omega arith) (omega arith)))

  again : refilled l ≡ outcome none l
  unfolding refilled
  again =
      let few-again : triangle_count l ≤ most_triangles = subst (λ (k : ℕ). k ≤ most_triangles) (sym as_many) few in
      sym
      (ends
      (goes (agree (ap (λ (k : ℕ). k % 12) same ∙ whole))
      (goes (not_below few-again)
      (none_bad (ap (λ (k : ℕ). first_refused l 0 k) as_many ∙ all_admitted l n 0 (λ j p q. each_new j (omega arith))) (ap (outcome none) (sym (ap (λ (k : ℕ). filled_from l 0 k) as_many ∙ filled_twice m n (omega arith))))))))

  filled_renewed : Renewed m l
  filled_renewed = record {
    as_long = same;
    corners = λ p h. number_kept n m 0 p h;
    triangles = λ i h. triangle_new m n (omega arith) i h;
    admitted = each_new;
    settled = again;
  }

pub renewed : (m l : List Float) → refilled m ≡ outcome none l → Renewed m l
renewed m l e = let s = passed m l e in subst (λ (z : List Float). Renewed m z) (sym s.is) (filled_renewed m s.few s.whole s.all_fine)
