-- A leaf's test of its triangles, place by place: both ways. Assumes nothing.
use mathlib.Core.Path.{◌≡◌, refl, subst⁻¹}
use mathlib.Core.Bool.{true, ◌&&◌}
use mathlib.Core.List.{List}
use mathlib.Core.Logic.{⊎_elim}
use Prim.Native.Nat.{ℕ, zero, suc, ◌+◌, ◌≤◌, ◌<◌}
use native.Mathlib.Omega.{arith}
use lib.ListN.{get_or}
use lib.Ieee.{Float}
use lib.Ieee.Bits.{is_true}
use Rattle.float.proofs.Cases.{same?, true_is, and_both}
use Rattle.aabb.specs.declared.bounds.Aabb.{Aabb}
use Rattle.aabb.specs.Bounds.{holds}
use Rattle.triangle.specs.declared.Triangle.{Triangle}
use Rattle.triangle.specs.Mesh.{triangle_at}
use Rattle.tree.specs.Holds.{HoldsVertices}
use Rattle.accept.specs.Conditions.{holds_all, holds_each}

all_three : (b : Aabb) (t : Triangle) → holds_all b t ≡ true → HoldsVertices b t
unfolding holds_all
all_three b t e =
    let p = and_both (holds b t.v0) (holds b t.v1 && holds b t.v2) e in
    let q = and_both (holds b t.v1) (holds b t.v2) p.1 in
    (true_is (holds b t.v0) p.0, true_is (holds b t.v1) q.0, true_is (holds b t.v2) q.1)

three_all : (b : Aabb) (t : Triangle) → HoldsVertices b t → holds_all b t ≡ true
unfolding holds_all
three_all b t h = rw (is_true (holds b t.v0) h.0, is_true (holds b t.v1) h.1, is_true (holds b t.v2) h.2)

module _ (mesh : List Float) (index : List ℕ) (b : Aabb) where
  pub each_held : (c p : ℕ) → holds_each mesh index b c p ≡ true → (q : ℕ) → p ≤ q → q < p + c → HoldsVertices b (triangle_at mesh (get_or index q 0))
  unfolding holds_each
  each_held zero p e q h l = absurd (omega arith)
  each_held (suc c) p e q h l =
      let f = and_both (holds_all b (triangle_at mesh (get_or index p 0))) (holds_each mesh index b c (suc p)) e in
      ⊎_elim (λ w. subst⁻¹ (λ (z : ℕ). HoldsVertices b (triangle_at mesh (get_or index z 0))) w (all_three b (triangle_at mesh (get_or index p 0)) f.0))
      (λ w. each_held c (suc p) f.1 q (omega arith) (omega arith)) (same? q p)

  pub held_each : (c p : ℕ) → ((q : ℕ) → p ≤ q → q < p + c → HoldsVertices b (triangle_at mesh (get_or index q 0))) → holds_each mesh index b c p ≡ true
  unfolding holds_each
  held_each zero p f = refl
  held_each (suc c) p f =
      rw (three_all b (triangle_at mesh (get_or index p 0)) (f p (omega arith) (omega arith)), held_each c (suc p) (λ q h l. f q (omega arith) (omega arith)))
