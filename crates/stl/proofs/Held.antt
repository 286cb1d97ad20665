-- The triangles of the mesh that a file holds are the file's: so what is asked of the one is asked of the other. Assumes nothing.
use Rattle.std.specs.Prelude.{None}
use mathlib.Core.Path.{◌≡◌, refl, sym, ap, ◌∙◌, subst}
use Prim.Native.Nat.{ℕ, ◌+◌, ◌*◌, ◌<◌}
use native.Mathlib.Omega.{arith}
use mathlib.Core.Bool.{Bool, not}
use mathlib.Core.List.{List, [], ◌++◌, append-nil}
use lib.Dec.{T}
use lib.ListN.{length, get_or}
use lib.Ieee.{Float, nan}
use Rattle.lent.specs.Lowest.{lowest}
use Rattle.lent.proofs.Lowest.{agree}
use Rattle.lent.proofs.Flat.{records_at, records_length}
use Rattle.aabb.specs.declared.vector.Vec3.{Vec3}
use Rattle.aabb.specs.Vector.{vector_at}
use Rattle.triangle.specs.declared.Triangle.{Triangle}
use Rattle.triangle.specs.Mesh.{triangle_at, admitted_triangle, refused_at, first_refused}
use Rattle.triangle.proofs.Admitting.{none_refused, all_admitted}
use Rattle.stl.specs.Layout.{triangle_in, numbers_of, mesh_in}
use Rattle.stl.proofs.Filling.{numbers_length}

module _ (s : List ℕ) (at n : ℕ) where
  abbrev row_of : ℕ → List Float
  row_of i = numbers_of (triangle_in s (at + 50 * i))

  pub mesh_length : length (mesh_in s at n) ≡ n * 12
  unfolding mesh_in
  mesh_length = records_length row_of 12 (λ i. numbers_length (triangle_in s (at + 50 * i))) n

  -- number k of triangle i
  in_mesh : (rest : List Float) (i k p : ℕ) → i < n → k < 12 → p ≡ i * 12 + k → get_or (mesh_in s at n ++ rest) p nan ≡ get_or (row_of i) k nan
  unfolding mesh_in
  in_mesh rest i k p h l e = records_at row_of 12 (λ j. numbers_length (triangle_in s (at + 50 * j))) n rest i p k nan h l e

  three_in : (rest : List Float) (i k : ℕ) (v : Vec3) → i < n → k + 2 < 12 → get_or (row_of i) k nan ≡ v.x → get_or (row_of i) (k + 1) nan ≡ v.y → get_or (row_of i) (k + 2) nan ≡ v.z
      → (p : ℕ) → p ≡ i * 12 + k → vector_at (mesh_in s at n ++ rest) p ≡ v
  unfolding vector_at
  three_in rest i k v h l x y z p e =
      let a = in_mesh rest i k p h (omega arith) e ∙ x in
      let b = in_mesh rest i (k + 1) (p + 1) h (omega arith) (omega arith) ∙ y in
      let c = in_mesh rest i (k + 2) (p + 2) h (omega arith) (omega arith) ∙ z in
      λ w. record { x = a w; y = b w; z = c w }

  -- whatever stands behind the mesh
  pub mesh_triangle : (rest : List Float) (i : ℕ) → i < n → triangle_at (mesh_in s at n ++ rest) i ≡ triangle_in s (at + 50 * i)
  unfolding triangle_at numbers_of
  mesh_triangle rest i h =
      let t = triangle_in s (at + 50 * i) in
      let a = three_in rest i 0 t.v0 h (omega arith) refl refl refl (i * 12) (omega arith) in
      let b = three_in rest i 3 t.v1 h (omega arith) refl refl refl (i * 12 + 3) (omega arith) in
      let c = three_in rest i 6 t.v2 h (omega arith) refl refl refl (i * 12 + 6) (omega arith) in
      let d = three_in rest i 9 t.normal h (omega arith) refl refl refl (i * 12 + 9) (omega arith) in
      λ w. record { v0 = a w; v1 = b w; v2 = c w; normal = d w }

  pub own_triangle : (i : ℕ) → i < n → triangle_at (mesh_in s at n) i ≡ triangle_in s (at + 50 * i)
  own_triangle i h = ap (λ (m : List Float). triangle_at m i) (sym (append-nil (mesh_in s at n))) ∙ mesh_triangle [] i h

  -- ---- the lowest that isn't admitted
  abbrev pub refused_in : ℕ → Bool
  refused_in i = not (admitted_triangle (triangle_in s (at + 50 * i)))

  pub held_lowest : lowest refused_in 0 n ≡ first_refused (mesh_in s at n) 0 n
  unfolding first_refused
  held_lowest = agree refused_in (refused_at (mesh_in s at n)) n (λ j h. ap (λ (t : Triangle). not (admitted_triangle t)) (sym (own_triangle j h)))

  pub held_admitted : first_refused (mesh_in s at n) 0 n ≡ None → (j : ℕ) → j < n → T (admitted_triangle (triangle_in s (at + 50 * j)))
  held_admitted e j h = subst (λ (t : Triangle). T (admitted_triangle t)) (own_triangle j h) (none_refused (mesh_in s at n) n 0 j e (omega arith) (omega arith))

  pub admitted_held : ((j : ℕ) → j < n → T (admitted_triangle (triangle_in s (at + 50 * j)))) → first_refused (mesh_in s at n) 0 n ≡ None
  admitted_held h =
      all_admitted (mesh_in s at n) n 0 (λ j p q. let l : j < n = omega arith in subst (λ (t : Triangle). T (admitted_triangle t)) (sym (own_triangle j l)) (h j l))
