-- Parts of a list that stand one after the other, and its first elements one by one. Assumes nothing.
use mathlib.Core.Path.{◌≡◌, refl, sym, ap, ◌∙◌}
use Prim.Native.Nat.{ℕ, zero, suc, ◌+◌, ◌*◌, ◌≤◌, ◌<◌}
use native.Mathlib.Nat.{add_assoc, add-zero, add-suc}
use native.Mathlib.Omega.{arith}
use mathlib.Core.List.{List, [], ◌∷◌, ◌++◌}
use lib.ListN.{length, take, drop, get_or}
use lib.Seq.{take-add, drop-drop, drop-cons}
use lib.Ieee.{Float, nan}
use Rattle.lent.specs.Flat.{records}
use Rattle.aabb.specs.Vector.{vector_at}
use Rattle.triangle.specs.declared.Triangle.{Triangle}
use Rattle.triangle.specs.Mesh.{triangle_at}
use Rattle.stl.specs.Layout.{triangle_in, numbers_of, mesh_in}

module _ {A : Type 0} where
  pub joined : (list : List A) (i a b : ℕ) → take a (drop i list) ++ take b (drop (i + a) list) ≡ take (a + b) (drop i list)
  joined list i a b = ap (λ (z : List A). take a (drop i list) ++ take b z) (sym (drop-drop a i list)) ∙ sym (take-add a b (drop i list))

  pub records_same : (f g : ℕ → List A) (n : ℕ) → ((i : ℕ) → i < n → f i ≡ g i) → records f n ≡ records g n
  unfolding records
  records_same f g zero h = refl
  records_same f g (suc n) h = ap (λ (z : List A). z ++ f n) (records_same f g n (λ i l. h i (omega arith))) ∙ ap (λ (z : List A). records g n ++ z) (h n (omega arith))

  -- k elements from a + j on
  abbrev pub heads : List A → A → ℕ → ℕ → ℕ → List A
  heads l d a zero j = []
  heads l d a (suc k) j = get_or l (a + j) d ∷ heads l d a k (suc j)

  pub front : (l : List A) (d : A) (a k j : ℕ) → a + j + k ≤ length l → take k (drop (a + j) l) ≡ heads l d a k j
  front l d a zero j h = refl
  front l d a (suc k) j h =
      ap (take (suc k)) (drop-cons l (a + j) d (omega arith)) ∙ ap (λ (zs : List A). get_or l (a + j) d ∷ zs) (ap (λ (i : ℕ). take k (drop i l)) (sym (add-suc a j)) ∙ front l d a k (suc j) (omega arith))

-- ---- the numbers of a mesh, twelve at a time
twelve_are : (mesh : List Float) (i : ℕ) → heads mesh nan (i * 12) 12 0 ≡ numbers_of (triangle_at mesh i)
unfolding numbers_of triangle_at vector_at
twelve_are mesh i = simp (add_assoc, add-zero)

twelve_next : (mesh : List Float) (i : ℕ) → i * 12 + 12 ≤ length mesh → take 12 (drop (i * 12) mesh) ≡ numbers_of (triangle_at mesh i)
twelve_next mesh i h = ap (λ (k : ℕ). take 12 (drop k mesh)) (sym (add-zero (i * 12))) ∙ (front mesh nan (i * 12) 12 0 (omega arith) ∙ twelve_are mesh i)

-- the mesh that a file holds is the one whose triangles it has
pub mesh_back : (mesh : List Float) (s : List ℕ) (at n : ℕ) → n * 12 ≤ length mesh → ((j : ℕ) → j < n → triangle_in s (at + 50 * j) ≡ triangle_at mesh j) → mesh_in s at n ≡ take (n * 12) mesh
unfolding mesh_in records
mesh_back mesh s at zero h back = refl
mesh_back mesh s at (suc n) h back =
    ap (λ (zs : List Float). zs ++ numbers_of (triangle_in s (at + 50 * n))) (mesh_back mesh s at n (omega arith) (λ j g. back j (omega arith)))
    ∙ (ap (λ (t : Triangle). take (n * 12) mesh ++ numbers_of t) (back n (omega arith))
    ∙ (ap (λ (zs : List Float). take (n * 12) mesh ++ zs) (sym (twelve_next mesh n (omega arith)))
    ∙ (sym (take-add (n * 12) 12 mesh) ∙ ap (λ (k : ℕ). take k mesh) (more n))))
  where
    more : (n : ℕ) → n * 12 + 12 ≡ suc n * 12
    more n = omega arith
