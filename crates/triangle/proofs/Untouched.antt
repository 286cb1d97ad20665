-- A mesh whose normals were refilled is as long as it was, has every number of a corner as it was, and in each triangle the normal that its corners give: nothing else is touched,
-- and refilling it once more changes nothing. Assumes nothing.
use mathlib.Core.Path.{◌≡◌, refl, sym, ap, ◌∙◌}
use mathlib.Core.Logic.{⊎_elim}
use Prim.Native.Nat.{ℕ, zero, suc, ◌+◌, ◌*◌, ◌%◌, ◌≤◌, ◌<◌}
use native.Mathlib.Nat.{lt_irrefl, le_refl}
use native.Mathlib.Omega.{arith}
use mathlib.Core.List.{List}
use lib.ListN.{length, set, length-set}
use lib.Seq.{get_or-set_same, get_or-set_other, set-get_or}
use lib.Ieee.{Float, nan}
use Rattle.float.proofs.Cases.{same?}
use Rattle.aabb.specs.declared.vector.Vec3.{Vec3}
use Rattle.aabb.specs.Vector.{vec, number_at, vector_at}
use Rattle.triangle.specs.declared.Triangle.{Triangle}
use Rattle.triangle.specs.Mesh.{triangle_at}
use Rattle.triangle.specs.Normal.{new_triangle}
use Rattle.triangle.specs.Refilled.{put, normal_at, filled, filled_from}
use Rattle.triangle.proofs.Refilling.{length_filled}

-- ---- three numbers put at a place
module _ (m : List Float) (at : ℕ) (v : Vec3) where
  abbrev one : List Float
  one = set m at v.x

  abbrev two : List Float
  two = set one (at + 1) v.y

  put_other : (p : ℕ) → (p ≡ at → ⊥) → (p ≡ at + 1 → ⊥) → (p ≡ at + 2 → ⊥) → number_at (put m at v) p ≡ number_at m p
  unfolding put
  put_other p a b c = get_or-set_other two (at + 2) p v.z nan c ∙ get_or-set_other one (at + 1) p v.y nan b ∙ get_or-set_other m at p v.x nan a

  put_same : at + 3 ≤ length m → vector_at (put m at v) at ≡ v
  unfolding put vector_at
  put_same h =
      ap (λ (x : Float). vec x (number_at (set two (at + 2) v.z) (at + 1)) (number_at (set two (at + 2) v.z) (at + 2)))
      (get_or-set_other two (at + 2) at v.z nan (λ e. omega arith) ∙ get_or-set_other one (at + 1) at v.y nan (λ e. omega arith) ∙ get_or-set_same m at v.x nan (omega arith))
      ∙ ap (λ (y : Float). vec v.x y (number_at (set two (at + 2) v.z) (at + 2)))
      (get_or-set_other two (at + 2) (at + 1) v.z nan (λ e. omega arith) ∙ get_or-set_same one (at + 1) v.y nan (simp length-set (omega arith)))
      ∙ ap (λ (z : Float). vec v.x v.y z) (get_or-set_same two (at + 2) v.z nan (simp length-set (omega arith)))

-- the numbers that stand there already
put_own : (m : List Float) (at : ℕ) → put m at (vector_at m at) ≡ m
unfolding put vector_at
put_own m at = rw (set-get_or m at nan, set-get_or m (at + 1) nan, set-get_or m (at + 2) nan)

-- ---- a number that is of no normal from triangle i on
abbrev Apart : ℕ → ℕ → Type 0
Apart p i = (j : ℕ) → i ≤ j → (p ≡ j * 12 + 9 → ⊥) × (p ≡ j * 12 + 9 + 1 → ⊥) × (p ≡ j * 12 + 9 + 2 → ⊥)

apart_kept : (p k : ℕ) (m : List Float) (i : ℕ) → Apart p i → number_at (filled_from m i k) p ≡ number_at m p
unfolding filled_from filled
apart_kept p zero m i w = refl
apart_kept p (suc k) m i w =
    let a = w i (le_refl i) in
    apart_kept p k (filled m i) (suc i) (λ j h. w j (omega arith)) ∙ put_other m (i * 12 + 9) (normal_at m i) p a.0 a.1 a.2

-- the nine numbers of a triangle's corners
pub number_kept : (k : ℕ) (m : List Float) (i p : ℕ) → p % 12 < 9 → number_at (filled_from m i k) p ≡ number_at m p
number_kept k m i p h = apart_kept p k m i (λ j g. (λ e. omega arith, λ e. omega arith, λ e. omega arith))

corner_kept : (k : ℕ) (m : List Float) (i p : ℕ) → p % 12 < 7 → vector_at (filled_from m i k) p ≡ vector_at m p
unfolding vector_at
corner_kept k m i p h = rw (number_kept k m i p (omega arith), number_kept k m i (p + 1) (omega arith), number_kept k m i (p + 2) (omega arith))

pub corners_kept : (k : ℕ) (m : List Float) (i j : ℕ) → ((triangle_at (filled_from m i k) j).v0 ≡ (triangle_at m j).v0) × ((triangle_at (filled_from m i k) j).v1 ≡ (triangle_at m j).v1) × ((triangle_at (filled_from m i k) j).v2 ≡ (triangle_at m j).v2)
unfolding triangle_at
corners_kept k m i j = (corner_kept k m i (j * 12) (omega arith), corner_kept k m i (j * 12 + 3) (omega arith), corner_kept k m i (j * 12 + 6) (omega arith))

pub normal_same : (k : ℕ) (m : List Float) (i j : ℕ) → normal_at (filled_from m i k) j ≡ normal_at m j
normal_same k m i j = let c = corners_kept k m i j in rw (c.0, c.1, c.2)

-- ---- the normals of k triangles from i on
earlier_kept : (k : ℕ) (m : List Float) (i j : ℕ) → j < i → vector_at (filled_from m i k) (j * 12 + 9) ≡ vector_at m (j * 12 + 9)
unfolding vector_at
earlier_kept k m i j h = rw (kept (j * 12 + 9) (omega arith), kept (j * 12 + 9 + 1) (omega arith), kept (j * 12 + 9 + 2) (omega arith))
  where
    kept : (p : ℕ) → p < i * 12 → number_at (filled_from m i k) p ≡ number_at m p
    kept p l = apart_kept p k m i (λ t g. (λ e. omega arith, λ e. omega arith, λ e. omega arith))

own_filled : (m : List Float) (i : ℕ) → i * 12 + 12 ≤ length m → vector_at (filled m i) (i * 12 + 9) ≡ normal_at m i
unfolding filled
own_filled m i h = put_same m (i * 12 + 9) (normal_at m i) (omega arith)

one_same : (m : List Float) (i j : ℕ) → normal_at (filled m i) j ≡ normal_at m j
unfolding filled_from
one_same m i j = normal_same 1 m i j

normal_filled : (k : ℕ) (m : List Float) (i j : ℕ) → i ≤ j → j < i + k → (i + k) * 12 ≤ length m → vector_at (filled_from m i k) (j * 12 + 9) ≡ normal_at m j
unfolding filled_from
normal_filled zero m i j l u h = absurd (lt_irrefl 0 (omega arith))
normal_filled (suc k) m i j l u h =
    ⊎_elim
    (λ s. earlier_kept k (filled m i) (suc i) j (omega arith) ∙ ap (λ (z : ℕ). vector_at (filled m i) (z * 12 + 9)) s ∙ own_filled m i (omega arith) ∙ ap (normal_at m) (sym s))
    (λ d. normal_filled k (filled m i) (suc i) j (omega arith) (omega arith) (omega (arith, length_filled m i)) ∙ one_same m i j)
    (same? j i)

-- ---- the whole mesh
pub length_kept : (k : ℕ) (m : List Float) (i : ℕ) → length (filled_from m i k) ≡ length m
unfolding filled_from
length_kept zero m i = refl
length_kept (suc k) m i = length_kept k (filled m i) (suc i) ∙ length_filled m i

-- where each normal is that of its corners already, nothing changes
one_own : (m : List Float) (i : ℕ) → vector_at m (i * 12 + 9) ≡ normal_at m i → filled m i ≡ m
unfolding filled
one_own m i e = ap (put m (i * 12 + 9)) (sym e) ∙ put_own m (i * 12 + 9)

fill_own : (k : ℕ) (m : List Float) (i : ℕ) → ((j : ℕ) → i ≤ j → j < i + k → vector_at m (j * 12 + 9) ≡ normal_at m j) → filled_from m i k ≡ m
unfolding filled_from
fill_own zero m i e = refl
fill_own (suc k) m i e = ap (λ (l : List Float). filled_from l (suc i) k) (one_own m i (e i (le_refl i) (omega arith))) ∙ fill_own k m (suc i) (λ j p q. e j (omega arith) (omega arith))

normal_there : (m : List Float) (j : ℕ) → (triangle_at m j).normal ≡ vector_at m (j * 12 + 9)
unfolding triangle_at
normal_there m j = refl

module _ (m : List Float) (n : ℕ) (h : n * 12 ≤ length m) where
  pub triangle_new : (j : ℕ) → j < n → triangle_at (filled_from m 0 n) j ≡ new_triangle (triangle_at m j).v0 (triangle_at m j).v1 (triangle_at m j).v2
  unfolding new_triangle
  triangle_new j l =
      let c = corners_kept n m 0 j in
      parts (triangle_at (filled_from m 0 n) j) _ _ _ _ c.0 c.1 c.2 (normal_there (filled_from m 0 n) j ∙ normal_filled n m 0 j (omega arith) (omega arith) (omega arith))
    where
      parts : (t : Triangle) (a b c d : Vec3) → t.v0 ≡ a → t.v1 ≡ b → t.v2 ≡ c → t.normal ≡ d → t ≡ record { v0 = a; v1 = b; v2 = c; normal = d }
      parts t a b c d p q r s = λ i. record { v0 = p i; v1 = q i; v2 = r i; normal = s i }

  -- once more
  pub filled_twice : filled_from (filled_from m 0 n) 0 n ≡ filled_from m 0 n
  filled_twice = fill_own n (filled_from m 0 n) 0 (λ j p q. normal_filled n m 0 j p q (omega arith) ∙ sym (normal_same n m 0 j))
