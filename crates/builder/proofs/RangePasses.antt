-- Laws of the pass over a range that grows its two boxes: its start, its turn and its end; and of a triangle by its corners. Assumes nothing.
use mathlib.Core.Path.{◌≡◌, refl, sym, ◌∙◌, ap}
use Prim.Native.Nat.{ℕ, zero, suc, ◌+◌, ◌*◌, ◌≤◌, ◌<◌}
use native.Mathlib.Nat.{add-zero}
use native.Mathlib.Omega.{arith}
use native.Mathlib.Numerals.{add-one}
use mathlib.Core.List.{List}
use lib.ListN.{length, get_or, drop, drop_of_length-le}
use lib.Seq.{drop-cons}
use lib.Ieee.{Float, add, div, binary64}
use Rattle.aabb.specs.declared.vector.Vec3.{Vec3}
use Rattle.aabb.specs.declared.bounds.Aabb.{Aabb}
use Rattle.float.specs.Number.{three}
use Rattle.aabb.specs.Vector.{along, divided, number_at, plus, vector_at}
use Rattle.aabb.specs.Bounds.{empty_box, grown, of_three, union}
use Rattle.triangle.specs.declared.Corners.{Corners}
use Rattle.triangle.specs.Mesh.{triangle_at, corners_of, bounds_of, centroid_of, bounds_at, centroid_at}
use Rattle.builder.specs.Range.{box_from, node_box, centroids_from, centroid_box}

module _ (m : List Float) (xs : List ℕ) where
  pub box_start : (b : Aabb) → b ≡ empty_box → box_from m b (drop 0 xs) ≡ node_box m xs
  unfolding node_box
  box_start b p = ap (λ (z : Aabb). box_from m z xs) p

  pub centroids_start : (b : Aabb) → b ≡ empty_box → centroids_from m b (drop 0 xs) ≡ centroid_box m xs
  unfolding centroid_box
  centroids_start b p = ap (λ (z : Aabb). centroids_from m z xs) p

  module _ (i : ℕ) (h : i < length xs) where
    box_step : (b : Aabb) → box_from m b (drop i xs) ≡ box_from m (union b (bounds_at m (get_or xs i 0))) (drop (i + 1) xs)
    unfolding box_from
    box_step b = rw (add-one, drop-cons xs i 0)

    centroids_step : (b : Aabb) → centroids_from m b (drop i xs) ≡ centroids_from m (grown b (centroid_of (triangle_at m (get_or xs i 0)))) (drop (i + 1) xs)
    unfolding centroids_from
    centroids_step b = rw (add-one, drop-cons xs i 0)

    pub box_again : (b b' bx n : Aabb) → bx ≡ bounds_at m (get_or xs i 0) → b' ≡ union b bx → box_from m b (drop i xs) ≡ n → box_from m b' (drop (i + 1) xs) ≡ n
    box_again b b' bx n r s e = ap (λ (z : Aabb). box_from m z (drop (i + 1) xs)) (s ∙ ap (union b) r) ∙ sym (box_step b) ∙ e

    pub centroids_again : (b b' n : Aabb) (c : Vec3) → c ≡ centroid_of (triangle_at m (get_or xs i 0)) → b' ≡ grown b c → centroids_from m b (drop i xs) ≡ n → centroids_from m b' (drop (i + 1) xs) ≡ n
    centroids_again b b' n c r s e = ap (λ (z : Aabb). centroids_from m z (drop (i + 1) xs)) (s ∙ ap (grown b) r) ∙ sym (centroids_step b) ∙ e

  pub box_end : (b : Aabb) (i : ℕ) → length xs ≤ i → box_from m b (drop i xs) ≡ b
  unfolding box_from
  box_end b i h = ap (λ (z : List ℕ). box_from m b z) (drop_of_length-le xs h)

  pub centroids_end : (b : Aabb) (i : ℕ) → length xs ≤ i → centroids_from m b (drop i xs) ≡ b
  unfolding centroids_from
  centroids_end b i h = ap (λ (z : List ℕ). centroids_from m b z) (drop_of_length-le xs h)

-- ---- a triangle by its corners
pub centroid_by : (m : List Float) (i : ℕ) (v : Corners) (c : Vec3) → v ≡ corners_of (triangle_at m i) → c ≡ divided (plus (plus v.v0 v.v1) v.v2) three → c ≡ centroid_of (triangle_at m i)
unfolding centroid_of corners_of
centroid_by m i v c p e = rw p at e

pub bounds_by : (m : List Float) (i : ℕ) (v : Corners) (b : Aabb) → v ≡ corners_of (triangle_at m i) → b ≡ of_three v.v0 v.v1 v.v2 → b ≡ bounds_at m i
unfolding bounds_at bounds_of corners_of
bounds_by m i v b p e = rw p at e

-- ---- a centroid on an axis, by three numbers of the mesh
number_on : (m : List Float) (axis at : ℕ) → axis < 3 → number_at m (at + axis) ≡ along axis (vector_at m at)
unfolding along vector_at
number_on m zero at h = ap (number_at m) (add-zero at)
number_on m (suc zero) at h = refl
number_on m (suc (suc zero)) at h = refl
number_on m (suc (suc (suc k))) at h = absurd (omega arith)

third_on : (axis : ℕ) (a b c : Vec3) → axis < 3 → div binary64 (add binary64 (add binary64 (along axis a) (along axis b)) (along axis c)) three ≡ along axis (divided (plus (plus a b) c) three)
unfolding along divided plus
third_on zero a b c h = refl
third_on (suc zero) a b c h = refl
third_on (suc (suc zero)) a b c h = refl
third_on (suc (suc (suc k))) a b c h = absurd (omega arith)

pub centroid_there : (m : List Float) (axis i k : ℕ) → axis < 3 → k ≡ i
    → div binary64 (add binary64 (add binary64 (number_at m (k * 12 + axis)) (number_at m (k * 12 + axis + 3))) (number_at m (k * 12 + axis + 6))) three ≡ centroid_at m axis i
unfolding centroid_at centroid_of triangle_at
centroid_there m axis i k h e =
    let p : number_at m (k * 12 + axis) ≡ along axis (vector_at m (i * 12)) = ap (λ (n : ℕ). number_at m (n * 12 + axis)) e ∙ number_on m axis (i * 12) h in
    let q : number_at m (k * 12 + axis + 3) ≡ along axis (vector_at m (i * 12 + 3)) = ap (number_at m) (turned i k axis 3 e) ∙ number_on m axis (i * 12 + 3) h in
    let r : number_at m (k * 12 + axis + 6) ≡ along axis (vector_at m (i * 12 + 6)) = ap (number_at m) (turned i k axis 6 e) ∙ number_on m axis (i * 12 + 6) h in
    rw (p, q, r) (third_on axis (vector_at m (i * 12)) (vector_at m (i * 12 + 3)) (vector_at m (i * 12 + 6)) h)
  where
    turned : (i k axis d : ℕ) → k ≡ i → k * 12 + axis + d ≡ i * 12 + d + axis
    turned i k axis d e = omega (arith, e)
