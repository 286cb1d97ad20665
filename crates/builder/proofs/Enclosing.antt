-- The box of a range of admitted triangles is bounded, contains each of their boxes, and lies in every box that does. Assumes nothing.
use mathlib.Core.Path.{◌≡◌, ap, subst⁻¹}
use Prim.Native.Nat.{ℕ, ◌<◌}
use native.Mathlib.Omega.{arith}
use mathlib.Core.Logic.{⊎_elim}
use mathlib.Core.List.{List, [], ◌∷◌}
use lib.ListN.{length}
use lib.Dec.{T}
use lib.Ieee.{Float}
use Rattle.float.proofs.Pick.{greater_least, lesser_most}
use Rattle.aabb.proofs.Axis.{along_greatest, along_least, at_most_along, at_most_from}
use Rattle.aabb.proofs.Holds.{at_most_refl, bounded_numbers, contains_trans, union_bounded, union_empty, union_left, union_right}
use Rattle.aabb.specs.Bounds.{bounded, contains, union}
use Rattle.aabb.specs.Vector.{all_at_most, along, greatest, least}
use Rattle.aabb.specs.declared.bounds.Aabb.{Aabb}
use Rattle.triangle.proofs.Holds.{bounds_bounded}
use Rattle.triangle.specs.Mesh.{admitted_triangle, bounds_at, triangle_at}
use Rattle.lent.specs.Permutation.{occ}
use Rattle.builder.specs.Range.{box_from, node_box}
use Rattle.lent.proofs.Permutation.{occurs_cases, occurs_same}
use lib.Ieee.Fits.{and_l, and_r, and_i}

contains_refl : (b : Aabb) → T (bounded b) → T (contains b b)
unfolding contains
contains_refl b h = let n = bounded_numbers b h in and_i (all_at_most b.min b.min) (all_at_most b.max b.max) (at_most_refl b.min n.low) (at_most_refl b.max n.high)

union_within : (c b o : Aabb) → T (contains c b) → T (contains c o) → T (contains c (union b o))
unfolding contains union
union_within c b o p q =
    let bl : T (all_at_most c.min b.min) = search (and_l, and_r) in
    let ol : T (all_at_most c.min o.min) = search (and_l, and_r) in
    let bh : T (all_at_most b.max c.max) = search (and_l, and_r) in
    let oh : T (all_at_most o.max c.max) = search (and_l, and_r) in
    and_i (all_at_most c.min (least b.min o.min)) (all_at_most (greatest b.max o.max) c.max)
    (at_most_from c.min (least b.min o.min) (λ k. rw (along_least b.min o.min k) (lesser_most (along k b.min) (along k o.min) (along k c.min) (at_most_along c.min b.min k bl) (at_most_along c.min o.min k ol))))
    (at_most_from (greatest b.max o.max) c.max (λ k. rw (along_greatest b.max o.max k) (greater_least (along k b.max) (along k o.max) (along k c.max) (at_most_along b.max c.max k bh) (at_most_along o.max c.max k oh))))

module _ (m : List Float) where
  -- each number of the list is that of an admitted triangle
  abbrev pub Admitted : List ℕ → Type 0
  Admitted ids = (v : ℕ) → 0 < occ v ids → T (admitted_triangle (triangle_at m v))

  at_bounded : (v : ℕ) → T (admitted_triangle (triangle_at m v)) → T (bounded (bounds_at m v))
  unfolding bounds_at
  at_bounded v A = bounds_bounded (triangle_at m v) A

  head_bounded : (i : ℕ) (is : List ℕ) → Admitted (i ∷ is) → T (bounded (bounds_at m i))
  head_bounded i is A = at_bounded i (A i (omega (arith, occurs_same i)))

  tail_admitted : (i : ℕ) (is : List ℕ) → Admitted (i ∷ is) → Admitted is
  tail_admitted i is A v h = A v (omega arith)

  from_bounded : (b : Aabb) (ids : List ℕ) → T (bounded b) → Admitted ids → T (bounded (box_from m b ids))
  unfolding box_from
  from_bounded b [] h A = h
  from_bounded b (i ∷ is) h A = from_bounded (union b (bounds_at m i)) is (union_bounded b (bounds_at m i) h (head_bounded i is A)) (tail_admitted i is A)

  from_first : (b : Aabb) (ids : List ℕ) → T (bounded b) → Admitted ids → T (contains (box_from m b ids) b)
  unfolding box_from
  from_first b [] h A = contains_refl b h
  from_first b (i ∷ is) h A =
      let k = head_bounded i is A in
      contains_trans (box_from m (union b (bounds_at m i)) is) (union b (bounds_at m i)) b
      (from_first (union b (bounds_at m i)) is (union_bounded b (bounds_at m i) h k) (tail_admitted i is A))
      (union_left b (bounds_at m i) (bounded_numbers b h) (bounded_numbers (bounds_at m i) k))

  from_each : (b : Aabb) (ids : List ℕ) → T (bounded b) → Admitted ids → (v : ℕ) → 0 < occ v ids → T (contains (box_from m b ids) (bounds_at m v))
  unfolding box_from
  from_each b [] h A v o = absurd (omega arith)
  from_each b (i ∷ is) h A v o =
      let k = head_bounded i is A in
      let u = union_bounded b (bounds_at m i) h k in
      ⊎_elim
      (λ e. subst⁻¹ (λ (z : ℕ). T (contains (box_from m (union b (bounds_at m i)) is) (bounds_at m z))) e
      (contains_trans (box_from m (union b (bounds_at m i)) is) (union b (bounds_at m i)) (bounds_at m i)
      (from_first (union b (bounds_at m i)) is u (tail_admitted i is A))
      (union_right b (bounds_at m i) (bounded_numbers b h) (bounded_numbers (bounds_at m i) k))))
      (λ n. from_each (union b (bounds_at m i)) is u (tail_admitted i is A) v (omega arith)) (occurs_cases v i)

  from_least : (c b : Aabb) (ids : List ℕ) → T (contains c b) → ((v : ℕ) → 0 < occ v ids → T (contains c (bounds_at m v))) → T (contains c (box_from m b ids))
  unfolding box_from
  from_least c b [] h f = h
  from_least c b (i ∷ is) h f = from_least c (union b (bounds_at m i)) is (union_within c b (bounds_at m i) h (f i (omega (arith, occurs_same i)))) (λ v o. f v (omega arith))

  -- ---- the box of a node
  node_cons : (i : ℕ) (is : List ℕ) → Admitted (i ∷ is) → node_box m (i ∷ is) ≡ box_from m (bounds_at m i) is
  unfolding node_box box_from
  node_cons i is A = ap (λ (z : Aabb). box_from m z is) (union_empty (bounds_at m i) (head_bounded i is A))

  pub node_bounded : (ids : List ℕ) → 0 < length ids → Admitted ids → T (bounded (node_box m ids))
  node_bounded [] h A = absurd (omega arith)
  node_bounded (i ∷ is) h A = subst⁻¹ (λ (z : Aabb). T (bounded z)) (node_cons i is A) (from_bounded (bounds_at m i) is (head_bounded i is A) (tail_admitted i is A))

  node_each : (ids : List ℕ) → Admitted ids → (v : ℕ) → 0 < occ v ids → T (contains (node_box m ids) (bounds_at m v))
  node_each [] A v o = absurd (omega arith)
  node_each (i ∷ is) A v o =
      subst⁻¹ (λ (z : Aabb). T (contains z (bounds_at m v))) (node_cons i is A)
      (⊎_elim (λ e. subst⁻¹ (λ (z : ℕ). T (contains (box_from m (bounds_at m i) is) (bounds_at m z))) e (from_first (bounds_at m i) is (head_bounded i is A) (tail_admitted i is A)))
      (λ n. from_each (bounds_at m i) is (head_bounded i is A) (tail_admitted i is A) v (omega arith)) (occurs_cases v i))

  node_least : (c : Aabb) (ids : List ℕ) → 0 < length ids → Admitted ids → ((v : ℕ) → 0 < occ v ids → T (contains c (bounds_at m v))) → T (contains c (node_box m ids))
  node_least c [] h A f = absurd (omega arith)
  node_least c (i ∷ is) h A f =
      subst⁻¹ (λ (z : Aabb). T (contains c z)) (node_cons i is A) (from_least c (bounds_at m i) is (f i (omega (arith, occurs_same i))) (λ v o. f v (omega arith)))

  -- a range whose numbers are all among those of another has its box in the other's
  pub node_inside : (ids ys : List ℕ) → Admitted ids → 0 < length ys → ((v : ℕ) → 0 < occ v ys → 0 < occ v ids) → T (contains (node_box m ids) (node_box m ys))
  node_inside ids ys A h f = node_least (node_box m ids) ys h (λ v o. A v (f v o)) (λ v o. node_each ids A v (f v o))
