-- Each leaf's box of a grown tree holds the vertices of its triangles: it holds their boxes, and those hold the vertices. Assumes nothing.
use mathlib.Core.Path.{◌≡◌, refl, sym, ◌∙◌, ap, subst, subst⁻¹}
use mathlib.Core.List.{List, [], ◌∷◌, ◌++◌}
use mathlib.Core.Logic.{⊎_elim}
use Prim.Native.Nat.{ℕ, suc, ◌+◌, ◌-◌, ◌<◌}
use native.Mathlib.Omega.{arith}
use lib.Dec.{T}
use lib.ListN.{length, get_or, take, drop, length-append, length-drop, take-append-drop, get_or-append}
use lib.Seq.{length-take-le, get_or-append-add}
use lib.Ieee.{Float}
use lib.Ieee.Fits.{and_l, and_r, and_i}
use Rattle.lent.specs.Permutation.{occ}
use Rattle.aabb.specs.declared.vector.Vec3.{Vec3}
use Rattle.aabb.specs.declared.bounds.Aabb.{Aabb}
use Rattle.aabb.specs.Vector.{all_at_most}
use Rattle.aabb.specs.Bounds.{contains, holds}
use Rattle.aabb.proofs.Holds.{at_most_trans, union_empty}
use Rattle.triangle.specs.Mesh.{triangle_at, bounds_at, bounds_of, admitted_triangle}
use Rattle.triangle.proofs.Holds.{bounds_bounded, bounds_holds}
use Rattle.tree.specs.Tree.{internal, leaf}
use Rattle.tree.specs.Holds.{HoldsVertices, Snug}
use Rattle.builder.specs.Range.{box_from, node_box}
use Rattle.builder.specs.Tree.{Grown, grown_as, grow}
use Rattle.builder.proofs.Enclosing.{Admitted, node_inside}
use Rattle.lent.proofs.Permutation.{occurs_cases, occ_at, occ_append}
use Rattle.builder.proofs.Trees.{Cut, Of-some, grow_has}

-- ---- the box of a range holds the vertices of each of its triangles
holds_in : (b a : Aabb) (p : Vec3) → T (contains b a) → T (holds a p) → T (holds b p)
unfolding contains holds
holds_in b a p c h =
    let cl : T (all_at_most b.min a.min) = search (and_l, and_r) in
    let ch : T (all_at_most a.max b.max) = search (and_l, and_r) in
    let hl : T (all_at_most a.min p) = search (and_l, and_r) in
    let hh : T (all_at_most p a.max) = search (and_l, and_r) in
    and_i (all_at_most b.min p) (all_at_most p b.max) (at_most_trans b.min a.min p cl hl) (at_most_trans p a.max b.max hh ch)

module _ (m : List Float) where
  lone : (v : ℕ) → T (admitted_triangle (triangle_at m v)) → node_box m (v ∷ []) ≡ bounds_of (triangle_at m v)
  unfolding node_box box_from bounds_at
  lone v A = union_empty (bounds_of (triangle_at m v)) (bounds_bounded (triangle_at m v) A)

  only : (v w : ℕ) (ids : List ℕ) → 0 < occ v ids → 0 < occ w (v ∷ []) → 0 < occ w ids
  only v w ids h o = subst (λ (z : ℕ). 0 < occ z ids) (⊎_elim (λ e. sym e) (λ z. absurd (omega arith)) (occurs_cases w v)) h

  node_each : (ids : List ℕ) (v : ℕ) → Admitted m ids → 0 < occ v ids → T (contains (node_box m ids) (bounds_of (triangle_at m v)))
  node_each ids v A h =
      subst (λ (z : Aabb). T (contains (node_box m ids) z)) (lone v (A v h)) (node_inside m ids (v ∷ []) A (omega arith) (λ w o. only v w ids h o))

  node_vertices : (ids : List ℕ) (v : ℕ) → Admitted m ids → 0 < occ v ids → HoldsVertices (node_box m ids) (triangle_at m v)
  node_vertices ids v A h =
      let c = node_each ids v A h in
      let k = bounds_holds (triangle_at m v) (A v h) in
      let b = bounds_of (triangle_at m v) in (
        holds_in (node_box m ids) b (triangle_at m v).v0 c k.0,
        holds_in (node_box m ids) b (triangle_at m v).v1 c k.1,
        holds_in (node_box m ids) b (triangle_at m v).v2 c k.2,
      )

  -- ---- what a grown tree has, wherever its range stands in the index list
  pub record Fitting (d f : ℕ) (ids : List ℕ) (g : Grown) : Type 0 where
    pub len : length g.ids ≡ length ids
    pub snug : (index : List ℕ) → ((i : ℕ) → i < length ids → get_or index (f + i) 0 ≡ get_or g.ids i 0) → Admitted m ids → Snug m index g.tree

  on_leaf : (d f : ℕ) (ids : List ℕ) → Fitting d f ids (grown_as (leaf (node_box m ids) f (length ids)) ids)
  on_leaf d f ids = record {
    len = refl;
    snug = λ index at A q x y.
        let i = q - f in
        let e : q ≡ f + (q - f) = omega arith in
        let h : q - f < length ids = omega arith in
        subst⁻¹ (λ (z : ℕ). HoldsVertices (node_box m ids) (triangle_at m z)) (ap (λ (z : ℕ). get_or index z 0) e ∙ at i h) (node_vertices ids (get_or ids i 0) A (occ_at ids i h));
  }

  module _ (d f : ℕ) (ids xs : List ℕ) (k : ℕ) (l r : Grown) (c : Cut ids xs k) (p : Fitting d f (take k xs) l) (q : Fitting d (f + k) (drop k xs) r) where
    left_length : length (take k xs) ≡ k
    left_length = length-take-le k xs (omega (arith, c.high, c.len))

    right_length : length (drop k xs) ≡ length ids - k
    right_length = length-drop k xs ∙ ap (λ (n : ℕ). n - k) c.len

    part_occ : (v : ℕ) → occ v (take k xs) + occ v (drop k xs) ≡ occ v ids
    part_occ v = sym (occ_append v (take k xs) (drop k xs)) ∙ ap (λ (z : List ℕ). occ v z) (take-append-drop k xs) ∙ c.same v

    at_k : length l.ids ≡ k
    at_k = p.len ∙ left_length

    right_at : (index : List ℕ) → ((i : ℕ) → i < length ids → get_or index (f + i) 0 ≡ get_or (l.ids ++ r.ids) i 0) → (i : ℕ) → i < length (drop k xs) → get_or index (f + k + i) 0 ≡ get_or r.ids i 0
    right_at index at i x =
        let there : f + k + i ≡ f + (length l.ids + i) = omega (arith, at_k) in
        ap (λ (z : ℕ). get_or index z 0) there ∙ at (length l.ids + i) (omega (arith, at_k, right_length, c.high)) ∙ get_or-append-add l.ids r.ids i 0

    on_fork : Fitting (suc d) f ids (grown_as (internal (node_box m ids) l.tree r.tree) (l.ids ++ r.ids))
    on_fork = record {
      len = length-append l.ids r.ids ∙ omega (arith, p.len, q.len, left_length, right_length, c.high);
      snug = λ index at A. (
        p.snug index (λ i x. at i (omega (arith, left_length, c.high)) ∙ get_or-append l.ids r.ids 0 i (omega (arith, p.len))) (λ v o. A v (omega (arith, part_occ v))),
        q.snug index (λ i x. right_at index at i x) (λ v o. A v (omega (arith, part_occ v))),
      );
    }

  pub grown_fitting : (d f : ℕ) (ids : List ℕ) → Of-some (Fitting d f ids) (grow m d f ids)
  grown_fitting d f ids = grow_has m Fitting on_leaf (λ d f ids xs k l r c p q. on_fork d f ids xs k l r c p q) d f ids
