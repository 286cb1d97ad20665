-- Lists that hold a tree as rule G2 asks of one break no condition: each node stands in the tree, and what the tree has there the test of the node finds. Assumes nothing.
use mathlib.Core.Path.{◌≡◌, refl, sym, ◌∙◌, ap, subst}
use mathlib.Core.Bool.{Bool, true, false, not, ◌&&◌, cond}
use mathlib.Core.Logic.{inl, inr, ⊎_elim}
use Prim.Native.Nat.{ℕ, suc, ◌+◌, ◌≤◌, ◌<◌}
use native.Mathlib.Omega.{arith}
use lib.Dec.{T, eqb}
use lib.ListN.{length}
use lib.Ieee.Bits.{is_true}
use borrow.Author.Tests.{eq-eqb, ne_eqb, le-ltb, lt-leb}
use Rattle.lent.specs.Limits.{deepest}
use Rattle.float.proofs.Cases.{same?}
use Rattle.aabb.specs.declared.bounds.Aabb.{Aabb}
use Rattle.aabb.specs.Bounds.{bounded, is_empty, contains, box_at}
use Rattle.tree.specs.Lent.{Lent}
use Rattle.tree.specs.Node.{node_at, linked, node_of, left_or_first, left_of, right_of}
use Rattle.tree.specs.Tree.{Tree, leaf, internal, box_of, size, depth}
use Rattle.tree.specs.Holds.{Holds, Nested, Finite, Occupied, Bare, covering, Snug}
use Rattle.tree.specs.Accepted.{Accepted}
use Rattle.tree.proofs.Fitted.{fitting}
use Rattle.accept.specs.Count.{tick, count}
use Rattle.accept.specs.Conditions.{nodes, meshed, single, parent, reached, covered, encloses, breaks_1, breaks_2, breaks_3, breaks_4, breaks_6}
use Rattle.accept.specs.inner.Room.{first_at, count_at}
use Rattle.accept.proofs.Faults.{of_empty, of_mesh, of_leaf, of_inner}
use Rattle.trusted.specs.Meets.{Meets}
use Rattle.trusted.proofs.Sums.{sum_same, sum_none, sum_one, share, count_sum}
use Rattle.trusted.proofs.Vertices.{held_each}
use Rattle.trusted.proofs.Entries.{in_place}
use Rattle.trusted.proofs.Family.{is_parent, no_parent}
use Rattle.trusted.proofs.Growing.{in_leaf, not_in}
use Rattle.trusted.proofs.Nodes.{standing, over, In, at_root, on_left, on_right, in_part, in_leaf as at_leaf, stands_once, over_all}
use Rattle.trusted.proofs.Reaching.{reached_root, within_reach, step_down}

module _ (s : Lent) (t : Tree) (A : Accepted s t) where
  some : 0 < nodes s
  some = (fitting s.tree.boxes s.tree.links A.walkable.fitted).0

  abbrev L : ℕ → ℕ
  L i = left_of i (node_of s.tree i)

  abbrev R : ℕ → ℕ
  R i = right_of i (node_of s.tree i)

  -- ---- what a node of the tree has: the part that it holds, d levels below the root
  record Here (i d : ℕ) (u : Tree) : Type 0 where
    inside : i < nodes s
    holds : Holds s.tree i u
    reach : reached s d i ≡ true
    deep : d + depth u ≤ deepest
    nested : Nested u
    snug : Snug s.mesh.triangles s.tree.index u
    finite : 0 < meshed s → Finite u
    occupied : 0 < meshed s → Occupied u

  left : (i d : ℕ) (b : Aabb) (u v : Tree) → Here i d (internal b u v) → Here (L i) (suc d) u
  left i d b u v h = record {
    inside = h.holds.0.left_there;
    holds = h.holds.1;
    reach = step_down s d i (L i) h.inside (is_parent s i (L i) (h.holds.0.kind, inl refl)) h.reach;
    deep = omega (arith, h.deep);
    nested = h.nested.3;
    snug = h.snug.0;
    finite = λ n. (h.finite n).1;
    occupied = λ n. (h.occupied n).0;
  }

  right : (i d : ℕ) (b : Aabb) (u v : Tree) → Here i d (internal b u v) → Here (R i) (suc d) v
  right i d b u v h = record {
    inside = h.holds.0.right_there;
    holds = h.holds.2;
    reach = step_down s d i (R i) h.inside (is_parent s i (R i) (h.holds.0.kind, inr refl)) h.reach;
    deep = omega (arith, h.deep);
    nested = h.nested.4;
    snug = h.snug.1;
    finite = λ n. (h.finite n).2;
    occupied = λ n. (h.occupied n).1;
  }

  record Somewhere (j : ℕ) : Type 0 where
    level : ℕ
    part : Tree
    here : Here j level part

  find : (j i d : ℕ) (u : Tree) → Here i d u → 0 < standing s.tree j i u → Somewhere j
  find j i d (leaf b p c) h x = record { level = d; part = leaf b p c; here = subst (λ (z : ℕ). Here z d (leaf b p c)) (sym (at_leaf s.tree j i b p c x)) h }
  find j i d (internal b u v) h x =
      by (in_part s.tree j i b u v x) (find j (L i) (suc d) u (left i d b u v h)) (find j (R i) (suc d) v (right i d b u v h))
    where
      by : In s.tree j i u v → (0 < standing s.tree j (L i) u → Somewhere j) → (0 < standing s.tree j (R i) v → Somewhere j) → Somewhere j
      by (at_root e) f g = record { level = d; part = internal b u v; here = subst (λ (z : ℕ). Here z d (internal b u v)) (sym e) h }
      by (on_left y) f g = f y
      by (on_right y) f g = g y

  whole : Here 0 0 t
  whole = record {
    inside = some;
    holds = A.walkable.holds;
    reach = reached_root s;
    deep = omega (arith, A.walkable.shallow);
    nested = A.walkable.nested;
    snug = A.snug;
    finite = A.finite;
    occupied = A.occupied;
  }

  everywhere : (j : ℕ) → j < nodes s → Somewhere j
  everywhere j l = find j 0 0 t whole (omega (arith, stands_once s.tree t A.walkable.holds some A.all_nodes A.root A.once j l))

  -- ---- (i)
  bounded_at : (i : ℕ) (b : Aabb) → (node_of s.tree i).bounds ≡ b → T (bounded b) → bounded (box_at s.tree.boxes i) ≡ true
  unfolding node_at linked
  bounded_at i b e h = ap (λ (z : Aabb). bounded z) e ∙ is_true (bounded b) h

  no_fault : (0 < meshed s) → (i d : ℕ) (u : Tree) → Here i d u → breaks_1 s i ≡ false
  unfolding node_at linked left_of right_of
  no_fault n i d (leaf b p c) h =
      of_mesh s i (λ e. omega arith)
      ∙ sym (of_leaf s i (bounded_at i b h.holds.bounds (h.finite n)) h.holds.kind (λ z. omega (arith, h.holds.count, h.occupied n)))
      ∙ le-ltb (length s.tree.index) (first_at s.tree.links i + count_at s.tree.links i) (omega (arith, h.holds.first, h.holds.count, h.holds.inside))
  no_fault n i d (internal b u v) h =
      of_mesh s i (λ e. omega arith)
      ∙ sym (of_inner s i (bounded_at i b h.holds.0.bounds (h.finite n).0) h.holds.0.kind h.holds.0.count)
      ∙ lt-leb _ _ h.holds.0.right_there

  lone : meshed s ≡ 0 → (u : Tree) → Bare u → Holds s.tree 0 u → nodes s ≡ 1 → single s (node_of s.tree 0) ≡ true
  unfolding single
  lone z (internal b u v) e h w = absurd e
  lone z (leaf b p c) e h w =
      rw
      (eq-eqb (nodes s) 1 w, eq-eqb (length s.tree.index) 0 (A.walkable.one_each ∙ z), h.bounds, is_true (is_empty b) e.0, eq-eqb (left_or_first (node_of s.tree 0)) 0 (h.first ∙ e.1), eq-eqb (node_of s.tree 0).count 0 (h.count ∙ e.2), eq-eqb (node_of s.tree 0).kind 1 h.kind)

  bare_size : (u : Tree) → Bare u → nodes s ≡ size u → nodes s ≡ 1
  bare_size (leaf b p c) e w = w
  bare_size (internal b u v) e w = absurd e

  one : (i : ℕ) → i < nodes s → breaks_1 s i ≡ false
  one i l =
      ⊎_elim (λ z. of_empty s true i z (sym (lone z t (A.bare z) A.walkable.holds (bare_size t (A.bare z) A.all_nodes))))
      (λ n. let h = everywhere i l in no_fault (omega arith) i h.level h.part h.here) (same? (meshed s) 0)

  -- ---- (ii)
  count_zero : (p : ℕ → Bool) (n : ℕ) → ((i : ℕ) → i < n → p i ≡ false) → count p n ≡ 0
  count_zero p n f = count_sum p n ∙ sum_same (λ i. tick (p i)) (λ i. 0) n (λ i l. ap tick (f i l)) ∙ sum_none n

  count_single : (p : ℕ → Bool) (n a : ℕ) → a < n → ((i : ℕ) → i < n → p i ≡ eqb i a) → count p n ≡ 1
  count_single p n a l f = count_sum p n ∙ sum_same (λ i. tick (p i)) (λ i. share (eqb i a) 1) n (λ i m. ap tick (f i m)) ∙ sum_one (λ i. 1) a n l

  two : (j : ℕ) → j < nodes s → breaks_2 s j ≡ false
  unfolding breaks_2
  two j l = ⊎_elim root child (same? j 0)
    where
      root : j ≡ 0 → not (eqb (count (parent s j) (nodes s)) (cond (eqb j 0) 0 1)) ≡ false
      root z = rw (z, count_zero (parent s 0) (nodes s) (λ i m. no_parent s i 0 (A.root i m)))

      child : (j ≡ 0 → ⊥) → not (eqb (count (parent s j) (nodes s)) (cond (eqb j 0) 0 1)) ≡ false
      child n =
          let o = A.once j (omega arith) l in
          rw
          (ne_eqb j 0 n, count_single (parent s j) (nodes s) o.parent o.inside (λ i m. ⊎_elim (λ e. subst (λ (z : ℕ). parent s j z ≡ true) (sym e) (is_parent s o.parent j o.child) ∙ sym (eq-eqb i o.parent e)) (λ d. no_parent s i j (λ c. d (o.only i m c)) ∙ sym (ne_eqb i o.parent d)) (same? i o.parent)))

  -- ---- (iii)
  three : (j : ℕ) → j < nodes s → breaks_3 s j ≡ false
  unfolding breaks_3
  three j l = let h = everywhere j l in ap not (within_reach s h.level deepest j (omega (arith, h.here.deep)) h.here.reach)

  -- ---- (iv)
  covers : (q i : ℕ) (u : Tree) → Holds s.tree i u → over s.tree (λ k. tick (covered s q k)) i u ≡ covering q u
  unfolding over node_at linked
  covers q i (leaf b p c) h = ap tick (in_leaf s i q h.kind) ∙ rw (h.first, h.count)
  covers q i (internal b u v) h = omega (arith, ap tick (not_in s i q h.0.kind), covers q (L i) u h.1, covers q (R i) v h.2)

  four : (q : ℕ) → q < length s.tree.index → breaks_4 s q ≡ false
  unfolding breaks_4
  four q l =
      rw
      (count_sum (covered s q) (nodes s) ∙ sym (over_all s.tree t A.walkable.holds some A.all_nodes A.root A.once (λ k. tick (covered s q k))) ∙ covers q 0 t A.walkable.holds ∙ A.apart q l)

  -- ---- (vi)
  box_at_lem : (i : ℕ) (u : Tree) → Holds s.tree i u → box_at s.tree.boxes i ≡ box_of u
  unfolding node_at linked
  box_at_lem i (leaf b p c) h = h.bounds
  box_at_lem i (internal b u v) h = h.0.bounds

  inner_is : (i : ℕ) → (node_of s.tree i).kind ≡ 0
      → encloses s i (node_of s.tree i) ≡ contains (node_of s.tree i).bounds (box_at s.tree.boxes (L i)) && contains (node_of s.tree i).bounds (box_at s.tree.boxes (R i))
  unfolding encloses
  inner_is i k = rw (ne_eqb (node_of s.tree i).kind 1 (λ e. omega (arith, k)))

  encloses_it : (i d : ℕ) (u : Tree) → Here i d u → encloses s i (node_of s.tree i) ≡ true
  unfolding encloses
  encloses_it i d (leaf b p c) h =
      rw (eq-eqb (node_of s.tree i).kind 1 h.holds.kind, h.holds.bounds, h.holds.first, h.holds.count) (held_each s.mesh.triangles s.tree.index b c p h.snug)
  encloses_it i d (internal b u v) h =
      inner_is i h.holds.0.kind
      ∙ ap (λ (z : Aabb). contains z (box_at s.tree.boxes (L i)) && contains z (box_at s.tree.boxes (R i))) h.holds.0.bounds
      ∙ ap (λ (z : Aabb). contains b z && contains b (box_at s.tree.boxes (R i))) (box_at_lem (L i) u h.holds.1)
      ∙ ap (λ (z : Aabb). contains b (box_of u) && contains b z) (box_at_lem (R i) v h.holds.2)
      ∙ rw (is_true (contains b (box_of u)) h.nested.1.1, is_true (contains b (box_of v)) h.nested.2.1)

  six : (i : ℕ) → i < nodes s → breaks_6 s i ≡ false
  unfolding breaks_6
  six i l = let h = everywhere i l in ap not (encloses_it i h.level h.part h.here)

  -- rule G2 holds, so no condition breaks
  pub tree_meets : Meets s
  tree_meets = record {
    one = one;
    two = two;
    three = three;
    four = four;
    five = in_place (meshed s) s.tree.index A.permuted A.walkable.entries;
    long = omega (arith, A.walkable.one_each);
    six = six;
  }
