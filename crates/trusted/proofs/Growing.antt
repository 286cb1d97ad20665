-- Where conditions (i), (ii), (iii) and (vi) hold of a tree over triangles, the lists hold a tree from node 0 on that has every node once. A node's subtree is cut off at so many levels; a
-- node that isn't reached in fewer than 63 - e steps has no nodes more than e levels below it, so that 63 levels are enough for each. Assumes nothing.
use mathlib.Core.Path.{◌≡◌, refl, sym, ◌∙◌, ap, subst}
use mathlib.Core.Bool.{Bool, true, false, ◌&&◌, ◌||◌, cond, true≢false}
use mathlib.Core.Logic.{⊎_elim}
use Prim.Native.Nat.{ℕ, zero, suc, ◌+◌, ◌≤◌, ◌<◌}
use native.Mathlib.Omega.{arith}
use lib.Dec.{T, leb, ltb, eqb}
use lib.ListN.{length}
use borrow.Author.Tests.{eq-eqb, ne_eqb, eqb-true, not-false}
use Rattle.float.proofs.Cases.{same?}
use Rattle.lent.specs.Limits.{deepest}
use Rattle.aabb.specs.Bounds.{bounded, contains, box_at}
use Rattle.aabb.proofs.Holds.{bounded_usable}
use Rattle.tree.specs.Lent.{Lent}
use Rattle.tree.specs.Node.{node_at, linked, left_of, right_of}
use Rattle.tree.specs.Node.{node_of}
use Rattle.tree.specs.Tree.{Tree, leaf, internal, box_of, size, depth, held}
use Rattle.tree.specs.Holds.{Holds, Nested, Finite, Occupied, covering, Snug}
use Rattle.accept.specs.Count.{tick, count}
use Rattle.accept.specs.Conditions.{nodes, parent, breaks_2, reached, covered, holds_each, encloses, breaks_6}
use Rattle.accept.specs.inner.Room.{first_at, count_at, kind_at, parent_at}
use Rattle.accept.proofs.Count.{count_none, count_one, any_one}
use Rattle.accept.proofs.Family.{parent_is, has_one}
use Rattle.trusted.proofs.Vertices.{each_held}
use Rattle.trusted.proofs.Good.{Good, leafy, inner}
use Rattle.trusted.proofs.Sums.{sum, sum_same, sum_add, sum_turned, share, sum_none, sum_one, share_none, share_one}

-- ---- the tree at node i, cut off so many levels below it
pub grow : Lent → ℕ → ℕ → Tree
grow s zero i = leaf (box_at s.tree.boxes i) (first_at s.tree.links i) (count_at s.tree.links i)
grow s (suc e) i =
    cond (eqb (kind_at s.tree.links i) 1) (leaf (box_at s.tree.boxes i) (first_at s.tree.links i) (count_at s.tree.links i))
    (internal (box_at s.tree.boxes i) (grow s e (first_at s.tree.links i)) (grow s e (first_at s.tree.links i + 1)))

-- what the nodes of it have together
pub total : Lent → (ℕ → ℕ) → ℕ → ℕ → ℕ
total s w zero i = w i
total s w (suc e) i = w i + cond (eqb (kind_at s.tree.links i) 1) 0 (total s w e (first_at s.tree.links i) + total s w e (first_at s.tree.links i + 1))

module _ (s : Lent) where
  abbrev L : ℕ → ℕ
  L i = first_at s.tree.links i

  abbrev R : ℕ → ℕ
  R i = first_at s.tree.links i + 1

  pub grow_leaf : (e i : ℕ) → kind_at s.tree.links i ≡ 1 → grow s e i ≡ leaf (box_at s.tree.boxes i) (L i) (count_at s.tree.links i)
  unfolding grow
  grow_leaf zero i k = refl
  grow_leaf (suc e) i k = rw (eq-eqb (kind_at s.tree.links i) 1 k)

  grow_inner : (e i : ℕ) → kind_at s.tree.links i ≡ 0 → grow s (suc e) i ≡ internal (box_at s.tree.boxes i) (grow s e (L i)) (grow s e (R i))
  unfolding grow
  grow_inner e i k = rw (ne_eqb (kind_at s.tree.links i) 1 (λ z. omega arith))

  total_leaf : (w : ℕ → ℕ) (e i : ℕ) → kind_at s.tree.links i ≡ 1 → total s w e i ≡ w i
  unfolding total
  total_leaf w zero i k = refl
  total_leaf w (suc e) i k = rw (eq-eqb (kind_at s.tree.links i) 1 k) (omega arith)

  total_inner : (w : ℕ → ℕ) (e i : ℕ) → kind_at s.tree.links i ≡ 0 → total s w (suc e) i ≡ w i + (total s w e (L i) + total s w e (R i))
  unfolding total
  total_inner w e i k = rw (ne_eqb (kind_at s.tree.links i) 1 (λ z. omega arith))

  left_child : (i : ℕ) → kind_at s.tree.links i ≡ 0 → parent s (L i) i ≡ true
  unfolding parent_at
  left_child i k = parent_is s (L i) i ∙ rw (eq-eqb (kind_at s.tree.links i) 0 k, eq-eqb (L i) (L i) refl)

  right_child : (i : ℕ) → kind_at s.tree.links i ≡ 0 → parent s (R i) i ≡ true
  unfolding parent_at
  right_child i k = parent_is s (R i) i ∙ rw (eq-eqb (kind_at s.tree.links i) 0 k, ne_eqb (R i) (L i) (λ z. omega arith), eq-eqb (R i) (R i) refl)

  -- ---- a place in a node's range
  pub in_leaf : (i p : ℕ) → kind_at s.tree.links i ≡ 1 → covered s p i ≡ leb (first_at s.tree.links i) p && ltb p (first_at s.tree.links i + count_at s.tree.links i)
  unfolding covered node_at linked
  in_leaf i p k = rw (eq-eqb (kind_at s.tree.links i) 1 k)

  pub not_in : (i p : ℕ) → kind_at s.tree.links i ≡ 0 → covered s p i ≡ false
  unfolding covered node_at linked
  not_in i p k = rw (ne_eqb (kind_at s.tree.links i) 1 (λ z. omega arith))

module _ (s : Lent) (sound : (i : ℕ) → i < nodes s → Good s i) (some : 0 < nodes s) (family : (j : ℕ) → j < nodes s → breaks_2 s j ≡ false)
    (reach : (j : ℕ) → j < nodes s → reached s deepest j ≡ true) (close : (i : ℕ) → i < nodes s → breaks_6 s i ≡ false) where
  no_parent : count (parent s 0) (nodes s) ≡ 0
  unfolding breaks_2
  no_parent = eqb-true _ _ (not-false _ (family 0 some))

  not_root : (i j : ℕ) → i < nodes s → parent s j i ≡ true → j ≡ 0 → ⊥
  not_root i j l a z = true≢false (sym a ∙ ap (λ (k : ℕ). parent s k i) z ∙ count_none (parent s 0) (nodes s) no_parent i l)

  down : (d i j : ℕ) → i < nodes s → j < nodes s → parent s j i ≡ true → reached s (suc d) j ≡ reached s d i
  unfolding reached
  down d i j l m a =
      rw (ne_eqb j 0 (not_root i j l a))
      (any_one (λ k. parent s j k && reached s d k) (nodes s) i l
      (λ k h n. ap (λ (t : Bool). t && reached s d k) (count_one (parent s j) (nodes s) (has_one s family j m (not_root i j l a)) i k l h a n))
      ∙ ap (λ (t : Bool). t && reached s d i) a)

  -- not reached in fewer than 63 - e steps
  abbrev Late : ℕ → ℕ → Type 0
  Late e i = (d : ℕ) → reached s d i ≡ true → deepest ≤ d + e

  late_child : (e i j : ℕ) → i < nodes s → j < nodes s → parent s j i ≡ true → Late (suc e) i → Late e j
  unfolding reached
  late_child e i j l m a f zero r = absurd (not_root i j l a (eqb-true j 0 r))
  late_child e i j l m a f (suc d) r = omega (arith, f d (sym (down d i j l m a) ∙ r))

  late_none : (i : ℕ) → i < nodes s → kind_at s.tree.links i ≡ 0 → L s i < nodes s → Late 0 i → ⊥
  late_none i l k m f = omega (arith, f 62 (sym (down 62 i (L s i) l m (left_child s i k)) ∙ reach (L s i) m))

  late_all : (i : ℕ) → Late deepest i
  late_all i d r = omega arith

  left_late : (e i : ℕ) → i < nodes s → kind_at s.tree.links i ≡ 0 → R s i < nodes s → Late (suc e) i → Late e (L s i)
  left_late e i l k h f = late_child e i (L s i) l (omega arith) (left_child s i k) f

  right_late : (e i : ℕ) → i < nodes s → kind_at s.tree.links i ≡ 0 → R s i < nodes s → Late (suc e) i → Late e (R s i)
  right_late e i l k h f = late_child e i (R s i) l h (right_child s i k) f

  -- ---- 63 levels are enough
  module _ (w : ℕ → ℕ) where
    settle_0 : (i : ℕ) → i < nodes s → Late 0 i → Good s i → total s w 1 i ≡ total s w 0 i
    settle_0 i l f (leafy k h o b) = total_leaf s w 1 i k ∙ sym (total_leaf s w 0 i k)
    settle_0 i l f (inner k c h b) = absurd (late_none i l k (omega arith) f)

    settle : (e i : ℕ) → i < nodes s → Late (suc e) i → Good s i → ((j : ℕ) → j < nodes s → Late e j → total s w (suc e) j ≡ total s w e j)
        → total s w (suc (suc e)) i ≡ total s w (suc e) i
    settle e i l f (leafy k h o b) r = total_leaf s w (suc (suc e)) i k ∙ sym (total_leaf s w (suc e) i k)
    settle e i l f (inner k c h b) r =
        omega (arith, total_inner s w (suc e) i k, total_inner s w e i k, r (L s i) (omega arith) (left_late e i l k h f), r (R s i) h (right_late e i l k h f))

    settled : (e i : ℕ) → i < nodes s → Late e i → total s w (suc e) i ≡ total s w e i
    settled zero i l f = settle_0 i l f (sound i l)
    settled (suc e) i l f = settle e i l f (sound i l) (λ j m g. settled e j m g)

  -- ---- each node but 0 is once among the children
  module _ (f : ℕ → ℕ) where
    abbrev below : ℕ → ℕ
    below i = cond (eqb (kind_at s.tree.links i) 1) 0 (f (L s i) + f (R s i))

    apart : (a b : Bool) (x : ℕ) → (a ≡ true → b ≡ false) → share (a || b) x ≡ share a x + share b x
    apart true b x d = rw (d refl) (omega arith)
    apart false b x d = omega arith

    of_two : (i j : ℕ) → kind_at s.tree.links i ≡ 0 → share (parent s j i) (f j) ≡ share (eqb j (L s i)) (f j) + share (eqb j (R s i)) (f j)
    unfolding parent_at
    of_two i j k =
        ap (λ (t : Bool). share t (f j)) (parent_is s j i ∙ ap (λ (t : Bool). t && (eqb j (L s i) || eqb j (R s i))) (eq-eqb (kind_at s.tree.links i) 0 k))
        ∙ apart (eqb j (L s i)) (eqb j (R s i)) (f j) (λ e. ne_eqb j (R s i) (λ z. omega (arith, eqb-true j (L s i) e)))

    of_none : (i j : ℕ) → kind_at s.tree.links i ≡ 1 → share (parent s j i) (f j) ≡ 0
    unfolding parent_at
    of_none i j k =
        ap (λ (t : Bool). share t (f j)) (parent_is s j i ∙ ap (λ (t : Bool). t && (eqb j (L s i) || eqb j (R s i))) (ne_eqb (kind_at s.tree.links i) 0 (λ z. omega arith)))

    row : (i : ℕ) → Good s i → sum (λ j. share (parent s j i) (f j)) (nodes s) ≡ below i
    row i (leafy k h o b) =
        sum_same (λ j. share (parent s j i) (f j)) (λ j. 0) (nodes s) (λ j l. of_none i j k)
        ∙ sum_none (nodes s)
        ∙ sym (ap (λ (t : Bool). cond t 0 (f (L s i) + f (R s i))) (eq-eqb (kind_at s.tree.links i) 1 k))
    row i (inner k c h b) =
        sum_same (λ j. share (parent s j i) (f j)) (λ j. share (eqb j (L s i)) (f j) + share (eqb j (R s i)) (f j)) (nodes s) (λ j l. of_two i j k)
        ∙ sum_add (λ j. share (eqb j (L s i)) (f j)) (λ j. share (eqb j (R s i)) (f j)) (nodes s)
        ∙ two
        ∙ sym (ap (λ (t : Bool). cond t 0 (f (L s i) + f (R s i))) (ne_eqb (kind_at s.tree.links i) 1 (λ z. omega arith)))
      where
        two : sum (λ j. share (eqb j (L s i)) (f j)) (nodes s) + sum (λ j. share (eqb j (R s i)) (f j)) (nodes s) ≡ f (L s i) + f (R s i)
        two = omega (arith, sum_one f (L s i) (nodes s) (omega arith), sum_one f (R s i) (nodes s) h)

    column : (j : ℕ) → j < nodes s → sum (λ i. share (parent s j i) (f j)) (nodes s) + share (eqb j 0) (f j) ≡ f j
    column j l = ⊎_elim here there (same? j 0)
      where
        here : j ≡ 0 → sum (λ i. share (parent s j i) (f j)) (nodes s) + share (eqb j 0) (f j) ≡ f j
        here z =
            omega
            (arith, share_none (parent s j) (f j) (nodes s) (ap (λ (k : ℕ). count (parent s k) (nodes s)) z ∙ no_parent), ap (λ (t : Bool). share t (f j)) (eq-eqb j 0 z))

        there : (j ≡ 0 → ⊥) → sum (λ i. share (parent s j i) (f j)) (nodes s) + share (eqb j 0) (f j) ≡ f j
        there z = omega (arith, share_one (parent s j) (f j) (nodes s) (has_one s family j l z), ap (λ (t : Bool). share t (f j)) (ne_eqb j 0 z))

    children_sum : sum below (nodes s) + f 0 ≡ sum f (nodes s)
    children_sum =
        let a = sum_same (λ i. sum (λ j. share (parent s j i) (f j)) (nodes s)) below (nodes s) (λ i l. row i (sound i l)) in
        let b = sum_turned (λ i j. share (parent s j i) (f j)) (nodes s) (nodes s) in
        let c = sum_add (λ j. sum (λ i. share (parent s j i) (f j)) (nodes s)) (λ j. share (eqb j 0) (f j)) (nodes s) in
        let d = sum_same (λ j. sum (λ i. share (parent s j i) (f j)) (nodes s) + share (eqb j 0) (f j)) f (nodes s) column in
        let e = sum_one f 0 (nodes s) some in
        omega (arith, a, b, c, d, e)

  -- so the tree from node 0 on has each node once
  total_next : (w : ℕ → ℕ) (e i : ℕ) → total s w (suc e) i ≡ w i + below (total s w e) i
  unfolding total
  total_next w e i = refl

  enough : (a b c d x : ℕ) → a ≡ b → a ≡ c + d → d + x ≡ b → x ≡ c
  enough a b c d x p q r = omega arith

  total_enough : (w : ℕ → ℕ) (e : ℕ) → ((i : ℕ) → i < nodes s → total s w (suc e) i ≡ total s w e i) → total s w e 0 ≡ sum w (nodes s)
  total_enough w e h =
      enough (sum (total s w (suc e)) (nodes s)) (sum (total s w e) (nodes s)) (sum w (nodes s)) (sum (below (total s w e)) (nodes s)) (total s w e 0)
      (sum_same (total s w (suc e)) (total s w e) (nodes s) h)
      (sum_same (total s w (suc e)) (λ i. w i + below (total s w e) i) (nodes s) (λ i l. total_next w e i) ∙ sum_add w (below (total s w e)) (nodes s))
      (children_sum (total s w e))

  pub whole_total : (w : ℕ → ℕ) → total s w deepest 0 ≡ sum w (nodes s)
  whole_total w = total_enough w deepest (λ i l. settled w deepest i l (late_all i))

  -- ---- what holds of the tree at each node
  pub record Stands (e i : ℕ) (t : Tree) : Type 0 where
    pub holds : Holds s.tree i t
    pub shallow : depth t ≤ e
    pub box_is : box_of t ≡ box_at s.tree.boxes i
    pub nested : Nested t
    pub size_is : size t ≡ total s (λ k. 1) e i
    pub held_is : held t ≡ total s (count_at s.tree.links) e i
    pub finite : Finite t
    pub occupied : Occupied t
    pub covering_is : (q : ℕ) → covering q t ≡ total s (λ k. tick (covered s q k)) e i
    pub snug : Snug s.mesh.triangles s.tree.index t

  both : (a b : Bool) → (a && b) ≡ true → T a × T b
  both true true e = (tt, tt)
  both true false e = absurd (true≢false (sym e))
  both false b e = absurd (true≢false (sym e))

  encloses_leaf : (i : ℕ) → kind_at s.tree.links i ≡ 1
      → encloses s i (node_of s.tree i) ≡ holds_each s.mesh.triangles s.tree.index (box_at s.tree.boxes i) (count_at s.tree.links i) (L s i)
  unfolding encloses node_at linked
  encloses_leaf i k = rw (eq-eqb (kind_at s.tree.links i) 1 k)

  held_by : (i : ℕ) → i < nodes s → kind_at s.tree.links i ≡ 1 → holds_each s.mesh.triangles s.tree.index (box_at s.tree.boxes i) (count_at s.tree.links i) (L s i) ≡ true
  unfolding breaks_6
  held_by i l k = sym (encloses_leaf i k) ∙ not-false (encloses s i (node_of s.tree i)) (close i l)

  encloses_inner : (i : ℕ) → kind_at s.tree.links i ≡ 0
      → encloses s i (node_of s.tree i) ≡ contains (box_at s.tree.boxes i) (box_at s.tree.boxes (L s i)) && contains (box_at s.tree.boxes i) (box_at s.tree.boxes (R s i))
  unfolding encloses node_at linked left_of right_of
  encloses_inner i k = rw (ne_eqb (kind_at s.tree.links i) 1 (λ z. omega arith))

  enclosed : (i : ℕ) → i < nodes s → kind_at s.tree.links i ≡ 0
      → T (contains (box_at s.tree.boxes i) (box_at s.tree.boxes (L s i))) × T (contains (box_at s.tree.boxes i) (box_at s.tree.boxes (R s i)))
  unfolding breaks_6
  enclosed i l k =
      both (contains (box_at s.tree.boxes i) (box_at s.tree.boxes (L s i))) (contains (box_at s.tree.boxes i) (box_at s.tree.boxes (R s i)))
      (sym (encloses_inner i k) ∙ not-false (encloses s i (node_of s.tree i)) (close i l))

  bounds_at_lem : (i : ℕ) → Good s i → T (bounded (box_at s.tree.boxes i))
  bounds_at_lem i (leafy k h o b) = b
  bounds_at_lem i (inner k c h b) = b

  leaf_stands : (e i : ℕ) → i < nodes s → kind_at s.tree.links i ≡ 1 → L s i + count_at s.tree.links i ≤ length s.tree.index → 0 < count_at s.tree.links i → T (bounded (box_at s.tree.boxes i))
      → Stands e i (leaf (box_at s.tree.boxes i) (L s i) (count_at s.tree.links i))
  unfolding node_at linked
  leaf_stands e i l k h o b = record {
    holds = record { bounds = refl; first = refl; count = refl; kind = k; inside = h };
    shallow = omega arith;
    box_is = refl;
    nested = bounded_usable (box_at s.tree.boxes i) b;
    size_is = sym (total_leaf s (λ k. 1) e i k);
    held_is = sym (total_leaf s (count_at s.tree.links) e i k);
    finite = b;
    occupied = o;
    covering_is = λ q. sym (total_leaf s (λ k. tick (covered s q k)) e i k ∙ ap tick (in_leaf s i q k));
    snug = each_held s.mesh.triangles s.tree.index (box_at s.tree.boxes i) (count_at s.tree.links i) (L s i) (held_by i l k);
  }

  inner_stands : (e i : ℕ) (u v : Tree) → i < nodes s → kind_at s.tree.links i ≡ 0 → count_at s.tree.links i ≡ 0 → R s i < nodes s → T (bounded (box_at s.tree.boxes i))
      → Stands e (L s i) u → Stands e (R s i) v → Stands (suc e) i (internal (box_at s.tree.boxes i) u v)
  unfolding node_at linked left_of right_of
  inner_stands e i u v l k c h b x y = record {
    holds = (record { bounds = refl; count = c; kind = k; left_there = omega arith; right_there = h }, x.holds, y.holds);
    shallow = omega (arith, x.shallow, y.shallow);
    box_is = refl;
    nested = (
      bounded_usable (box_at s.tree.boxes i) b,
      (rw x.box_is (bounds_at_lem (L s i) (sound (L s i) (omega arith))), rw x.box_is (enclosed i l k).0),
      (rw y.box_is (bounds_at_lem (R s i) (sound (R s i) h)), rw y.box_is (enclosed i l k).1),
      x.nested,
      y.nested,
    );
    size_is = omega (arith, total_inner s (λ k. 1) e i k, x.size_is, y.size_is);
    held_is = omega (arith, total_inner s (count_at s.tree.links) e i k, x.held_is, y.held_is);
    finite = (b, x.finite, y.finite);
    occupied = (x.occupied, y.occupied);
    covering_is = λ q. omega (arith, total_inner s (λ k. tick (covered s q k)) e i k, ap tick (not_in s i q k), x.covering_is q, y.covering_is q);
    snug = (x.snug, y.snug);
  }

  stand_0 : (i : ℕ) → i < nodes s → Late 0 i → Good s i → Stands 0 i (grow s 0 i)
  stand_0 i l f (leafy k h o b) = subst (λ (t : Tree). Stands 0 i t) (sym (grow_leaf s 0 i k)) (leaf_stands 0 i l k h o b)
  stand_0 i l f (inner k c h b) = absurd (late_none i l k (omega arith) f)

  stand : (e i : ℕ) → i < nodes s → Late (suc e) i → Good s i → ((j : ℕ) → j < nodes s → Late e j → Stands e j (grow s e j)) → Stands (suc e) i (grow s (suc e) i)
  stand e i l f (leafy k h o b) r = subst (λ (t : Tree). Stands (suc e) i t) (sym (grow_leaf s (suc e) i k)) (leaf_stands (suc e) i l k h o b)
  stand e i l f (inner k c h b) r =
      subst (λ (t : Tree). Stands (suc e) i t) (sym (grow_inner s e i k))
      (inner_stands e i (grow s e (L s i)) (grow s e (R s i)) l k c h b
      (r (L s i) (omega arith) (left_late e i l k h f)) (r (R s i) h (right_late e i l k h f)))

  stands : (e i : ℕ) → i < nodes s → Late e i → Stands e i (grow s e i)
  stands zero i l f = stand_0 i l f (sound i l)
  stands (suc e) i l f = stand e i l f (sound i l) (λ j m g. stands e j m g)

  pub whole_stands : Stands deepest 0 (grow s deepest 0)
  whole_stands = stands deepest 0 some (late_all 0)
