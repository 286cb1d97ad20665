-- A tree as rule G2 asks of one has each node number once: a node but 0 stands in it as often as its parent, node 0 once, and they are as many as there
-- are nodes. So what is summed over the tree is what is summed over the nodes. Assumes nothing.
use mathlib.Core.Path.{◌≡◌, refl, sym, ◌∙◌, ap, subst}
use mathlib.Core.Bool.{Bool, true, false}
use mathlib.Core.Logic.{◌⊎◌, inl, inr, ⊎_elim}
use Prim.Native.Nat.{ℕ, zero, suc, ◌+◌, ◌*◌, ◌≤◌, ◌<◌}
use native.Mathlib.Nat.{add-mul, one-mul, zero-mul}
use native.Mathlib.Omega.{arith}
use lib.Dec.{eqb}
use borrow.Author.Tests.{eq-eqb, ne_eqb}
use Rattle.float.proofs.Cases.{same?}
use Rattle.tree.specs.Lent.{Lists, node_count}
use Rattle.tree.specs.Node.{node_of, left_of, right_of}
use Rattle.tree.specs.Tree.{Tree, leaf, internal, below, size}
use Rattle.tree.specs.Holds.{Holds, ChildOf, OnlyChild}
use Rattle.accept.specs.Count.{tick}
use Rattle.trusted.proofs.Sums.{sum, sum_same, sum_add, share, sum_one, all_ones}

module _ (s : Lists) where
  abbrev N : ℕ
  N = node_count s.links

  abbrev L : ℕ → ℕ
  L i = left_of i (node_of s i)

  abbrev R : ℕ → ℕ
  R i = right_of i (node_of s i)

  -- how often node j stands below the root, which is node i, and in the whole tree
  pub under : ℕ → ℕ → Tree → ℕ
  under j i (leaf b p c) = 0
  under j i (internal b u v) = tick (eqb j (L i)) + under j (L i) u + (tick (eqb j (R i)) + under j (R i) v)

  abbrev pub standing : ℕ → ℕ → Tree → ℕ
  standing j i t = tick (eqb j i) + under j i t

  -- what its nodes have together
  unfoldable pub over : (ℕ → ℕ) → ℕ → Tree → ℕ
  over g i (leaf b p c) = g i
  over g i (internal b u v) = g i + (over g (L i) u + over g (R i) v)

  -- ---- as many as there are nodes in the tree
  lone : (i : ℕ) → i < N → sum (λ j. tick (eqb j i)) N ≡ 1
  lone i l = sum_one (λ j. 1) i N l

  none_under : (n : ℕ) → sum (λ j. 0) n ≡ 0
  unfolding sum
  none_under zero = refl
  none_under (suc n) = omega (arith, none_under n)

  all_under : (i : ℕ) (t : Tree) → Holds s i t → sum (λ j. under j i t) N ≡ below t
  unfolding under
  all_under i (leaf b p c) h = none_under N
  all_under i (internal b u v) h =
      let a = sum_add (λ j. tick (eqb j (L i)) + under j (L i) u) (λ j. tick (eqb j (R i)) + under j (R i) v) N in
      let x = sum_add (λ j. tick (eqb j (L i))) (λ j. under j (L i) u) N in
      let y = sum_add (λ j. tick (eqb j (R i))) (λ j. under j (R i) v) N in
      omega (arith, a, x, y, lone (L i) h.0.left_there, lone (R i) h.0.right_there, all_under (L i) u h.1, all_under (R i) v h.2)

  all_standing : (i : ℕ) (t : Tree) → i < N → Holds s i t → sum (λ j. standing j i t) N ≡ size t
  all_standing i t l h = omega (arith, sum_add (λ j. tick (eqb j i)) (λ j. under j i t) N, lone i l, all_under i t h)

  -- ---- one for each parent
  apart : (i : ℕ) → R i ≡ L i → ⊥
  unfolding left_of right_of
  apart i e = omega arith

  -- the children of node i, as often as its parent is node i
  module _ (j p : ℕ) (child : ChildOf s p j) (only : (i : ℕ) → i < N → ChildOf s i j → i ≡ p) where
    not_right : j ≡ L p → j ≡ R p → ⊥
    not_right e f = apart p (sym f ∙ e)

    here : (j ≡ L p) ⊎ (j ≡ R p) → tick (eqb j (L p)) + tick (eqb j (R p)) ≡ 1
    here (inl e) = omega (arith, ap tick (eq-eqb j (L p) e), ap tick (ne_eqb j (R p) (not_right e)))
    here (inr e) = omega (arith, ap tick (eq-eqb j (R p) e), ap tick (ne_eqb j (L p) (λ f. not_right f e)))

    as_often : (i : ℕ) → i < N → (node_of s i).kind ≡ 0 → tick (eqb j (L i)) + tick (eqb j (R i)) ≡ tick (eqb p i)
    as_often i l k =
        ⊎_elim (λ e. subst (λ (z : ℕ). tick (eqb j (L z)) + tick (eqb j (R z)) ≡ 1) e (here child.1) ∙ sym (ap tick (eq-eqb p i e)))
        (λ n. omega (arith, ap tick (ne_eqb j (L i) (λ e. n (sym (only i l (k, inl e))))), ap tick (ne_eqb j (R i) (λ e. n (sym (only i l (k, inr e))))), ap tick (ne_eqb p i n)))
        (same? p i)

    under_parent : (i : ℕ) (t : Tree) → i < N → Holds s i t → under j i t ≡ standing p i t
    unfolding under
    under_parent i (leaf b q c) l h = sym (omega (arith, ap tick (ne_eqb p i (λ e. omega (arith, ap (λ (z : ℕ). (node_of s z).kind) e, h.kind, child.0)))))
    under_parent i (internal b u v) l h =
        omega
        (arith, as_often i l h.0.kind, under_parent (L i) u h.0.left_there h.1, under_parent (R i) v h.0.right_there h.2)

  under_root : ((i : ℕ) → i < N → ChildOf s i 0 → ⊥) → (i : ℕ) (t : Tree) → i < N → Holds s i t → under 0 i t ≡ 0
  unfolding under
  under_root root i (leaf b p c) l h = refl
  under_root root i (internal b u v) l h =
      omega
      (arith, ap tick (ne_eqb 0 (L i) (λ e. root i l (h.0.kind, inl e))), ap tick (ne_eqb 0 (R i) (λ e. root i l (h.0.kind, inr e))), under_root root (L i) u h.0.left_there h.1, under_root root (R i) v h.0.right_there h.2)

  -- ---- node j stands in the tree at node i: so it is i, or in a part
  pub data In (j i : ℕ) (u v : Tree) : Type 0 where
    at_root : j ≡ i → In j i u v
    on_left : 0 < standing j (L i) u → In j i u v
    on_right : 0 < standing j (R i) v → In j i u v

  some_of : (a b c : ℕ) → 0 < a + (b + c) → (0 < a) ⊎ ((0 < b) ⊎ (0 < c))
  some_of zero zero c h = inr (inr (omega arith))
  some_of zero (suc b) c h = inr (inl (omega arith))
  some_of (suc a) b c h = inl (omega arith)

  same_number : (j i : ℕ) → 0 < tick (eqb j i) → j ≡ i
  same_number j i h = ⊎_elim (λ e. e) (λ n. absurd (omega (arith, ap tick (ne_eqb j i n)))) (same? j i)

  pub in_part : (j i : ℕ) (b : _) (u v : Tree) → 0 < standing j i (internal b u v) → In j i u v
  unfolding under
  in_part j i b u v h =
      ⊎_elim (λ x. at_root (same_number j i x)) (λ y. ⊎_elim (λ x. on_left x) (λ x. on_right x) y) (some_of (tick (eqb j i)) (standing j (L i) u) (standing j (R i) v) h)

  pub in_leaf : (j i : ℕ) (b : _) (p c : ℕ) → 0 < standing j i (leaf b p c) → j ≡ i
  unfolding under
  in_leaf j i b p c h = same_number j i (omega arith)

  -- ---- the whole tree
  module _ (t : Tree) (holds : Holds s 0 t) (some : 0 < N) (sized : N ≡ size t) (root : (i : ℕ) → i < N → ChildOf s i 0 → ⊥)
      (once : (j : ℕ) → 0 < j → j < N → OnlyChild s j) where
    root_once : standing 0 0 t ≡ 1
    root_once = omega (arith, ap tick (eq-eqb 0 0 refl), under_root root 0 t some holds)

    -- a child stands there as often as its parent
    child_once : (i j : ℕ) → i < N → j < N → ChildOf s i j → standing j 0 t ≡ standing i 0 t
    child_once i j l m c =
        ⊎_elim (λ e. absurd (root i l (subst (λ (z : ℕ). ChildOf s i z) e c)))
        (λ n.
        let o = once j (omega arith) m in
        omega
        (arith, ap tick (ne_eqb j 0 n), under_parent j o.parent o.child o.only 0 t some holds, ap (λ (z : ℕ). standing z 0 t) (o.only i l c)))
        (same? j 0)

    each_once : (i : ℕ) (u : Tree) → i < N → Holds s i u → standing i 0 t ≡ 1 → (j : ℕ) → 0 < standing j i u → standing j 0 t ≡ 1
    each_once i (leaf b p c) l h e j x = ap (λ (z : ℕ). standing z 0 t) (in_leaf j i b p c x) ∙ e
    each_once i (internal b u v) l h e j x =
        by (in_part j i b u v x)
        (each_once (L i) u h.0.left_there h.1 (child_once i (L i) l h.0.left_there (h.0.kind, inl refl) ∙ e) j)
        (each_once (R i) v h.0.right_there h.2 (child_once i (R i) l h.0.right_there (h.0.kind, inr refl) ∙ e) j)
      where
        by : In j i u v → (0 < standing j (L i) u → standing j 0 t ≡ 1) → (0 < standing j (R i) v → standing j 0 t ≡ 1) → standing j 0 t ≡ 1
        by (at_root w) f g = ap (λ (z : ℕ). standing z 0 t) w ∙ e
        by (on_left y) f g = f y
        by (on_right y) f g = g y

    at_most_once : (j : ℕ) → standing j 0 t ≤ 1
    at_most_once j = go (standing j 0 t) refl
      where
        go : (k : ℕ) → standing j 0 t ≡ k → standing j 0 t ≤ 1
        go zero e = omega arith
        go (suc k) e = let x : 0 < standing j 0 t = omega arith in omega (arith, each_once 0 t some holds root_once j x)

    pub stands_once : (j : ℕ) → j < N → standing j 0 t ≡ 1
    stands_once j l = all_ones (λ j. standing j 0 t) N (λ j m. at_most_once j) (all_standing 0 t some holds ∙ sym sized) j l

    -- ---- what is summed over it
    times_tick : (b : Bool) (x : ℕ) → tick b * x ≡ share b x
    times_tick true x = one-mul x
    times_tick false x = zero-mul x

    spread : (g : ℕ → ℕ) (i : ℕ) (u : Tree) → i < N → Holds s i u → over g i u ≡ sum (λ j. standing j i u * g j) N
    unfolding over under
    spread g i (leaf b p c) l h =
        sym (sum_same (λ j. (tick (eqb j i) + 0) * g j) (λ j. share (eqb j i) (g j)) N (λ j m. ap (λ (z : ℕ). z * g j) (more (tick (eqb j i))) ∙ times_tick (eqb j i) (g j)) ∙ sum_one g i N l)
      where
        more : (z : ℕ) → z + 0 ≡ z
        more z = omega arith
    spread g i (internal b u v) l h =
        let x = spread g (L i) u h.0.left_there h.1 in
        let y = spread g (R i) v h.0.right_there h.2 in
        let a = sum_same (λ j. (tick (eqb j i) + (standing j (L i) u + standing j (R i) v)) * g j) (λ j. share (eqb j i) (g j) + (standing j (L i) u * g j + standing j (R i) v * g j)) N (λ j m. parts (eqb j i) (standing j (L i) u) (standing j (R i) v) (g j)) in
        let c = sum_add (λ j. share (eqb j i) (g j)) (λ j. standing j (L i) u * g j + standing j (R i) v * g j) N in
        let d = sum_add (λ j. standing j (L i) u * g j) (λ j. standing j (R i) v * g j) N in
        omega (arith, x, y, a, c, d, sum_one g i N l)
      where
        parts : (t : Bool) (x y w : ℕ) → (tick t + (x + y)) * w ≡ share t w + (x * w + y * w)
        parts t x y w = add-mul (tick t) (x + y) w ∙ ap (λ (z : ℕ). z + (x + y) * w) (times_tick t w) ∙ ap (λ (z : ℕ). share t w + z) (add-mul x y w)

    pub over_all : (g : ℕ → ℕ) → over g 0 t ≡ sum g N
    over_all g = spread g 0 t some holds ∙ sum_same (λ j. standing j 0 t * g j) g N (λ j l. ap (λ (z : ℕ). z * g j) (stands_once j l) ∙ one-mul (g j))
