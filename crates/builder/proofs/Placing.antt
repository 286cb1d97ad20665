-- A tree laid out is held by the lists, each node at its number, and every node but the root is the child of exactly one. Assumes nothing.
use mathlib.Core.Path.{◌≡◌, refl, ◌∙◌, ap, subst⁻¹}
use Prim.Native.Nat.{ℕ, ◌+◌, ◌*◌, ◌/◌, ◌≤◌, ◌<◌}
use native.Mathlib.Omega.{arith}
use mathlib.Core.Logic.{◌⊎◌, inl, inr, ⊎_elim}
use mathlib.Core.List.{List, [], ◌∷◌}
use lib.ListN.{length, get_or}
use lib.Ieee.{Float, nan}
use Rattle.lent.specs.Flat.{put}
use Rattle.lent.proofs.Flat.{put_here, put_elsewhere, length_put}
use Rattle.float.proofs.Cases.{low_or_high}
use Rattle.aabb.specs.Bounds.{box_at}
use Rattle.aabb.specs.Vector.{vector_at}
use Rattle.aabb.specs.declared.bounds.Aabb.{Aabb}
use Rattle.builder.specs.Layout.{box_numbers, box_put, boxes_of, link_put, links_of}
use Rattle.tree.specs.Lent.{lists_of}
use Rattle.tree.specs.Node.{linked, node_at, left_of, right_of}
use Rattle.tree.specs.Holds.{Holds, ChildOf, OnlyChild}
use Rattle.builder.specs.Runs.{Runs}
use Rattle.builder.proofs.InOrder.{runs_up}
use Rattle.tree.specs.Tree.{Tree, below, size, internal, leaf}

-- ---- the second and the third number of a box's upper corner
pub second : (n : ℕ) → n * 6 + 3 + 1 ≡ n * 6 + 4
second n = omega arith

pub third : (n : ℕ) → n * 6 + 3 + 2 ≡ n * 6 + 5
third n = omega arith

-- ---- the links of a node
abbrev pub first_at : List ℕ → ℕ → ℕ
first_at links i = get_or links (i * 3) 0

abbrev pub count_at : List ℕ → ℕ → ℕ
count_at links i = get_or links (i * 3 + 1) 0

abbrev pub kind_at : List ℕ → ℕ → ℕ
kind_at links i = get_or links (i * 3 + 2) 0

-- ---- a node, written and read
pub record NodeIs (bs : List Float) (ls : List ℕ) (i : ℕ) (b : Aabb) (f c k : ℕ) : Type 0 where
  pub box_is : box_at bs i ≡ b
  pub first_is : first_at ls i ≡ f
  pub count_is : count_at ls i ≡ c
  pub kind_is : kind_at ls i ≡ k

pub record SameAt (bs bs' : List Float) (ls ls' : List ℕ) (i : ℕ) : Type 0 where
  pub box : box_at bs' i ≡ box_at bs i
  pub first : first_at ls' i ≡ first_at ls i
  pub count : count_at ls' i ≡ count_at ls i
  pub kind : kind_at ls' i ≡ kind_at ls i

same_node : (bs bs' : List Float) (ls ls' : List ℕ) (i : ℕ) (b : Aabb) (f c k : ℕ) → SameAt bs bs' ls ls' i → NodeIs bs ls i b f c k → NodeIs bs' ls' i b f c k
same_node bs bs' ls ls' i b f c k s n = record { box_is = s.box ∙ n.box_is; first_is = s.first ∙ n.first_is; count_is = s.count ∙ n.count_is; kind_is = s.kind ∙ n.kind_is }

same_both : (bs bs' bs'' : List Float) (ls ls' ls'' : List ℕ) (i : ℕ) → SameAt bs bs' ls ls' i → SameAt bs' bs'' ls' ls'' i → SameAt bs bs'' ls ls'' i
same_both bs bs' bs'' ls ls' ls'' i s t = record { box = t.box ∙ s.box; first = t.first ∙ s.first; count = t.count ∙ s.count; kind = t.kind ∙ s.kind }

pub box_numbers_lem : (bs bs' : List Float) (i : ℕ) → ((k : ℕ) → i * 6 ≤ k → k < i * 6 + 6 → get_or bs' k nan ≡ get_or bs k nan) → box_at bs' i ≡ box_at bs i
unfolding box_at vector_at
box_numbers_lem bs bs' i f =
    rw (
      f (i * 6) (omega arith) (omega arith),
      f (i * 6 + 1) (omega arith) (omega arith),
      f (i * 6 + 2) (omega arith) (omega arith),
      f (i * 6 + 3) (omega arith) (omega arith),
      f (i * 6 + 3 + 1) (omega arith) (omega arith),
      f (i * 6 + 3 + 2) (omega arith) (omega arith),
    )

pub same_numbers : (bs bs' : List Float) (ls ls' : List ℕ) (i : ℕ) → ((k : ℕ) → i * 6 ≤ k → k < i * 6 + 6 → get_or bs' k nan ≡ get_or bs k nan) → ((k : ℕ) → i * 3 ≤ k → k < i * 3 + 3 → get_or ls' k 0 ≡ get_or ls k 0)
    → SameAt bs bs' ls ls' i
same_numbers bs bs' ls ls' i f g = record {
  box = box_numbers_lem bs bs' i f;
  first = g (i * 3) (omega arith) (omega arith);
  count = g (i * 3 + 1) (omega arith) (omega arith);
  kind = g (i * 3 + 2) (omega arith) (omega arith);
}

module _ (bs : List Float) (n : ℕ) (b : Aabb) where
  pub box_other : (k : ℕ) → (k < n * 6) ⊎ (n * 6 + 6 ≤ k) → get_or (box_put bs n b) k nan ≡ get_or bs k nan
  unfolding box_put
  box_other k far = put_elsewhere 6 bs n (box_numbers b) k nan far

  pub box_here : n * 6 + 6 ≤ length bs → box_at (box_put bs n b) n ≡ b
  unfolding box_put box_at vector_at
  box_here h =
      rw (
        at (n * 6) 0 (omega arith) (omega arith),
        at (n * 6 + 1) 1 (omega arith) refl,
        at (n * 6 + 2) 2 (omega arith) refl,
        at (n * 6 + 3) 3 (omega arith) refl,
        at (n * 6 + 3 + 1) 4 (omega arith) (omega arith),
        at (n * 6 + 3 + 2) 5 (omega arith) (omega arith),
      )
    where
      at : (p k : ℕ) → k < 6 → p ≡ n * 6 + k → get_or (put 6 bs n (box_numbers b)) p nan ≡ get_or (box_numbers b) k nan
      at p k l e = put_here 6 bs n (box_numbers b) p k nan h l e

module _ (ls : List ℕ) (n f c k : ℕ) where
  pub link_other : (i : ℕ) → (i < n * 3) ⊎ (n * 3 + 3 ≤ i) → get_or (link_put ls n f c k) i 0 ≡ get_or ls i 0
  unfolding link_put
  link_other i far = put_elsewhere 3 ls n (f ∷ c ∷ k ∷ []) i 0 far

  -- number j of the three
  link_here : (p j : ℕ) → n * 3 + 3 ≤ length ls → j < 3 → p ≡ n * 3 + j → get_or (link_put ls n f c k) p 0 ≡ get_or (f ∷ c ∷ k ∷ []) j 0
  unfolding link_put
  link_here p j h l e = put_here 3 ls n (f ∷ c ∷ k ∷ []) p j 0 h l e

put_node : (bs : List Float) (ls : List ℕ) (n : ℕ) (b : Aabb) (f c k : ℕ) → n * 6 + 6 ≤ length bs → n * 3 + 3 ≤ length ls → NodeIs (box_put bs n b) (link_put ls n f c k) n b f c k
put_node bs ls n b f c k h g = record { box_is = box_here bs n b h; first_is = link_here ls n f c k (n * 3) 0 g (omega arith) (omega arith); count_is = link_here ls n f c k (n * 3 + 1) 1 g (omega arith) refl; kind_is = link_here ls n f c k (n * 3 + 2) 2 g (omega arith) refl }

-- ---- lengths
pub box_length : (bs : List Float) (n : ℕ) (b : Aabb) → length (box_put bs n b) ≡ length bs
unfolding box_put
box_length bs n b = length_put 6 bs n (box_numbers b)

link_length : (ls : List ℕ) (n f c k : ℕ) → length (link_put ls n f c k) ≡ length ls
unfolding link_put
link_length ls n f c k = length_put 3 ls n (f ∷ c ∷ k ∷ [])

pub boxes_length : (t : Tree) (node next : ℕ) (bs : List Float) → length (boxes_of t node next bs) ≡ length bs
unfolding boxes_of
boxes_length (leaf b f c) node next bs = box_length bs node b
boxes_length (internal b l r) node next bs =
    boxes_length r (next + 1) (next + 2 + below l) (boxes_of l next (next + 2) (box_put bs node b)) ∙ boxes_length l next (next + 2) (box_put bs node b) ∙ box_length bs node b

pub links_length : (t : Tree) (node next : ℕ) (ls : List ℕ) → length (links_of t node next ls) ≡ length ls
unfolding links_of
links_length (leaf b f c) node next ls = link_length ls node f c 1
links_length (internal b l r) node next ls =
    links_length r (next + 1) (next + 2 + below l) (links_of l next (next + 2) (link_put ls node next 0 0)) ∙ links_length l next (next + 2) (link_put ls node next 0 0) ∙ link_length ls node next 0 0

-- ---- the nodes of a tree whose root is at node and whose others are from next on
abbrev pub Of : ℕ → ℕ → Tree → ℕ → Type 0
Of node next t j = (j ≡ node) ⊎ ((next ≤ j) × (j < next + below t))

abbrev Apart : ℕ → ℕ → Tree → ℕ → Type 0
Apart node next t j = ((j < node) ⊎ (node < j)) × ((j < next) ⊎ (next + below t ≤ j))

module _ (b : Aabb) (l r : Tree) (node next j : ℕ) where
  of_left : Of next (next + 2) l j → Of node next (internal b l r) j
  of_left w = ⊎_elim (λ e. inr (omega arith, omega arith)) (λ q. let x = q.0 in let y = q.1 in inr (omega arith, omega arith)) w

  of_right : Of (next + 1) (next + 2 + below l) r j → Of node next (internal b l r) j
  of_right w = ⊎_elim (λ e. inr (omega arith, omega arith)) (λ q. let x = q.0 in let y = q.1 in inr (omega arith, omega arith)) w

  apart_left : node < next → Apart node next (internal b l r) j → Apart next (next + 2) l j
  apart_left h w = (⊎_elim (λ u. inl u) (λ u. inr (omega arith)) w.1, ⊎_elim (λ u. inl (omega arith)) (λ u. inr (omega arith)) w.1)

  apart_right : node < next → Apart node next (internal b l r) j → Apart (next + 1) (next + 2 + below l) r j
  apart_right h w = (⊎_elim (λ u. inl (omega arith)) (λ u. inr (omega arith)) w.1, ⊎_elim (λ u. inl (omega arith)) (λ u. inr (omega arith)) w.1)

  -- a node of the left half is apart from the right half
  left_apart : Of next (next + 2) l j → Apart (next + 1) (next + 2 + below l) r j
  left_apart w =
      ⊎_elim (λ e. (inl (omega arith), inl (omega arith)))
      (λ q. let x = q.0 in let y = q.1 in (inr (omega arith), inl (omega arith))) w

  root_apart_left : node < next → j ≡ node → Apart next (next + 2) l j
  root_apart_left h e = (inl (omega arith), inl (omega arith))

  root_apart_right : node < next → j ≡ node → Apart (next + 1) (next + 2 + below l) r j
  root_apart_right h e = (inl (omega arith), inl (omega arith))

-- ---- a layout leaves all other nodes as they were
boxes_other : (t : Tree) (node next j : ℕ) (bs : List Float) → node < next → Apart node next t j → (k : ℕ) → j * 6 ≤ k → k < j * 6 + 6 → get_or (boxes_of t node next bs) k nan ≡ get_or bs k nan
unfolding boxes_of
boxes_other (leaf b f c) node next j bs h w k p q = box_other bs node b k (⊎_elim (λ u. inl (omega arith)) (λ u. inr (omega arith)) w.0)
boxes_other (internal b l r) node next j bs h w k p q =
    boxes_other r (next + 1) (next + 2 + below l) j (boxes_of l next (next + 2) (box_put bs node b)) (omega arith) (apart_right b l r node next j h w) k p q
    ∙ boxes_other l next (next + 2) j (box_put bs node b) (omega arith) (apart_left b l r node next j h w) k p q
    ∙ box_other bs node b k (⊎_elim (λ u. inl (omega arith)) (λ u. inr (omega arith)) w.0)

links_other : (t : Tree) (node next j : ℕ) (ls : List ℕ) → node < next → Apart node next t j → (k : ℕ) → j * 3 ≤ k → k < j * 3 + 3 → get_or (links_of t node next ls) k 0 ≡ get_or ls k 0
unfolding links_of
links_other (leaf b f c) node next j ls h w k p q = link_other ls node f c 1 k (⊎_elim (λ u. inl (omega arith)) (λ u. inr (omega arith)) w.0)
links_other (internal b l r) node next j ls h w k p q =
    links_other r (next + 1) (next + 2 + below l) j (links_of l next (next + 2) (link_put ls node next 0 0)) (omega arith) (apart_right b l r node next j h w) k p q
    ∙ links_other l next (next + 2) j (link_put ls node next 0 0) (omega arith) (apart_left b l r node next j h w) k p q
    ∙ link_other ls node next 0 0 k (⊎_elim (λ u. inl (omega arith)) (λ u. inr (omega arith)) w.0)

other_same : (t : Tree) (node next j : ℕ) (bs : List Float) (ls : List ℕ) → node < next → Apart node next t j → SameAt bs (boxes_of t node next bs) ls (links_of t node next ls) j
other_same t node next j bs ls h w = same_numbers bs (boxes_of t node next bs) ls (links_of t node next ls) j (boxes_other t node next j bs h w) (links_other t node next j ls h w)

-- ---- the tree stands at its numbers
pub data Placed (bs : List Float) (ls : List ℕ) : ℕ → ℕ → Tree → Type 0 where
  at_leaf : {node next : ℕ} {b : Aabb} {f c : ℕ} → NodeIs bs ls node b f c 1 → Placed bs ls node next (leaf b f c)
  at_fork : {node next : ℕ} {b : Aabb} {l r : Tree} → NodeIs bs ls node b next 0 0 → Placed bs ls next (next + 2) l → Placed bs ls (next + 1) (next + 2 + below l) r → Placed bs ls node next (internal b l r)

pub placed_same : (t : Tree) (node next : ℕ) (bs bs' : List Float) (ls ls' : List ℕ) → ((j : ℕ) → Of node next t j → SameAt bs bs' ls ls' j) → Placed bs ls node next t → Placed bs' ls' node next t
placed_same (leaf b f c) node next bs bs' ls ls' s (at_leaf n) = at_leaf (same_node bs bs' ls ls' node b f c 1 (s node (inl refl)) n)
placed_same (internal b l r) node next bs bs' ls ls' s (at_fork n p q) =
    at_fork (same_node bs bs' ls ls' node b next 0 0 (s node (inl refl)) n)
    (placed_same l next (next + 2) bs bs' ls ls' (λ j w. s j (of_left b l r node next j w)) p)
    (placed_same r (next + 1) (next + 2 + below l) bs bs' ls ls' (λ j w. s j (of_right b l r node next j w)) q)

pub placed : (t : Tree) (node next : ℕ) (bs : List Float) (ls : List ℕ) → node < next → (next + below t) * 6 ≤ length bs → (next + below t) * 3 ≤ length ls → Placed (boxes_of t node next bs) (links_of t node next ls) node next t
unfolding boxes_of links_of
placed (leaf b f c) node next bs ls h g k = at_leaf (put_node bs ls node b f c 1 (omega arith) (omega arith))
placed (internal b l r) node next bs ls h g k =
    let B1 = box_put bs node b in
    let L1 = link_put ls node next 0 0 in
    let B2 = boxes_of l next (next + 2) (box_put bs node b) in
    let L2 = links_of l next (next + 2) (link_put ls node next 0 0) in
    let e1 = box_length bs node b in
    let e2 = boxes_length l next (next + 2) (box_put bs node b) in
    let f1 = link_length ls node next 0 0 in
    let f2 = links_length l next (next + 2) (link_put ls node next 0 0) in
    at_fork
    (same_node B1 (boxes_of r (next + 1) (next + 2 + below l) B2) L1 (links_of r (next + 1) (next + 2 + below l) L2) node b next 0 0
    (same_both B1 B2 (boxes_of r (next + 1) (next + 2 + below l) B2) L1 L2 (links_of r (next + 1) (next + 2 + below l) L2) node
    (other_same l next (next + 2) node B1 L1 (omega arith) (root_apart_left b l r node next node h refl))
    (other_same r (next + 1) (next + 2 + below l) node B2 L2 (omega arith) (root_apart_right b l r node next node h refl)))
    (put_node bs ls node b next 0 0 (omega arith) (omega arith)))
    (placed_same l next (next + 2) B2 (boxes_of r (next + 1) (next + 2 + below l) B2) L2 (links_of r (next + 1) (next + 2 + below l) L2)
    (λ j w. other_same r (next + 1) (next + 2 + below l) j B2 L2 (omega arith) (left_apart b l r node next j w))
    (placed l next (next + 2) B1 L1 (omega arith) (omega arith) (omega arith)))
    (placed r (next + 1) (next + 2 + below l) B2 L2 (omega arith) (omega arith) (omega arith))

-- ---- so the lists hold it
pub held : (index : List ℕ) (bs : List Float) (ls : List ℕ) (t : Tree) (node next a z : ℕ) → Placed bs ls node next t → Runs a z t → z ≤ length index → next + below t ≤ length ls / 3 → Holds (lists_of index bs ls) node t
unfolding linked node_at left_of right_of
held index bs ls (leaf b f c) node next a z (at_leaf n) w h k =
    let e = w.0 in
    let g = w.1 in
    record { bounds = n.box_is; first = n.first_is; count = n.count_is; kind = n.kind_is; inside = omega arith }
held index bs ls (internal b l r) node next a z (at_fork n p q) w h k =
    let e = n.first_is in
    let v = runs_up w.0 z r w.2 in (
      record { bounds = n.box_is; count = n.count_is; kind = n.kind_is; left_there = omega arith; right_there = omega arith },
      subst⁻¹ (λ (i : ℕ). Holds (lists_of index bs ls) i l) e (held index bs ls l next (next + 2) a w.0 p w.1 (omega arith) (omega arith)),
      subst⁻¹ (λ (i : ℕ). Holds (lists_of index bs ls) (i + 1) r) e (held index bs ls r (next + 1) (next + 2 + below l) w.0 z q w.2 h (omega arith)),
    )

-- ---- every node but the root is the child of exactly one
-- node j is a child of node i, told by the links
abbrev Child : List ℕ → ℕ → ℕ → Type 0
Child ls i j = (kind_at ls i ≡ 0) × ((j ≡ first_at ls i) ⊎ (j ≡ first_at ls i + 1))

split_of : (b : Aabb) (l r : Tree) (node next j : ℕ) → Of node next (internal b l r) j → (j ≡ node) ⊎ (Of next (next + 2) l j ⊎ Of (next + 1) (next + 2 + below l) r j)
split_of b l r node next j (inl e) = inl e
split_of b l r node next j (inr q) = inr (go (low_or_high j (next + 1)) (low_or_high j (next + 2)) (low_or_high j (next + 2 + below l)))
  where
    go : (j < next + 1) ⊎ (next + 1 ≤ j) → (j < next + 2) ⊎ (next + 2 ≤ j) → (j < next + 2 + below l) ⊎ (next + 2 + below l ≤ j) → Of next (next + 2) l j ⊎ Of (next + 1) (next + 2 + below l) r j
    go (inl u) v w = let x = q.0 in inl (inl (omega arith))
    go (inr u) (inl v) w = inr (inl (omega arith))
    go (inr u) (inr v) (inl w) = inl (inr (v, w))
    go (inr u) (inr v) (inr w) = let y = q.1 in inr (inr (w, omega arith))

root_children : (bs : List Float) (ls : List ℕ) (node next i j : ℕ) (b : Aabb) → NodeIs bs ls node b next 0 0 → i ≡ node → Child ls i j → (next ≤ j) × (j < next + 2)
root_children bs ls node next i j b n e k = let x = n.first_is in let z = ap (λ (v : ℕ). first_at ls v) e in ⊎_elim (λ u. (omega arith, omega arith)) (λ u. (omega arith, omega arith)) k.1

fork_below : (bs : List Float) (ls : List ℕ) (b : Aabb) (l r : Tree) (node next i j : ℕ) → NodeIs bs ls node b next 0 0 → Child ls i j → (Of next (next + 2) l i → (next + 2 ≤ j) × (j < next + 2 + below l))
    → (Of (next + 1) (next + 2 + below l) r i → (next + 2 + below l ≤ j) × (j < next + 2 + below l + below r)) → (i ≡ node) ⊎ (Of next (next + 2) l i ⊎ Of (next + 1) (next + 2 + below l) r i)
    → (next ≤ j) × (j < next + (2 + (below l + below r)))
fork_below bs ls b l r node next i j n k f g (inl e) = let d = root_children bs ls node next i j b n e k in let x = d.0 in let y = d.1 in (omega arith, omega arith)
fork_below bs ls b l r node next i j n k f g (inr (inl u)) = let d = f u in let x = d.0 in let y = d.1 in (omega arith, omega arith)
fork_below bs ls b l r node next i j n k f g (inr (inr u)) = let d = g u in let x = d.0 in let y = d.1 in (omega arith, omega arith)

-- a child of one of a tree's nodes is below the tree's root
below_root : (bs : List Float) (ls : List ℕ) (t : Tree) (node next i j : ℕ) → Placed bs ls node next t → Of node next t i → Child ls i j → (next ≤ j) × (j < next + below t)
below_root bs ls (leaf b f c) node next i j (at_leaf n) w k = ⊎_elim (λ e. absurd (leaf_childless e)) (λ q. let x = q.0 in let y = q.1 in absurd (omega arith)) w
  where
    leaf_childless : i ≡ node → ⊥
    leaf_childless e = let x = n.kind_is in let y = k.0 in let z = ap (λ (v : ℕ). kind_at ls v) e in omega arith
below_root bs ls (internal b l r) node next i j (at_fork n p q) w k =
    fork_below bs ls b l r node next i j n k (λ u. below_root bs ls l next (next + 2) i j p u k) (λ u. below_root bs ls r (next + 1) (next + 2 + below l) i j q u k) (split_of b l r node next i w)

pub record ParentIn (ls : List ℕ) (node next : ℕ) (t : Tree) (j : ℕ) : Type 0 where
  pub parent : ℕ
  pub inside : Of node next t parent
  pub child : Child ls parent j
  pub only : (i : ℕ) → Of node next t i → Child ls i j → i ≡ parent

module _ (bs : List Float) (ls : List ℕ) (b : Aabb) (l r : Tree) (node next j : ℕ) (n : NodeIs bs ls node b next 0 0) (p : Placed bs ls next (next + 2) l) (q : Placed bs ls (next + 1) (next + 2 + below l) r) where
  in_left : (i : ℕ) → Of next (next + 2) l i → Child ls i j → (next + 2 ≤ j) × (j < next + 2 + below l)
  in_left i u k = below_root bs ls l next (next + 2) i j p u k

  in_right : (i : ℕ) → Of (next + 1) (next + 2 + below l) r i → Child ls i j → (next + 2 + below l ≤ j) × (j < next + 2 + below l + below r)
  in_right i u k = below_root bs ls r (next + 1) (next + 2 + below l) i j q u k

  root_parent : (j ≡ next) ⊎ (j ≡ next + 1) → ParentIn ls node next (internal b l r) j
  root_parent w = record { parent = node; inside = inl refl; child = (n.kind_is, mine); only = λ i u k. go i (split_of b l r node next i u) k }
    where
      mine : (j ≡ first_at ls node) ⊎ (j ≡ first_at ls node + 1)
      mine = let x = n.first_is in ⊎_elim (λ e. inl (omega arith)) (λ e. inr (omega arith)) w

      go : (i : ℕ) → (i ≡ node) ⊎ (Of next (next + 2) l i ⊎ Of (next + 1) (next + 2 + below l) r i) → Child ls i j → i ≡ node
      go i (inl e) k = e
      go i (inr (inl u)) k = let d = in_left i u k in let x = d.0 in absurd (⊎_elim (λ e. omega arith) (λ e. omega arith) w)
      go i (inr (inr u)) k = let d = in_right i u k in let x = d.0 in absurd (⊎_elim (λ e. omega arith) (λ e. omega arith) w)

  left_parent : next + 2 ≤ j → j < next + 2 + below l → ParentIn ls next (next + 2) l j → ParentIn ls node next (internal b l r) j
  left_parent x y P = record { parent = P.parent; inside = of_left b l r node next P.parent P.inside; child = P.child; only = λ i u k. go i (split_of b l r node next i u) k }
    where
      go : (i : ℕ) → (i ≡ node) ⊎ (Of next (next + 2) l i ⊎ Of (next + 1) (next + 2 + below l) r i) → Child ls i j → i ≡ P.parent
      go i (inl e) k = let d = root_children bs ls node next i j b n e k in let z = d.1 in absurd (omega arith)
      go i (inr (inl u)) k = P.only i u k
      go i (inr (inr u)) k = let d = in_right i u k in let z = d.0 in absurd (omega arith)

  right_parent : next + 2 + below l ≤ j → ParentIn ls (next + 1) (next + 2 + below l) r j → ParentIn ls node next (internal b l r) j
  right_parent x P = record { parent = P.parent; inside = of_right b l r node next P.parent P.inside; child = P.child; only = λ i u k. go i (split_of b l r node next i u) k }
    where
      go : (i : ℕ) → (i ≡ node) ⊎ (Of next (next + 2) l i ⊎ Of (next + 1) (next + 2 + below l) r i) → Child ls i j → i ≡ P.parent
      go i (inl e) k = let d = root_children bs ls node next i j b n e k in let z = d.1 in absurd (omega arith)
      go i (inr (inl u)) k = let d = in_left i u k in let z = d.1 in absurd (omega arith)
      go i (inr (inr u)) k = P.only i u k

  one_parent : next ≤ j → j < next + (2 + (below l + below r)) → (next + 2 ≤ j → j < next + 2 + below l → ParentIn ls next (next + 2) l j)
      → (next + 2 + below l ≤ j → j < next + 2 + below l + below r → ParentIn ls (next + 1) (next + 2 + below l) r j) → (j < next + 2) ⊎ (next + 2 ≤ j) → (j < next + 2 + below l) ⊎ (next + 2 + below l ≤ j)
      → ParentIn ls node next (internal b l r) j
  one_parent x y f g (inl u) v = root_parent (⊎_elim (λ e. inl (omega arith)) (λ e. inr (omega arith)) (low_or_high j (next + 1)))
  one_parent x y f g (inr u) (inl v) = left_parent u v (f u v)
  one_parent x y f g (inr u) (inr v) = right_parent v (g v (omega arith))

pub parent_in : (bs : List Float) (ls : List ℕ) (t : Tree) (node next j : ℕ) → Placed bs ls node next t → next ≤ j → j < next + below t → ParentIn ls node next t j
parent_in bs ls (leaf b f c) node next j (at_leaf n) x y = absurd (omega arith)
parent_in bs ls (internal b l r) node next j (at_fork n p q) x y =
    one_parent bs ls b l r node next j n p q x y (λ u v. parent_in bs ls l next (next + 2) j p u v) (λ u v. parent_in bs ls r (next + 1) (next + 2 + below l) j q u v) (low_or_high j (next + 2)) (low_or_high j (next + 2 + below l))

-- of a tree laid out from node 0 on, as many nodes as the lists have
module _ (index : List ℕ) (bs : List Float) (ls : List ℕ) (t : Tree) (p : Placed bs ls 0 1 t) (all : length ls / 3 ≡ size t) where
  one_of : (i : ℕ) → i < length ls / 3 → Of 0 1 t i
  one_of i h = ⊎_elim (λ u. inl (omega arith)) (λ u. inr (u, omega arith)) (low_or_high i 1)

  pub child_of_one : (j : ℕ) → 0 < j → j < length ls / 3 → OnlyChild (lists_of index bs ls) j
  unfolding linked node_at left_of right_of
  child_of_one j x y =
      let P = parent_in bs ls t 0 1 j p x (omega arith) in
      record {
        parent = P.parent;
        inside = ⊎_elim (λ e. omega arith) (λ q. omega (arith, q.1)) P.inside;
        child = P.child;
        only = λ i h k. P.only i (one_of i h) k;
      }

  pub root_of_none : (i : ℕ) → i < length ls / 3 → ChildOf (lists_of index bs ls) i 0 → ⊥
  unfolding linked node_at left_of right_of
  root_of_none i h k = let d = below_root bs ls t 0 1 i 0 p (one_of i h) k in omega (arith, d.0)
