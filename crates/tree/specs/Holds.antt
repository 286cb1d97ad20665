-- What it is that lent lists hold a tree, and what is asked of its boxes and of its leaves' ranges. Definitions only.
use Rattle.std.specs.Prelude.{◌≡◌, ◌⊎◌, cond, ◌&&◌, ℕ, ◌+◌, ◌≤◌, ◌<◌, T, leb, ltb, List, length, get_or, Float}
use Rattle.aabb.specs.declared.bounds.Aabb.{Aabb}
use Rattle.aabb.specs.Bounds.{bounded, usable, contains, holds, is_empty}
use Rattle.triangle.specs.declared.Triangle.{Triangle}
use Rattle.triangle.specs.Mesh.{triangle_at}
use Rattle.tree.specs.declared.Node.{Node}
use Rattle.tree.specs.Lent.{Lists, node_count}
use Rattle.tree.specs.Node.{left_or_first, node_of, left_of, right_of}
use Rattle.tree.specs.Tree.{Tree, leaf, internal, box_of}

-- ---- the lists hold the tree at node i (rules D5 and G1)
pub record IsLeaf (s : Lists) (x : Node) (b : Aabb) (p c : ℕ) : Type 0 where
  pub bounds : x.bounds ≡ b
  pub first : left_or_first x ≡ p
  pub count : x.count ≡ c
  pub kind : x.kind ≡ 1
  pub inside : p + c ≤ length s.index

pub record IsInternal (s : Lists) (i : ℕ) (x : Node) (b : Aabb) : Type 0 where
  pub bounds : x.bounds ≡ b
  pub count : x.count ≡ 0
  pub kind : x.kind ≡ 0
  pub left_there : left_of i x < node_count s.links
  pub right_there : right_of i x < node_count s.links

abbrev pub Holds : Lists → ℕ → Tree → Type 0
Holds s i (leaf b p c) = IsLeaf s (node_of s i) b p c
Holds s i (internal b u v) = IsInternal s i (node_of s i) b × Holds s (left_of i (node_of s i)) u × Holds s (right_of i (node_of s i)) v

-- ---- each box is usable, and below the root it is bounded and lies in the box above it (rule G1)
abbrev pub Inside : Aabb → Tree → Type 0
Inside b t = T (bounded (box_of t)) × T (contains b (box_of t))

abbrev pub Nested : Tree → Type 0
Nested (leaf b p c) = T (usable b)
Nested (internal b u v) = T (usable b) × Inside b u × Inside b v × Nested u × Nested v

-- ---- no box is empty or without end, and no leaf without a triangle (rule G2)
abbrev pub Finite : Tree → Type 0
Finite (leaf b p c) = T (bounded b)
Finite (internal b u v) = T (bounded b) × Finite u × Finite v

abbrev pub Occupied : Tree → Type 0
Occupied (leaf b p c) = 0 < c
Occupied (internal b u v) = Occupied u × Occupied v

-- Rule G2: one leaf of none, at 0, with the empty box
abbrev pub Bare : Tree → Type 0
Bare (leaf b p c) = T (is_empty b) × (p ≡ 0) × (c ≡ 0)
Bare (internal b u v) = ⊥

-- ---- how many leaves have place q in their range (rule G2)
abbrev pub covering : ℕ → Tree → ℕ
covering q (leaf b p c) = cond (leb p q && ltb q (p + c)) 1 0
covering q (internal b u v) = covering q u + covering q v

-- ---- each leaf's box holds the vertices of its triangles (rule G2)
abbrev pub HoldsVertices : Aabb → Triangle → Type 0
HoldsVertices b a = T (holds b a.v0) × T (holds b a.v1) × T (holds b a.v2)

abbrev pub Snug : List Float → List ℕ → Tree → Type 0
Snug mesh index (leaf b p c) = (q : ℕ) → p ≤ q → q < p + c → HoldsVertices b (triangle_at mesh (get_or index q 0))
Snug mesh index (internal b u v) = Snug mesh index u × Snug mesh index v

-- ---- node j is a child of node i
abbrev pub ChildOf : Lists → ℕ → ℕ → Type 0
ChildOf s i j = ((node_of s i).kind ≡ 0) × ((j ≡ left_of i (node_of s i)) ⊎ (j ≡ right_of i (node_of s i)))

-- Rule G2: exactly one node has node j as a child
pub record OnlyChild (s : Lists) (j : ℕ) : Type 0 where
  pub parent : ℕ
  pub inside : parent < node_count s.links
  pub child : ChildOf s parent j
  pub only : (i : ℕ) → i < node_count s.links → ChildOf s i j → i ≡ parent
