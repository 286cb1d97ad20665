-- Two predicates of lent lists and the tree that they hold (rules G1 and G2): what demand 3 needs, and what is accepted of a stranger's tree, which is more.
-- Definitions only.
use Rattle.std.specs.Prelude.{◌≡◌, false, ℕ, ◌%◌, ◌≤◌, ◌<◌, T, length, get_or}
use Rattle.lent.specs.Limits.{most_triangles, deepest}
use Rattle.lent.specs.Ladder.{triangle_count}
use Rattle.lent.specs.Permutation.{Perm, up_to}
use Rattle.triangle.specs.Mesh.{triangle_at, admitted_triangle}
use Rattle.tree.specs.Lent.{Lent, node_count}
use Rattle.tree.specs.Node.{misfit}
use Rattle.tree.specs.Tree.{Tree, size, depth, held}
use Rattle.tree.specs.Holds.{Holds, Nested, Finite, Occupied, Bare, covering, Snug, ChildOf, OnlyChild}

-- Rule G1: a tree over admitted triangles, shallow enough, with nested boxes and as many places in its leaves as the index list has
pub record Walkable (s : Lent) (t : Tree) : Type 0 where
  pub whole : length s.mesh.triangles % 12 ≡ 0
  pub few : triangle_count s.mesh.triangles ≤ most_triangles
  pub fitted : misfit s.tree.boxes s.tree.links ≡ false
  pub one_each : length s.tree.index ≡ triangle_count s.mesh.triangles
  pub entries : (p : ℕ) → p < length s.tree.index → get_or s.tree.index p 0 < triangle_count s.mesh.triangles
  pub admitted : (k : ℕ) → k < triangle_count s.mesh.triangles → T (admitted_triangle (triangle_at s.mesh.triangles k))
  pub holds : Holds s.tree 0 t
  pub sized : size t ≤ node_count s.tree.links
  pub shallow : depth t ≤ deepest
  pub nested : Nested t
  pub covers : held t ≡ length s.tree.index

-- Rule G2: request A8's conditions, (i) to (vi)
pub record Accepted (s : Lent) (t : Tree) : Type 0 where
  pub walkable : Walkable s t
  -- (i): where there are triangles no box is without end and no leaf empty; where there are none, one leaf of none
  pub finite : 0 < triangle_count s.mesh.triangles → Finite t
  pub occupied : 0 < triangle_count s.mesh.triangles → Occupied t
  pub bare : triangle_count s.mesh.triangles ≡ 0 → Bare t
  -- (ii): a node has one parent, and node 0 has none
  pub once : (j : ℕ) → 0 < j → j < node_count s.tree.links → OnlyChild s.tree j
  pub root : (i : ℕ) → i < node_count s.tree.links → ChildOf s.tree i 0 → ⊥
  -- (iii): every node is one of the tree's
  pub all_nodes : node_count s.tree.links ≡ size t
  -- (iv): each place of the index list is in the range of one leaf
  pub apart : (q : ℕ) → q < length s.tree.index → covering q t ≡ 1
  -- (v)
  pub permuted : Perm s.tree.index (up_to (triangle_count s.mesh.triangles))
  -- (vi): beside nested boxes
  pub snug : Snug s.mesh.triangles s.tree.index t
