-- Demand 3 (rule G3): what a walk of lists that hold a tree must answer, and what is signed of a built tree. "Passes" is the slab test's own answer on
-- the node's own box, whatever its parents say. Definitions only.
use Rattle.std.specs.Prelude.{◌≡◌, ℕ, ◌+◌, ◌*◌, ◌≤◌, List, T, length, Some, None}
use Rattle.aabb.specs.declared.vector.Ray.{Ray}
use Rattle.aabb.specs.Vector.{admitted_ray}
use Rattle.triangle.specs.declared.Hit.{Hit}
use Rattle.lent.specs.Ladder.{none, triangle_count}
use Rattle.tree.specs.Lent.{Lent, node_count}
use Rattle.walk.specs.Walk.{walk}
use Rattle.tree.specs.Tree.{Tree, size, leaves}
use Rattle.tree.specs.Accepted.{Walkable, Accepted}
use Rattle.demands.specs.Reached.{entered, reached}
use Rattle.tree.specs.Leaves.{leaves_of}
use Rattle.demands.specs.SameLeaves.{SameLeaves, with_index, Reordered}
use Rattle.lent.specs.Members.{Every}
use Rattle.demands.specs.NearestHit.{NearestAt, NothingAt}

pub record Demand3 (s : Lent) (t : Tree) (r : Ray) : Type 0 where
  pub served : (walk s r).refusal ≡ none
  -- box tests are one plus twice the internal nodes whose own box the ray passes
  pub box_tests : (walk s r).boxes ≡ 1 + 2 * entered r t
  -- triangle tests are the triangles in leaves whose own box it passes
  pub triangle_tests : (walk s r).triangles ≡ length (reached r t)
  -- so at most 2L-1 and n
  pub most_boxes : (walk s r).boxes + 1 ≤ 2 * leaves t
  pub most_triangles : (walk s r).triangles ≤ triangle_count s.mesh.triangles
  -- the hit is the nearest found in those leaves (rule E2), and there is none only where nothing is found there
  pub hit : (h : Hit) → (walk s r).hit ≡ Some h → NearestAt s r (reached r t) h
  pub no_hit : (walk s r).hit ≡ None → Every (NothingAt s r) (reached r t)

-- ---- what is signed
-- The lists of a tree that was handed over: they hold one tree, whatever the ray, of so many nodes and leaves; its nodes are the node numbers, each but
-- 0 the child of exactly one, and its index list is a permutation (`accepted`). The walk of every admitted ray meets demand 3.
pub record Signed (s : Lent) (nodes leaf_count : ℕ) : Type 0 where
  pub tree : Tree
  pub accepted : Accepted s tree
  pub nodes_are : node_count s.tree.links ≡ nodes
  pub size_is : size tree ≡ nodes
  pub leaves_are : leaves tree ≡ leaf_count
  pub odd : nodes + 1 ≡ 2 * leaf_count
  pub answer : (r : Ray) → T (admitted_ray r) → Demand3 s tree r
  -- Rule G5: any tree over the same triangles with the same leaves that a walk can take has the same hit, in whatever order it walks them, and so has any order
  -- of the index list within the leaves.
  pub settled : (r : Ray) → T (admitted_ray r) → (s' : Lent) (t' : Tree) → s.mesh ≡ s'.mesh → Walkable s' t' → SameLeaves (leaves_of s.tree tree) (leaves_of s'.tree t') → (walk s r).hit ≡ (walk s' r).hit
  pub any_order : (r : Ray) → T (admitted_ray r) → (order : List ℕ) → Reordered s order tree → (walk s r).hit ≡ (walk (with_index s order) r).hit
