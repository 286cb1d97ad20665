-- Two trees with the same leaves, however these are put together (rule G9, request A9). Definitions only.
use Rattle.std.specs.Prelude.{◌≡◌, List, [], ◌∷◌, ◌++◌, T}
use Rattle.std.specs.Float.Ieee.{eq}
use Rattle.aabb.specs.declared.vector.Vec3.{Vec3}
use Rattle.aabb.specs.declared.bounds.Aabb.{Aabb}
use Rattle.lent.specs.Ladder.{none}
use Rattle.tree.specs.Lent.{Lent}
use Rattle.tree.specs.Tree.{Tree}
use Rattle.tree.specs.Leaves.{Leaf, leaves_of}
use Rattle.tree.specs.Accepted.{Accepted}
use Rattle.walk.specs.Answer.{Told}
use Rattle.sky.specs.declared.Place.{Place}
use Rattle.demands.specs.SameLeaves.{SameNumbers}

-- numerically equal, so that a -0 is a 0
abbrev pub SameVector : Vec3 → Vec3 → Type 0
SameVector a b = T (eq a.x b.x) × T (eq a.y b.y) × T (eq a.z b.z)

abbrev pub SameBox : Aabb → Aabb → Type 0
SameBox a b = SameVector a.min b.min × SameVector a.max b.max

-- the same box and the same set of triangles
abbrev pub Alike : Leaf → Leaf → Type 0
Alike x y = SameBox x.box y.box × SameNumbers x.holds y.holds

-- Rule G9: as a collection, in whatever order: each leaf of the one has one of the other for itself, and none is left over
abbrev pub SameCollection : List Leaf → List Leaf → Type 0
SameCollection [] ys = ys ≡ []
SameCollection (x ∷ xs) ys = (a : List Leaf) × (y : Leaf) × (b : List Leaf) × (ys ≡ a ++ (y ∷ b)) × Alike x y × SameCollection xs (a ++ b)

-- lists that hold such trees over one mesh with its materials
pub record Rearranged (s s' : Lent) : Type 0 where
  pub mesh : s.mesh ≡ s'.mesh
  pub tree : Tree
  pub other : Tree
  pub accepted : Accepted s tree
  pub other_accepted : Accepted s' other
  pub same : SameCollection (leaves_of s.tree tree) (leaves_of s'.tree other)

-- Rule G9: neither walk is refused; the same hit with all its numbers, or a miss of both; as many triangle tests. Of box tests nothing is said
pub record Agree (a b : Told) : Type 0 where
  pub served : a.refusal ≡ none
  pub other_served : b.refusal ≡ none
  pub hit : a.hit ≡ b.hit
  pub triangles : a.triangles ≡ b.triangles

-- the same of two places of a sky
pub record AgreeAt (p q : Place) : Type 0 where
  pub outcome : p.outcome ≡ q.outcome
  pub which : p.which ≡ q.which
  pub t : p.t ≡ q.t
  pub u : p.u ≡ q.u
  pub v : p.v ≡ q.v
  pub triangles : p.triangles ≡ q.triangles
  pub material : p.material ≡ q.material
