-- The leaves of a tree, each as its box and the triangles that it holds. Definitions only.
use Rattle.std.specs.Prelude.{List, [], ◌∷◌, ◌++◌, ℕ, zero, suc, get_or}
use Rattle.aabb.specs.declared.bounds.Aabb.{Aabb}
use Rattle.tree.specs.Lent.{Lists}
use Rattle.tree.specs.Tree.{Tree, leaf, internal}

-- p, p + 1, .., as many as the number says
abbrev pub range_of : ℕ → ℕ → List ℕ
range_of zero p = []
range_of (suc c) p = p ∷ range_of c (suc p)

-- the triangle numbers at some places of the index list
abbrev pub numbers : Lists → List ℕ → List ℕ
numbers s [] = []
numbers s (p ∷ ps) = get_or s.index p 0 ∷ numbers s ps

pub record Leaf : Type 0 where
  pub box : Aabb
  pub holds : List ℕ

abbrev pub leaves_of : Lists → Tree → List Leaf
leaves_of s (leaf b p c) = record { box = b; holds = numbers s (range_of c p) } ∷ []
leaves_of s (internal b u v) = leaves_of s u ++ leaves_of s v
