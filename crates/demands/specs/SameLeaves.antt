-- What it is that two trees have the same leaves, whatever the order of the leaves and of the index list within each. Definitions only.
use Rattle.std.specs.Prelude.{◌≡◌, List, ℕ, ◌<◌, length, get_or}
use Rattle.lent.specs.Ladder.{triangle_count}
use Rattle.lent.specs.Members.{Any, Member}
use Rattle.tree.specs.Lent.{Lists, Lent}
use Rattle.tree.specs.Tree.{Tree, leaf, internal}
use Rattle.tree.specs.Leaves.{range_of, numbers, Leaf}

-- each of the one is one of the other, and the other way: in whatever order, repeated or not
abbrev pub SameNumbers : List ℕ → List ℕ → Type 0
SameNumbers ks ls = ((k : ℕ) → Member k ks → Member k ls) × ((k : ℕ) → Member k ls → Member k ks)

abbrev pub SameLeaf : Leaf → Leaf → Type 0
SameLeaf x y = (x.box ≡ y.box) × SameNumbers x.holds y.holds

-- each leaf of the one tree is the same as a leaf of the other, and the other way
abbrev pub SameLeaves : List Leaf → List Leaf → Type 0
SameLeaves xs ys = ((x : Leaf) → Member x xs → Any (SameLeaf x) ys) × ((y : Leaf) → Member y ys → Any (SameLeaf y) xs)

-- ---- another index list in place of the tree's own: as long, its entries below n, and in each leaf the same triangles
abbrev pub lists_with : Lists → List ℕ → Lists
lists_with s order = record { index = order; boxes = s.boxes; links = s.links }

abbrev pub with_index : Lent → List ℕ → Lent
with_index s order = record { mesh = s.mesh; tree = lists_with s.tree order }

abbrev pub SameWithin : Lists → List ℕ → Tree → Type 0
SameWithin s order (leaf b p c) = SameNumbers (numbers s (range_of c p)) (numbers (lists_with s order) (range_of c p))
SameWithin s order (internal b u v) = SameWithin s order u × SameWithin s order v

pub record Reordered (s : Lent) (order : List ℕ) (t : Tree) : Type 0 where
  pub as_long : length order ≡ length s.tree.index
  pub entries : (p : ℕ) → p < length order → get_or order p 0 < triangle_count s.mesh.triangles
  pub within : SameWithin s.tree order t
