-- A tree laid out in the lent lists (rules C6 and C7): its root at `node`, what is below it from `next` on. Definitions only.
use Rattle.std.specs.Prelude.{ℕ, ◌+◌, ◌≡◌, List, [], ◌∷◌, Float, Option as Maybe, Some, None}
use Rattle.std.proofs.Math.Option.{Option, none, some}
use Rattle.lent.specs.Flat.{put}
use Rattle.aabb.specs.declared.bounds.Aabb.{Aabb}
use Rattle.tree.specs.Tree.{Tree, leaf, internal, below}
use Rattle.builder.specs.Tree.{Grown}

-- Rule C7: a node's box, six numbers, min before max
abbrev pub box_numbers : Aabb → List Float
box_numbers b = b.min.x ∷ b.min.y ∷ b.min.z ∷ b.max.x ∷ b.max.y ∷ b.max.z ∷ []

unfoldable pub box_put : List Float → ℕ → Aabb → List Float
box_put boxes node b = put 6 boxes node (box_numbers b)

-- Rule C7: its three links
unfoldable pub link_put : List ℕ → ℕ → ℕ → ℕ → ℕ → List ℕ
link_put links node left_or_first count kind = put 3 links node (left_or_first ∷ count ∷ kind ∷ [])

-- Rule C6: two numbers for the children, then all that is below the left one, then what is below the right one
unfoldable pub boxes_of : Tree → ℕ → ℕ → List Float → List Float
boxes_of (leaf b f c) node next boxes = box_put boxes node b
boxes_of (internal b l r) node next boxes = boxes_of r (next + 1) (next + 2 + below l) (boxes_of l next (next + 2) (box_put boxes node b))

unfoldable pub links_of : Tree → ℕ → ℕ → List ℕ → List ℕ
links_of (leaf b f c) node next links = link_put links node f c 1
links_of (internal b l r) node next links = links_of r (next + 1) (next + 2 + below l) (links_of l next (next + 2) (link_put links node next 0 0))

-- what `subdivide` answers and leaves, of a grown tree or of one too deep
pub record Laid (g : Grown) (node next : ℕ) (boxes : List Float) (links : List ℕ) (r : Maybe ℕ) (index' : List ℕ) (boxes' : List Float) (links' : List ℕ) : Type 0 where
  pub answer : r ≡ Some (next + below g.tree)
  pub index_is : index' ≡ g.ids
  pub boxes_are : boxes' ≡ boxes_of g.tree node next boxes
  pub links_are : links' ≡ links_of g.tree node next links

abbrev pub Divided : Option Grown → ℕ → ℕ → List Float → List ℕ → Maybe ℕ → List ℕ → List Float → List ℕ → Type 0
Divided none node next boxes links r index' boxes' links' = r ≡ None
Divided (some g) node next boxes links r index' boxes' links' = Laid g node next boxes links r index' boxes' links'
