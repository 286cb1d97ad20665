-- The tree of a range (rules C3 and C8). Definitions only.
use Rattle.std.specs.Prelude.{ℕ, zero, suc, ◌+◌, List, ◌++◌, length, take, drop, Float, Option as Maybe, Some, None}
use Rattle.std.proofs.Math.Option.{Option, none, some}
use Rattle.aabb.specs.declared.bounds.Aabb.{Aabb}
use Rattle.tree.specs.Tree.{Tree, leaf, internal}
use Rattle.builder.specs.declared.split.Split.{Split}
use Rattle.builder.specs.Range.{node_box, centroid_box}
use Rattle.builder.specs.Choice.{best_split}
use Rattle.builder.specs.Fallback.{separated}

-- a tree, and its range after every partition
pub record Grown : Type 0 where
  pub tree : Tree
  pub ids : List ℕ

abbrev pub grown_as : Tree → List ℕ → Grown
grown_as t xs = record { tree = t; ids = xs }

unfoldable pub joined : Aabb → Option Grown → Option Grown → Option Grown
joined b none r = none
joined b (some l) none = none
joined b (some l) (some r) = some (grown_as (internal b l.tree r.tree) (l.ids ++ r.ids))

-- Rule C3: a leaf or a split, by the boxes of rule C2
unfoldable pub decision : List Float → List ℕ → Maybe Split
decision mesh range = best_split mesh range (node_box mesh range) (centroid_box mesh range)

-- Rule C3: its range as it stands
unfoldable pub leaf_of : List Float → ℕ → List ℕ → Option Grown
leaf_of mesh first range = some (grown_as (leaf (node_box mesh range) first (length range)) range)

-- Rule C8: the tree of a range whose first stands at `first`, with at most d levels below its root; `none`: a node deeper
unfoldable pub grow : List Float → ℕ → ℕ → List ℕ → Option Grown
grow mesh zero first range = elim (decision mesh range) [ None ↦ leaf_of mesh first range | Some s ↦ none ]
grow mesh (suc d) first range = elim (decision mesh range) [
  | None ↦ leaf_of mesh first range
  | Some s ↦ joined (node_box mesh range)
      (grow mesh d first (take (separated mesh s.axis s.position range).at (separated mesh s.axis s.position range).ids))
      (grow mesh d (first + (separated mesh s.axis s.position range).at) (drop (separated mesh s.axis s.position range).at (separated mesh s.axis s.position range).ids))
]
