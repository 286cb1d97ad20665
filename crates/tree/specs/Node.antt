-- A node of the lent lists, and its children (rules D3, D4, N5). Definitions only.
use Rattle.std.specs.Prelude.{ℕ, ◌+◌, ◌*◌, ◌%◌, Bool, not, ◌&&◌, ◌||◌, List, eqb, ltb, length, get_or, Float}
use Rattle.lent.specs.Limits.{most_nodes}
use Rattle.aabb.specs.declared.bounds.Aabb.{Aabb}
use Rattle.aabb.specs.Bounds.{usable, box_at}
use Rattle.tree.specs.declared.Node.{Node}
use Rattle.tree.specs.Lent.{Lists, node_count}

abbrev pub left_or_first : Node → ℕ
left_or_first x = x.left_or_first

-- Rule D3: `left_or_first`, `count` and kind of node i
unfoldable pub linked : Aabb → List ℕ → ℕ → Node
linked b links i = record { bounds = b; left_or_first = get_or links (i * 3) 0; count = get_or links (i * 3 + 1) 0; kind = get_or links (i * 3 + 2) 0 }

-- Rule D3: its box and its links
unfoldable pub node_at : List Float → List ℕ → ℕ → Node
node_at boxes links i = linked (box_at boxes i) links i

abbrev pub node_of : Lists → ℕ → Node
node_of s i = node_at s.boxes s.links i

-- Rule N5: a usable box, and a kind that there is; an internal node has no count
unfoldable pub sound : Node → Bool
sound x = usable x.bounds && (eqb x.kind 1 || (eqb x.kind 0 && eqb x.count 0))

-- Rule D4: the children of node i, which is x: told by its number and by what stands there
unfoldable pub left_of : ℕ → Node → ℕ
left_of i x = left_or_first x

unfoldable pub right_of : ℕ → Node → ℕ
right_of i x = left_or_first x + 1

-- Refusal 8: no links, not in threes, too many nodes, or another number of boxes
unfoldable pub misfit : List Float → List ℕ → Bool
misfit boxes links =
    eqb (length links) 0
    || (not (eqb (length links % 3) 0) || (ltb most_nodes (node_count links) || not (eqb (length boxes) (2 * length links))))
