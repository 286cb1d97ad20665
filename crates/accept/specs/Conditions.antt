-- The six conditions that a tree built elsewhere must meet (rules J2 to J7), each as a test of one place at which it breaks. Definitions only.
use Rattle.std.specs.Prelude.{ℕ, zero, suc, ◌+◌, Bool, true, not, ◌&&◌, ◌||◌, cond, List, [], leb, ltb, eqb, length, get_or, Float}
use Rattle.lent.specs.Limits.{deepest}
use Rattle.lent.specs.Ladder.{triangle_count}
use Rattle.aabb.specs.declared.bounds.Aabb.{Aabb}
use Rattle.aabb.specs.Bounds.{bounded, is_empty, contains, holds, box_at}
use Rattle.triangle.specs.declared.Triangle.{Triangle}
use Rattle.triangle.specs.Mesh.{triangle_at}
use Rattle.tree.specs.declared.Node.{Node}
use Rattle.tree.specs.Lent.{Lent, lent, node_count}
use Rattle.tree.specs.Node.{left_or_first, node_of, sound, left_of, right_of}
use Rattle.accept.specs.Count.{any, count}

-- the lists that are judged: no condition speaks of materials
abbrev pub foreign : List Float → List ℕ → List Float → List ℕ → Lent
foreign triangles index boxes links = lent triangles [] index boxes links

abbrev pub nodes : Lent → ℕ
nodes s = node_count s.tree.links

-- n
abbrev pub meshed : Lent → ℕ
meshed s = triangle_count s.mesh.triangles

-- ---- (i): no node has a fault that gives 9, and where there are triangles every box is finite and every leaf holds at least one
-- what gives 9 to a walk that meets node i, which is x: it is unsound; a leaf's range ends beyond the index list; a child is no node
unfoldable pub bad : Lent → ℕ → Node → Bool
bad s i x =
    not (sound x)
    || cond (eqb x.kind 1) (ltb (length s.tree.index) (left_or_first x + x.count))
    (leb (nodes s) (left_of i x) || leb (nodes s) (right_of i x))

unfoldable pub faulty : Lent → ℕ → Node → Bool
faulty s i x = bad s i x || (not (bounded x.bounds) || (eqb x.kind 1 && eqb x.count 0))

-- an empty mesh has one leaf (first 0, count 0, the empty box) and an empty list
unfoldable pub single : Lent → Node → Bool
single s x =
    eqb (nodes s) 1
    && (eqb (length s.tree.index) 0 && (is_empty x.bounds && (eqb (left_or_first x) 0 && (eqb x.count 0 && eqb x.kind 1))))

-- Rule J2: node i breaks (i); of an empty mesh node 0 does, where the lists are others
unfoldable pub breaks_1 : Lent → ℕ → Bool
breaks_1 s i = cond (eqb (meshed s) 0) (not (single s (node_of s.tree 0))) (faulty s i (node_of s.tree i))

-- ---- (ii): every node but 0 is a child of exactly one internal node, and 0 of none
-- node i is a parent of node j
unfoldable pub parent : Lent → ℕ → ℕ → Bool
parent s j i = eqb (node_of s.tree i).kind 0 && (eqb j (left_of i (node_of s.tree i)) || eqb j (right_of i (node_of s.tree i)))

-- Rule J3: node j breaks (ii)
unfoldable pub breaks_2 : Lent → ℕ → Bool
breaks_2 s j = not (eqb (count (parent s j) (nodes s)) (cond (eqb j 0) 0 1))

-- ---- (iii): every node is reached from 0, none deeper than 63
-- reached from 0 in at most so many steps: it is 0, or a child of a node that is reached in one step less
unfoldable pub reached : Lent → ℕ → ℕ → Bool
reached s zero j = eqb j 0
reached s (suc d) j = eqb j 0 || any (λ i. parent s j i && reached s d i) (nodes s)

-- Rule J4: node j breaks (iii). (Where (ii) holds there is at most one way from 0 to a node.)
unfoldable pub breaks_3 : Lent → ℕ → Bool
breaks_3 s j = not (reached s deepest j)

-- ---- (iv): the leaves' ranges cover the index list without overlap
-- place p is in the range of node i, a leaf
unfoldable pub covered : Lent → ℕ → ℕ → Bool
covered s p i =
    eqb (node_of s.tree i).kind 1
    && (leb (left_or_first (node_of s.tree i)) p && ltb p (left_or_first (node_of s.tree i) + (node_of s.tree i).count))

-- Rule J5: place p of the index list breaks (iv)
unfoldable pub breaks_4 : Lent → ℕ → Bool
breaks_4 s p = not (eqb (count (covered s p) (nodes s)) 1)

-- ---- (v): the index list is a permutation of all triangle numbers
-- an entry that is out of range, or was seen before
unfoldable pub misplaced : ℕ → List ℕ → ℕ → Bool
misplaced n index p = leb n (get_or index p 0) || any (λ q. eqb (get_or index q 0) (get_or index p 0)) p

-- Rule J6: entry p breaks (v)
abbrev pub breaks_5 : Lent → ℕ → Bool
breaks_5 s p = misplaced (meshed s) s.tree.index p

-- ---- (vi): each inner box numerically contains its children's boxes, and each leaf's box its vertices
unfoldable pub holds_all : Aabb → Triangle → Bool
holds_all b t = holds b t.v0 && (holds b t.v1 && holds b t.v2)

-- those of so many entries from place p on
unfoldable pub holds_each : List Float → List ℕ → Aabb → ℕ → ℕ → Bool
holds_each mesh index b zero p = true
holds_each mesh index b (suc k) p = holds_all b (triangle_at mesh (get_or index p 0)) && holds_each mesh index b k (suc p)

unfoldable pub encloses : Lent → ℕ → Node → Bool
encloses s i x =
    cond (eqb x.kind 1) (holds_each s.mesh.triangles s.tree.index x.bounds x.count (left_or_first x))
    (contains x.bounds (box_at s.tree.boxes (left_of i x)) && contains x.bounds (box_at s.tree.boxes (right_of i x)))

-- Rule J7: node i breaks (vi): it is the one that should contain
unfoldable pub breaks_6 : Lent → ℕ → Bool
breaks_6 s i = not (encloses s i (node_of s.tree i))
