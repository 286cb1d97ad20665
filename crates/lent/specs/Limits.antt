-- The limits, each said once. Definitions only.
use Rattle.std.specs.Prelude.{ℕ}

-- Rule D7: the triangles of a mesh
abbrev pub most_triangles : ℕ
most_triangles = 65536

-- Rule D7: the nodes of a tree, 2n-1 of so many triangles
abbrev pub most_nodes : ℕ
most_nodes = 131071

-- Rule D7: the depth of a built node, where the root's is 0
abbrev pub deepest : ℕ
deepest = 63

-- Rule D7: the nodes that a walk keeps for later
abbrev pub most_pending : ℕ
most_pending = 64

-- Rule D7: the placements of a street
abbrev pub most_placements : ℕ
most_placements = 1024

-- Rule D7: the rays of a call that weighs them
abbrev pub most_rays : ℕ
most_rays = 1048576
