-- Trees of boxes. Definitions only.
use Rattle.std.specs.Prelude.{ℕ, ◌+◌, max}
use Rattle.aabb.specs.declared.bounds.Aabb.{Aabb}

-- a leaf has its box, its first place in the index list, and how many; an internal node its box and two children
pub data Tree : Type 0 where
  leaf : Aabb → ℕ → ℕ → Tree
  internal : Aabb → Tree → Tree → Tree

abbrev pub box_of : Tree → Aabb
box_of (leaf b p c) = b
box_of (internal b u v) = b

-- the nodes below the root, and all of them
abbrev pub below : Tree → ℕ
below (leaf b p c) = 0
below (internal b u v) = 2 + (below u + below v)

abbrev pub size : Tree → ℕ
size t = 1 + below t

abbrev pub leaves : Tree → ℕ
leaves (leaf b p c) = 1
leaves (internal b u v) = leaves u + leaves v

-- the root's depth is 0
abbrev pub depth : Tree → ℕ
depth (leaf b p c) = 0
depth (internal b u v) = 1 + max (depth u) (depth v)

-- how many places its leaves hold
abbrev pub held : Tree → ℕ
held (leaf b p c) = c
held (internal b u v) = held u + held v
