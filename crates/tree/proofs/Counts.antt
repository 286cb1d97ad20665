-- A tree of L leaves has 2L-1 nodes. Assumes nothing.
use mathlib.Core.Path.{◌≡◌, refl}
use Prim.Native.Nat.{◌+◌, ◌*◌}
use native.Mathlib.Omega.{arith}
use Rattle.tree.specs.Tree.{Tree, leaf, internal, size, leaves}

pub odd_size : (t : Tree) → size t + 1 ≡ 2 * leaves t
odd_size (leaf b p c) = refl
odd_size (internal b u v) = omega (arith, odd_size u, odd_size v)
