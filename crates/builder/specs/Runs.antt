-- Leaf ranges in order (rule G2). Definitions only.
use Rattle.std.specs.Prelude.{◌≡◌, ℕ, ◌+◌}
use Rattle.tree.specs.Tree.{Tree, leaf, internal}

-- the ranges of the leaves, from left to right, follow one another from a up to b
abbrev pub Runs : ℕ → ℕ → Tree → Type 0
Runs a b (leaf x f c) = (f ≡ a) × (b ≡ a + c)
Runs a b (internal x l r) = (m : ℕ) × Runs a m l × Runs m b r
