-- Numbers of the input, by their bytes. A byte beyond the end counts as 0, so that each is defined at every place. Definitions only.
use Rattle.std.specs.Prelude.{ℕ, zero, suc, ◌+◌, ◌*◌, List, [], ◌∷◌, ◌++◌, get_or, Float}
use Rattle.std.specs.Float.{binary64}
use Rattle.std.specs.Float.Ieee.{of_bits}
use Rattle.aabb.specs.declared.vector.Vec3.{Vec3}
use Rattle.aabb.specs.declared.vector.Ray.{Ray}

-- Rule I1: a u32 of four bytes, each of which weighs 256 times as much as the one before
unfoldable pub word : List ℕ → ℕ → ℕ
word s at = get_or s at 0 + 256 * get_or s (at + 1) 0 + 65536 * get_or s (at + 2) 0 + 16777216 * get_or s (at + 3) 0

-- Rule I1: and an f64 of eight; the bit pattern of a NaN becomes a NaN
unfoldable pub number : List ℕ → ℕ → Float
number s at = of_bits binary64 (word s at + 4294967296 * word s (at + 4))

-- k numbers from a place on
unfoldable pub numbers : List ℕ → ℕ → ℕ → List Float
numbers s at zero = []
numbers s at (suc k) = numbers s at k ++ (number s (at + 8 * k) ∷ [])

unfoldable pub vector_of : List ℕ → ℕ → Vec3
vector_of s at = record { x = number s at; y = number s (at + 8); z = number s (at + 16) }

-- Rule I1: the origin, then the direction
unfoldable pub ray_of : List ℕ → ℕ → Ray
ray_of s at = record { origin = vector_of s at; direction = vector_of s (at + 24) }
