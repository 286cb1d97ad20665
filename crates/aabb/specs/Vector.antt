-- Vectors and rays (rules V1 to V5, D6, D8, N1, N3): each operation is IEEE 754's, rounded once. Definitions only.
use Rattle.std.specs.Prelude.{ℕ, zero, suc, ◌+◌, ◌*◌, Bool, ◌&&◌, List, get_or, Float}
use Rattle.std.specs.Float.{nan, binary64}
use Rattle.std.specs.Float.Ieee.{add, sub, mul, div, neg, le, eq}
use Rattle.float.specs.Number.{two, two_to_40}
use Rattle.float.specs.Pick.{magnitude, lesser, greater, lower, higher}
use Rattle.aabb.specs.declared.vector.Vec3.{Vec3}
use Rattle.aabb.specs.declared.vector.Ray.{Ray}

abbrev pub vec : Float → Float → Float → Vec3
vec a b c = record { x = a; y = b; z = c }

-- ---- by component
abbrev pub each : (Float → Float) → Vec3 → Vec3
each f a = vec (f a.x) (f a.y) (f a.z)

abbrev pub pairwise : (Float → Float → Float) → Vec3 → Vec3 → Vec3
pairwise f a b = vec (f a.x b.x) (f a.y b.y) (f a.z b.z)

abbrev pub all : (Float → Bool) → Vec3 → Bool
all p a = p a.x && (p a.y && p a.z)

-- Rule V1: this and the next four
unfoldable pub plus : Vec3 → Vec3 → Vec3
plus a b = pairwise (add binary64) a b

unfoldable pub minus : Vec3 → Vec3 → Vec3
minus a b = pairwise (sub binary64) a b

unfoldable pub negated : Vec3 → Vec3
negated a = each neg a

unfoldable pub scaled : Vec3 → Float → Vec3
scaled a k = each (λ x. mul binary64 x k) a

unfoldable pub divided : Vec3 → Float → Vec3
divided a k = each (λ x. div binary64 x k) a

unfoldable pub least : Vec3 → Vec3 → Vec3
least a b = pairwise lesser a b

unfoldable pub greatest : Vec3 → Vec3 → Vec3
greatest a b = pairwise greater a b

-- by one comparison a number, which keeps a NaN of the first
unfoldable pub lowest : Vec3 → Vec3 → Vec3
lowest a b = pairwise lower a b

unfoldable pub highest : Vec3 → Vec3 → Vec3
highest a b = pairwise higher a b

-- ---- products
-- Rule V2: the products, added from x to z
unfoldable pub dot : Vec3 → Vec3 → Float
dot a b = add binary64 (add binary64 (mul binary64 a.x b.x) (mul binary64 a.y b.y)) (mul binary64 a.z b.z)

-- a·b - c·d
unfoldable pub minor : Float → Float → Float → Float → Float
minor a b c d = sub binary64 (mul binary64 a b) (mul binary64 c d)

-- Rule V3: for each axis the minor of the other two
unfoldable pub cross : Vec3 → Vec3 → Vec3
cross a b = vec (minor a.y b.z a.z b.y) (minor a.z b.x a.x b.z) (minor a.x b.y a.y b.x)

-- ---- choice by axis: x, y, z
-- Rule V5: 0, 1 and 2
unfoldable pub along : ℕ → Vec3 → Float
along zero a = a.x
along (suc zero) a = a.y
along (suc (suc k)) a = a.z

-- ---- tests
-- Rule N1: finite, of magnitude at most the limit (where the limit is finite)
unfoldable pub within : Float → Float → Bool
within limit x = le (magnitude x) limit

unfoldable pub all_within : Float → Vec3 → Bool
all_within limit a = all (within limit) a

unfoldable pub all_at_most : Vec3 → Vec3 → Bool
all_at_most a b = le a.x b.x && (le a.y b.y && le a.z b.z)

unfoldable pub all_equal : Float → Vec3 → Bool
all_equal k a = all (λ x. eq x k) a

-- ---- numbers of a lent slice; beyond its end there is no number
-- Rule D8: a NaN there
abbrev pub number_at : List Float → ℕ → Float
number_at numbers k = get_or numbers k nan

unfoldable pub vector_at : List Float → ℕ → Vec3
vector_at numbers k = vec (number_at numbers k) (number_at numbers (k + 1)) (number_at numbers (k + 2))

-- ---- rays
abbrev pub ray_from : Vec3 → Vec3 → Ray
ray_from origin direction = record { origin = origin; direction = direction }

-- Rule D6: ray k of a lent slice, six numbers each
unfoldable pub ray_at : List Float → ℕ → Ray
ray_at numbers k = ray_from (vector_at numbers (k * 6)) (vector_at numbers (k * 6 + 3))

-- Rule V4: where the ray is at t
unfoldable pub point_at : Ray → Float → Vec3
point_at r t = plus r.origin (scaled r.direction t)

-- Rule N3: the origin within 2^40, the direction within 2
unfoldable pub admitted_ray : Ray → Bool
admitted_ray r = all_within two_to_40 r.origin && all_within two r.direction
