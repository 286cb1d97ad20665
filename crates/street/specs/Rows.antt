-- A matrix of four rows; points, directions and normals taken through it; the local ray (rules H1 to H4). Definitions only.
use Rattle.std.specs.Prelude.{ℕ, ◌+◌, ◌*◌, Bool, ◌&&◌, cond, List, Option, Some, None, Float}
use Rattle.std.specs.Float.{binary64}
use Rattle.std.specs.Float.Ieee.{of_bits, add, mul, lt, eq}
use Rattle.float.specs.Number.{nought, one, trillionth}
use Rattle.float.specs.Root.{root}
use Rattle.aabb.specs.declared.vector.Vec3.{Vec3}
use Rattle.aabb.specs.declared.vector.Ray.{Ray}
use Rattle.aabb.specs.Vector.{vec, dot, divided, along, within, all_within, all_equal, number_at, vector_at, ray_from}
use Rattle.street.specs.declared.rows.Row.{Row}
use Rattle.street.specs.declared.rows.Matrix.{Matrix}

-- 2^20
abbrev pub two_to_20 : Float
two_to_20 = of_bits binary64 0x4130_0000_0000_0000

abbrev pub row : Vec3 → Float → Row
row v d = record { xyz = v; w = d }

abbrev pub matrix : Row → Row → Row → Row → Matrix
matrix a b c d = record { first = a; second = b; third = c; fourth = d }

-- ---- of a lent list
unfoldable pub row_at : List Float → ℕ → Row
row_at numbers k = row (vector_at numbers k) (number_at numbers (k + 3))

-- Rule H1: matrix i, sixteen numbers each, by rows
unfoldable pub matrix_at : List Float → ℕ → Matrix
matrix_at numbers i = matrix (row_at numbers (i * 16)) (row_at numbers (i * 16 + 4)) (row_at numbers (i * 16 + 8)) (row_at numbers (i * 16 + 12))

-- ---- Rule H2: a good matrix has finite numbers, at most 2^20 in size, and the bottom row 0, 0, 0, 1, numerically
unfoldable pub small_row : Row → Bool
small_row a = all_within two_to_20 a.xyz && within two_to_20 a.w

unfoldable pub bottom_row : Row → Bool
bottom_row a = all_equal nought a.xyz && eq a.w one

unfoldable pub good_matrix : Matrix → Bool
good_matrix m = small_row m.first && (small_row m.second && (small_row m.third && (small_row m.fourth && bottom_row m.fourth)))

-- ---- Rule H3: a row sum runs from left to right, ((a·x + b·y) + c·z) + d·w; nothing is divided by w
unfoldable pub against : Row → Vec3 → Float → Float
against a p w = add binary64 (dot a.xyz p) (mul binary64 a.w w)

unfoldable pub through : Matrix → Vec3 → Float → Vec3
through m p w = vec (against m.first p w) (against m.second p w) (against m.third p w)

-- Rule H3: a point has w = 1
unfoldable pub point_by : Matrix → Vec3 → Vec3
point_by m p = through m p one

-- Rule H3: a direction has w = 0
unfoldable pub direction_by : Matrix → Vec3 → Vec3
direction_by m d = through m d nought

unfoldable pub column_of : Matrix → ℕ → Row
column_of m axis = row (vec (along axis m.first.xyz) (along axis m.second.xyz) (along axis m.third.xyz)) (along axis m.fourth.xyz)

-- Rule H3: a normal goes by the columns of the inverse, with w = 0
unfoldable pub normal_by : Matrix → Vec3 → Vec3
normal_by inverse n = vec (against (column_of inverse 0) n nought) (against (column_of inverse 1) n nought) (against (column_of inverse 2) n nought)

-- ---- Rule H4: the local ray; its direction is divided by its length, and there is none unless that is above 1e-12
unfoldable pub length_of : Vec3 → Float
length_of a = root (dot a a)

unfoldable pub cast : Vec3 → Vec3 → Option Ray
cast origin direction = cond (lt trillionth (length_of direction)) (Some (ray_from origin (divided direction (length_of direction)))) None

unfoldable pub local_ray : Matrix → Ray → Option Ray
local_ray inverse r = cast (point_by inverse r.origin) (direction_by inverse r.direction)
