-- How a file of binary STL holds a mesh (rules L1 to L3): 80 header bytes, a count, then 50 bytes a triangle. A byte beyond the file's end counts as 0, so that
-- each is defined at every place. Definitions only.
use Rattle.std.specs.Prelude.{ℕ, ◌+◌, ◌*◌, ◌/◌, ◌%◌, List, [], ◌∷◌, ◌++◌, get_or, replicate, Float}
use Rattle.lent.specs.Flat.{records}
use Rattle.float.specs.Single.{of_single, single_bits}
use Rattle.aabb.specs.declared.vector.Vec3.{Vec3}
use Rattle.aabb.specs.Vector.{vec}
use Rattle.triangle.specs.declared.Triangle.{Triangle}
use Rattle.triangle.specs.Mesh.{triangle_at}

-- Rule L1: where the count stands, after the header
abbrev pub count_at : ℕ
count_at = 80

-- Rule L1: how long a file of n triangles is
abbrev pub file_length : ℕ → ℕ
file_length n = 84 + 50 * n

-- ---- numbers, little-endian
-- Rule L1: a u32, four bytes, of which each weighs 256 times as much as the one before
unfoldable pub word : List ℕ → ℕ → ℕ
word s at = get_or s at 0 + 256 * get_or s (at + 1) 0 + 65536 * get_or s (at + 2) 0 + 16777216 * get_or s (at + 3) 0

unfoldable pub bytes_of : ℕ → List ℕ
bytes_of w = w % 256 ∷ (w / 256 % 256 ∷ (w / 65536 % 256 ∷ (w / 16777216 % 256 ∷ [])))

-- Rule L2: the binary32 of these four bytes, as a number, exactly
unfoldable pub widened : List ℕ → ℕ → Float
widened s at = of_single (word s at)

-- the four bytes of a number that is exactly a binary32
unfoldable pub narrowed : Float → List ℕ
narrowed x = bytes_of (single_bits x)

-- ---- a triangle: normal, v0, v1, v2, an attribute of two bytes
unfoldable pub vector_in : List ℕ → ℕ → Vec3
vector_in s at = vec (widened s at) (widened s (at + 4)) (widened s (at + 8))

-- Rule L2: the normal is first in a file
unfoldable pub triangle_in : List ℕ → ℕ → Triangle
triangle_in s at = record { normal = vector_in s at; v0 = vector_in s (at + 12); v1 = vector_in s (at + 24); v2 = vector_in s (at + 36) }

unfoldable pub vector_bytes : Vec3 → List ℕ
vector_bytes a = narrowed a.x ++ (narrowed a.y ++ narrowed a.z)

-- Rule L3: and what is written has a zero attribute
unfoldable pub record_of : Triangle → List ℕ
record_of t = vector_bytes t.normal ++ (vector_bytes t.v0 ++ (vector_bytes t.v1 ++ (vector_bytes t.v2 ++ (0 ∷ (0 ∷ [])))))

-- ---- n triangles
abbrev pub three_of : Vec3 → List Float → List Float
three_of a rest = a.x ∷ (a.y ∷ (a.z ∷ rest))

-- Rule L2: the normal is last in a mesh
unfoldable pub numbers_of : Triangle → List Float
numbers_of t = three_of t.v0 (three_of t.v1 (three_of t.v2 (three_of t.normal [])))

-- Rule L2: the mesh of n triangles that a file holds from a place on
unfoldable pub mesh_in : List ℕ → ℕ → ℕ → List Float
mesh_in s at n = records (λ i. numbers_of (triangle_in s (at + 50 * i))) n

-- the bytes of the first n triangles of a mesh
unfoldable pub records_of : List Float → ℕ → List ℕ
records_of mesh n = records (λ i. record_of (triangle_at mesh i)) n

-- Rule L3: the file of them, with a zero header
unfoldable pub file_of : List Float → ℕ → List ℕ
file_of mesh n = replicate 80 0 ++ (bytes_of n ++ records_of mesh n)
