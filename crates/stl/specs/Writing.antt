-- Writing, on every input (rule L5). Definitions only.
use Rattle.std.specs.Prelude.{ℕ, Bool, true, false, not, ◌&&◌, List, [], ◌∷◌, ◌++◌, ltb, length, drop, Float, Option, Some, None}
use Rattle.lent.specs.Ladder.{Check, check, unless, triangle_count, ragged, crowded}
use Rattle.lent.specs.Lowest.{lowest}
use Rattle.float.specs.Single.{exactly32}
use Rattle.aabb.specs.Vector.{all}
use Rattle.triangle.specs.declared.Triangle.{Triangle}
use Rattle.triangle.specs.Mesh.{triangle_at, first_refused, unadmitted}
use Rattle.stl.specs.Layout.{file_length, file_of}
use Rattle.stl.specs.Answers.{Written, written_as, served, refused}

-- Rule L5: each of its numbers is exactly a binary32
unfoldable pub exact_triangle : Triangle → Bool
exact_triangle t = all exactly32 t.v0 && (all exactly32 t.v1 && (all exactly32 t.v2 && all exactly32 t.normal))

-- Refusal 17: the lowest of k triangle numbers from i on whose triangle has another number
abbrev pub inexact_at : List Float → ℕ → Bool
inexact_at mesh i = not (exact_triangle (triangle_at mesh i))

unfoldable pub first_inexact : List Float → ℕ → ℕ → Option ℕ
first_inexact mesh i k = lowest (inexact_at mesh) i k

-- check 17, with the lowest number
unfoldable pub inexact : Option ℕ → Check
inexact (Some i) = check true 17 i
inexact None = check false 17 0

-- Rule L5: the file of a mesh of n triangles, into the lent room; room beyond it stays. Refused, and nothing written: 1, 2, 5, 17, and 16 room too short
unfoldable pub write_count : List Float → ℕ → List ℕ → Written
write_count mesh n file =
    unless
    (ragged mesh
    ∷ crowded mesh
    ∷ unadmitted (first_refused mesh 0 n)
    ∷ inexact (first_inexact mesh 0 n)
    ∷ check (ltb (length file) (file_length n)) 16 0
    ∷ [])
    (λ number at. written_as (refused number at) file)
    (written_as (served (file_length n)) (file_of mesh n ++ drop (file_length n) file))

unfoldable pub write_stl : List Float → List ℕ → Written
write_stl mesh file = write_count mesh (triangle_count mesh) file
