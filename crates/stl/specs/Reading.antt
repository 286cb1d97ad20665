-- Reading, on every input (rule L4). Definitions only.
use Rattle.std.specs.Prelude.{ℕ, ◌+◌, ◌*◌, not, List, [], ◌∷◌, ◌++◌, ltb, eqb, length, drop, replicate, Float}
use Rattle.lent.specs.Limits.{most_triangles}
use Rattle.lent.specs.Ladder.{check, unless}
use Rattle.triangle.specs.Mesh.{first_refused, unadmitted}
use Rattle.stl.specs.Layout.{count_at, word, mesh_in}
use Rattle.stl.specs.Answers.{Read, read_as, served, refused}

-- Rule L4: n triangles of a file, whose count stands at a place, into the lent rooms; room beyond them stays. Refused, and nothing written: 15 a file that is cut
-- before the count's end, or not as long as the count says; 2 too many; 16 room too short, for the triangles or for the materials; 5 the lowest triangle that
-- isn't admitted
unfoldable pub read_count : List ℕ → ℕ → ℕ → List Float → List ℕ → Read
read_count file at n triangles materials =
    unless
    (check (ltb (length file) (at + 4)) 15 0
    ∷ check (not (eqb (length file) (at + 4 + 50 * n))) 15 0
    ∷ check (ltb most_triangles n) 2 n
    ∷ check (ltb (length triangles) (12 * n)) 16 0
    ∷ check (ltb (length materials) n) 16 0
    ∷ unadmitted (first_refused (mesh_in file (at + 4) n) 0 n)
    ∷ [])
    (λ number at. read_as (refused number at) triangles materials)
    (read_as (served n) (mesh_in file (at + 4) n ++ drop (12 * n) triangles) (replicate n 0 ++ drop n materials))

-- with the count that stands there
unfoldable pub read_from : List ℕ → ℕ → List Float → List ℕ → Read
read_from file at triangles materials = read_count file at (word file at) triangles materials

-- Rule L4: from the place after the header
unfoldable pub read_stl : List ℕ → List Float → List ℕ → Read
read_stl file triangles materials = read_from file count_at triangles materials
