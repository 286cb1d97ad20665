-- Many rays at once (rules K1 to K4): what the call answers and leaves in the lent answer room, through the single walk's definition. Definitions only.
use Rattle.std.specs.Prelude.{ℕ, ◌+◌, ◌*◌, ◌/◌, ◌%◌, not, List, [], ◌∷◌, ◌++◌, ltb, eqb, length, get_or, drop, Float, Option, Some, None}
use Rattle.std.specs.Float.{nan}
use Rattle.lent.specs.Ladder.{Refusal, none, numbered, Check, check, unless, ragged, crowded, unlabelled}
use Rattle.lent.specs.Flat.{records}
use Rattle.float.specs.Number.{nought}
use Rattle.aabb.specs.Vector.{ray_at}
use Rattle.triangle.specs.declared.Hit.{Hit}
use Rattle.tree.specs.Lent.{Mesh, Lent}
use Rattle.walk.specs.Answer.{Told}
use Rattle.walk.specs.Walk.{walk}
use Rattle.sky.specs.declared.Place.{Place}

-- Rule D6: six numbers a ray
abbrev pub ray_count : List Float → ℕ
ray_count rays = length rays / 6

-- ---- one place
-- Rule K2: how the walk ended, what was hit or refused, t, u, v, both counts, and the material; zeros for what there isn't
unfoldable pub placed : Refusal → Option Hit → ℕ → ℕ → Place
placed none (Some h) boxes triangles = record { outcome = 100; which = h.triangle; t = h.t; u = h.u; v = h.v; boxes = boxes; triangles = triangles; material = h.material }
placed none None boxes triangles = record { outcome = 0; which = 0; t = nought; u = nought; v = nought; boxes = boxes; triangles = triangles; material = 0 }
placed (numbered number at) hit boxes triangles = record { outcome = number; which = at; t = nought; u = nought; v = nought; boxes = 0; triangles = 0; material = 0 }

unfoldable pub place_of : Told → Place
place_of a = placed a.refusal a.hit a.boxes a.triangles

-- Rule K1: as the single walk of the ray
unfoldable pub place_for : Lent → List Float → ℕ → Place
place_for s rays k = place_of (walk s (ray_at rays k))

-- Rule K2: five whole numbers a place
abbrev pub told_of : Place → List ℕ
told_of p = p.outcome ∷ p.which ∷ p.boxes ∷ p.triangles ∷ p.material ∷ []

abbrev pub told_for : Lent → List Float → ℕ → List ℕ
told_for s rays k = told_of (place_for s rays k)

-- Rule K2: and three floats
abbrev pub times_of : Place → List Float
times_of p = p.t ∷ p.u ∷ p.v ∷ []

abbrev pub times_for : Lent → List Float → ℕ → List Float
times_for s rays k = times_of (place_for s rays k)

-- place k of the answer room, as a caller reads it
abbrev pub place_at : List Float → List ℕ → ℕ → Place
place_at times told k = record {
  outcome = get_or told (k * 5) 0;
  which = get_or told (k * 5 + 1) 0;
  t = get_or times (k * 3) nan;
  u = get_or times (k * 3 + 1) nan;
  v = get_or times (k * 3 + 2) nan;
  boxes = get_or told (k * 5 + 2) 0;
  triangles = get_or told (k * 5 + 3) 0;
  material = get_or told (k * 5 + 4) 0;
}

-- ---- the call
-- the refusal if there is one, and what the lent answer room holds at the end
pub record Filling : Type 0 where
  pub refusal : Refusal
  pub times : List Float
  pub told : List ℕ

abbrev pub filling : Refusal → List Float → List ℕ → Filling
filling refusal times told = record { refusal = refusal; times = times; told = told }

-- Rule K3: one place for each of n rays; room beyond them stays
unfoldable pub filled : Lent → List Float → ℕ → List Float → List ℕ → Filling
filled s rays n times told = filling none (records (times_for s rays) n ++ drop (n * 3) times) (records (told_for s rays) n ++ drop (n * 5) told)

-- Rule K4: the checks of the whole call: the mesh (1, 2) and its materials (18), rays that are not in sixes (14), and room that is too short in times
-- or in told (13)
unfoldable pub sky_checks : Mesh → List Float → List Float → List ℕ → List Check
sky_checks m rays times told =
    ragged m.triangles
    ∷ crowded m.triangles
    ∷ unlabelled m.triangles m.materials
    ∷ check (not (eqb (length rays % 6) 0)) 14 0
    ∷ check (ltb (length times) (ray_count rays * 3)) 13 0
    ∷ check (ltb (length told) (ray_count rays * 5)) 13 0
    ∷ []

-- Rule K4: where it is refused it writes nothing
unfoldable pub sky : Lent → List Float → List Float → List ℕ → Filling
sky s rays times told =
    unless (sky_checks s.mesh rays times told) (λ number at. filling (numbered number at) times told) (filled s rays (ray_count rays) times told)
