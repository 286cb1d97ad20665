-- The walk of one ray through one mesh, with its counts and its refusals, on any lists (rules W1 to W8, E1). Definitions only.
use Rattle.std.specs.Prelude.{ℕ, ◌+◌, Bool, not, cond, List, [], ◌∷◌, leb, ltb, get_or, Float, Option, Some, None}
use Rattle.std.specs.Float.Ieee.{lt, le}
use Rattle.lent.specs.Ladder.{none, numbered, check, unless, triangle_count, ragged, crowded, unlabelled}
use Rattle.float.specs.Number.{infinity}
use Rattle.aabb.specs.declared.vector.Ray.{Ray}
use Rattle.aabb.specs.Vector.{admitted_ray}
use Rattle.triangle.specs.declared.Hit.{Hit}
use Rattle.triangle.specs.Mesh.{triangle_at, admitted_triangle}
use Rattle.triangle.specs.Meeting.{distance, hit_at}
use Rattle.walk.specs.declared.tally.Met.{Met}
use Rattle.walk.specs.declared.tally.Tally.{Tally}
use Rattle.tree.specs.Lent.{Mesh, Lent, material_of, node_count}
use Rattle.tree.specs.Node.{misfit}
use Rattle.walk.specs.Answer.{Told}
use Rattle.walk.specs.Steps.{Went, on, stop, steps}

-- ---- the tally: the two counts, and the hit so far, by its t and its triangle's number
-- the hit so far: the triangle of this number, at this t
abbrev pub met : Float → ℕ → Option Met
met t k = Some (record { t = t; number = k })

-- Rule W1: nothing counted, nothing found
abbrev pub start : Tally
start = record { boxes = 0; triangles = 0; nearest = None }

-- Rule W3: counts one box test
unfoldable pub boxed : Tally → Tally
boxed a = record { boxes = a.boxes + 1; triangles = a.triangles; nearest = a.nearest }

-- Rule E1: whether triangle k, found at t, replaces the hit: at a smaller t it does, and at numerically equal t if its number is lower
unfoldable pub replaces : Option Met → ℕ → Float → Bool
replaces None k t = lt t infinity
replaces (Some m) k t = cond (ltb k m.number) (le t m.t) (lt t m.t)

unfoldable pub nearer : Option Met → ℕ → Option Float → Option Met
nearer best k None = best
nearer best k (Some t) = cond (replaces best k t) (met t k) best

-- what the test of triangle k leaves as the nearest
unfoldable pub after : List Float → Ray → ℕ → Option Met → Option Met
after mesh r k best = nearer best k (distance r (triangle_at mesh k))

-- Rule W4: triangle k is tested, and the test counted
unfoldable pub tested : List Float → Ray → ℕ → Tally → Tally
tested mesh r k a = record { boxes = a.boxes; triangles = a.triangles + 1; nearest = after mesh r k a.nearest }

-- ---- the walk
-- Rule W8: a number and a place, and nothing else
abbrev pub refused : ℕ → ℕ → Told
refused k i = record { refusal = numbered k i; hit = None; boxes = 0; triangles = 0 }

-- Rule W6: the hit, made from its t and its triangle's number, with the triangle's material
unfoldable pub hit_of : Mesh → Ray → Option Met → Option Hit
hit_of m r None = None
hit_of m r (Some b) = Some (hit_at r (triangle_at m.triangles b.number) b.number (material_of m b.number) b.t)

-- Rule W6: when no node is pending any more
unfoldable pub over : Mesh → Ray → Tally → Told
over m r a = record { refusal = none; hit = hit_of m r a.nearest; boxes = a.boxes; triangles = a.triangles }

-- Rule W4: an entry of a leaf: it must be a triangle (10) that is admitted (5), and is then tested
unfoldable pub triangle_entry : List Float → List ℕ → Ray → ℕ → Tally → Went Tally
triangle_entry mesh index r p a =
    cond (leb (triangle_count mesh) (get_or index p 0)) (stop 10 p)
    (cond (admitted_triangle (triangle_at mesh (get_or index p 0))) (on (tested mesh r (get_or index p 0) a)) (stop 5 (get_or index p 0)))

-- Rules W6 and W8: how the steps end
abbrev pub ended : Mesh → Ray → Went Tally → Told
ended m r (on a) = over m r a
ended m r (stop number at) = refused number at

-- Rules W2 and W7: the steps (Steps.antt) over the triangles of one mesh; a box test is counted
unfoldable pub run : Lent → Ray → ℕ → List ℕ → Tally → Told
run s r left pending a = ended s.mesh r (steps boxed (triangle_entry s.mesh.triangles s.tree.index r) s.tree r left pending a)

-- Rule W1, after what can be told before any step: 1, 2, 18, 7 and 8, the first of these that holds
unfoldable pub walk : Lent → Ray → Told
walk s r =
    unless
    (ragged s.mesh.triangles
    ∷ crowded s.mesh.triangles
    ∷ unlabelled s.mesh.triangles s.mesh.materials
    ∷ check (not (admitted_ray r)) 7 0
    ∷ check (misfit s.tree.boxes s.tree.links) 8 0
    ∷ [])
    refused
    (run s r (node_count s.tree.links) (0 ∷ []) start)
