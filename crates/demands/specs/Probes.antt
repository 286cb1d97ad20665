-- The probe table, P1 to P13: what is asked, and every number that must come of it. Definitions only.
use Rattle.std.specs.Prelude.{ℕ, zero, suc, ◌*◌, ◌≡◌, Bool, true, false, List, [], ◌∷◌, ◌++◌, replicate, pos, negsuc, Float, Option, Some, None}
use Rattle.std.specs.Float.{inf, fin}
use Rattle.aabb.specs.declared.vector.Vec3.{Vec3}
use Rattle.aabb.specs.declared.vector.Ray.{Ray}
use Rattle.aabb.specs.declared.bounds.Aabb.{Aabb}
use Rattle.aabb.specs.declared.slab.Span.{Span}
use Rattle.aabb.specs.Vector.{vec}
use Rattle.aabb.specs.Bounds.{box, box_at}
use Rattle.aabb.specs.Slab.{passed, slab}
use Rattle.builder.specs.Reply.{served_reply}
use Rattle.builder.specs.declared.split.Split.{Split}
use Rattle.builder.specs.Choice.{split_at}
use Rattle.builder.specs.Tree.{decision}
use Rattle.lent.specs.Permutation.{up_to}
use Rattle.builder.specs.Build.{Outcome, outcome, room, built}
use Rattle.lent.specs.Ladder.{triangle_count}
use Rattle.lent.specs.Ladder.{none}
use Rattle.walk.specs.Answer.{Told}
use Rattle.walk.specs.Walk.{walk}
use Rattle.tree.specs.Lent.{Lent, lent}
use Rattle.demands.specs.Handed.{handed}

-- ---- numbers: n, for a whole n that is odd or 0; m·2^k; m/2^k (k from 1); and their negatives
abbrev int : ℕ → Float
int n = fin false n (pos 0)

abbrev times : ℕ → ℕ → Float
times m k = fin false m (pos k)

abbrev over : ℕ → ℕ → Float
over m zero = fin false m (pos 0)
over m (suc k) = fin false m (negsuc k)

abbrev minus : ℕ → Float
minus n = fin true n (pos 0)

abbrev quarter : Float
quarter = over 1 2

-- ---- what is asked
pub data Probe : Type 0 where
  -- a ray against a box: the times, or none
  slabbed : Ray → Aabb → Option Span → Probe
  -- a ray against the root's box, read from the built lists of a mesh
  slabbed_root : List Float → Ray → Option Span → Probe
  -- the split of a whole mesh
  split : List Float → Option Split → Probe
  -- a mesh, built in room that just suffices
  grown : List Float → Outcome → Probe
  -- a ray walked through the built tree of a mesh with these materials
  walked : List Float → List ℕ → Ray → Told → Probe
  -- a ray walked through these lists
  walked_in : Lent → Ray → Told → Probe

-- built in room that just suffices
unfoldable pub built_whole : List Float → Outcome
built_whole mesh = built mesh (replicate (triangle_count mesh) 0) (replicate (room (triangle_count mesh) * 6) (int 0)) (replicate (room (triangle_count mesh) * 3) 0)

-- node 0's box, as the built lists have it
unfoldable pub root_box : List Float → Aabb
root_box mesh = box_at (handed mesh [] (built_whole mesh)).tree.boxes 0

abbrev pub Claim : Probe → Type 0
Claim (slabbed r b s) = slab r b ≡ s
Claim (slabbed_root mesh r s) = slab r (root_box mesh) ≡ s
Claim (split mesh d) = decision mesh (up_to (triangle_count mesh)) ≡ d
Claim (grown mesh o) = built_whole mesh ≡ o
Claim (walked mesh materials r t) = walk (handed mesh materials (built_whole mesh)) r ≡ t
Claim (walked_in s r t) = walk s r ≡ t

-- every row's claim
abbrev pub All : List Probe → Type 0
All [] = Unit {0}
All (p ∷ ps) = Claim p × All ps

-- ---- what the rows speak of
abbrev ray : Vec3 → Vec3 → Ray
ray o d = record { origin = o; direction = d }

-- down along z
abbrev down : Float → Float → Float → Ray
down x y z = ray (vec x y z) (vec (int 0) (int 0) (minus 1))

abbrev missed : ℕ → ℕ → Told
missed b c = record { refusal = none; hit = None; boxes = b; triangles = c }

abbrev struck : Float → Vec3 → Vec3 → Float → Float → Bool → ℕ → ℕ → ℕ → ℕ → Told
struck t point normal u v front k m b c = record { refusal = none; hit = Some (record { t = t; point = point; normal = normal; u = u; v = v; front = front; triangle = k; material = m }); boxes = b; triangles = c }

-- the triangle T: right-angled, its legs of 1 along x and y
abbrev up : Vec3
up = vec (int 0) (int 0) (int 1)

abbrev triangle : Float → Float → Float → List Float
triangle s t h = s ∷ int 0 ∷ int 0 ∷ t ∷ int 0 ∷ int 0 ∷ s ∷ h ∷ int 0 ∷ int 0 ∷ int 0 ∷ int 1 ∷ []

abbrev T : List Float
T = triangle (int 0) (int 1) (int 1)

abbrev flat : List Float
flat = int 0 ∷ int 0 ∷ int 0 ∷ int 1 ∷ int 1 ∷ int 0 ∷ []

abbrev infinite : List Float
infinite = inf false ∷ inf false ∷ inf false ∷ inf true ∷ inf true ∷ inf true ∷ []

abbrev unit : Aabb
unit = box (vec (int 0) (int 0) (int 0)) (vec (int 1) (int 1) (int 1))

-- a third, as three times the ninth is rounded
abbrev third : Float
third = over 6004799503160661 54

-- its material
abbrev wall : List ℕ
wall = 70 ∷ []

-- five in a row along x, with legs of 3, one every 16
abbrev five : List Float
five = triangle (int 0) (int 3) (int 3) ++ triangle (times 1 4) (int 19) (int 3) ++ triangle (times 1 5) (int 35) (int 3) ++ triangle (times 3 4) (int 51) (int 3) ++ triangle (times 1 6) (int 67) (int 3)

-- and a material for each
abbrev kinds : List ℕ
kinds = 80 ∷ 81 ∷ 82 ∷ 83 ∷ 84 ∷ []

abbrev along_x : Float → Float → List Float
along_x a b = a ∷ int 0 ∷ int 0 ∷ b ∷ int 3 ∷ int 0 ∷ []

-- three in a row along x, with legs of 1, one every 10, and two trees over one leaf each: the first two are below one node, or the last two
abbrev three : List Float
three = T ++ triangle (times 5 1) (int 11) (int 1) ++ triangle (times 5 2) (int 21) (int 1)

abbrev strip : Float → Float → List Float
strip a b = a ∷ int 0 ∷ int 0 ∷ b ∷ int 1 ∷ int 0 ∷ []

abbrev first_two : Lent
first_two =
    lent three (70 ∷ 71 ∷ 72 ∷ []) (0 ∷ 1 ∷ 2 ∷ [])
    (strip (int 0) (int 21) ++ strip (int 0) (int 11) ++ strip (times 5 2) (int 21) ++ strip (int 0) (int 1) ++ strip (times 5 1) (int 11))
    (1 ∷ 0 ∷ 0 ∷ 3 ∷ 0 ∷ 0 ∷ 2 ∷ 1 ∷ 1 ∷ 0 ∷ 1 ∷ 1 ∷ 1 ∷ 1 ∷ 1 ∷ [])

abbrev last_two : Lent
last_two =
    lent three (70 ∷ 71 ∷ 72 ∷ []) (0 ∷ 1 ∷ 2 ∷ [])
    (strip (int 0) (int 21) ++ strip (int 0) (int 1) ++ strip (times 5 1) (int 21) ++ strip (times 5 1) (int 11) ++ strip (times 5 2) (int 21))
    (1 ∷ 0 ∷ 0 ∷ 0 ∷ 1 ∷ 1 ∷ 3 ∷ 0 ∷ 0 ∷ 1 ∷ 1 ∷ 1 ∷ 2 ∷ 1 ∷ 1 ∷ [])

-- ---- the table
unfoldable pub probes : List Probe
probes =
    -- P1: the tree of no triangles is one node, whose box a slanting ray passes and one that is flat on an axis does not
    grown [] (outcome (served_reply 1 1) [] infinite (0 ∷ 0 ∷ 1 ∷ [])) ∷
    slabbed_root [] (ray (vec quarter quarter (int 1)) (vec (int 1) (int 1) (int 1))) (passed (int 0) (inf false)) ∷
    slabbed_root [] (down quarter quarter (int 1)) None ∷
    walked [] [] (ray (vec quarter quarter (int 1)) (vec (int 1) (int 1) (int 1))) (missed 1 0) ∷
    walked [] [] (down quarter quarter (int 1)) (missed 1 0) ∷
    -- P2: T from above is met at 1, from the front, after one test of each kind
    grown T (outcome (served_reply 1 1) (0 ∷ []) flat (0 ∷ 1 ∷ 1 ∷ [])) ∷
    walked T wall (down quarter quarter (int 1)) (struck (int 1) (vec quarter quarter (int 0)) up quarter quarter true 0 70 1 1) ∷
    -- P3: and from below, from the back, the normal turned round
    walked T wall (ray (vec quarter quarter (minus 1)) up) (struck (int 1) (vec quarter quarter (int 0)) (vec (minus 0) (minus 0) (minus 1)) quarter quarter false 0 70 1 1) ∷
    -- P4: inside T's box, but beyond its long side: both tests are made, the second misses
    walked T wall (down (over 3 2) (over 3 2) (int 1)) (missed 1 1) ∷
    -- P5: beside T's box: no triangle test
    walked T wall (down (times 1 1) quarter (int 1)) (missed 1 0) ∷
    -- P6: just on T's long side, u + v being 1, is a hit
    walked T wall (down (over 1 1) (over 1 1) (int 1)) (struck (int 1) (vec (over 1 1) (over 1 1) (int 0)) up (over 1 1) (over 1 1) true 0 70 1 1) ∷
    -- P7: from 2^-20 above T it is too near, from 2^-19 it is not
    walked T wall (down quarter quarter (over 1 20)) (missed 1 1) ∷
    walked T wall (down quarter quarter (over 1 19)) (struck (over 1 19) (vec quarter quarter (int 0)) up quarter quarter true 0 70 1 1) ∷
    -- P8: above the unit cube, a direction of length 2^-40 is flat on all axes, and one of 2^-39 is not
    slabbed (ray (vec (over 1 1) (over 1 1) (times 1 1)) (vec (int 0) (int 0) (fin true 1 (negsuc 39)))) unit None ∷
    slabbed (ray (vec (over 1 1) (over 1 1) (times 1 1)) (vec (int 0) (int 0) (fin true 1 (negsuc 38)))) unit (passed (times 1 39) (times 1 40)) ∷
    -- P9: T five times over is one leaf
    grown (T ++ T ++ T ++ T ++ T) (outcome (served_reply 1 1) (0 ∷ 1 ∷ 2 ∷ 3 ∷ 4 ∷ []) (flat ++ replicate 48 (int 0)) (0 ∷ 5 ∷ 1 ∷ replicate 24 0)) ∷
    -- P10: the row of five is split on x at 21, two to the left and three to the right
    split five (split_at 0 (int 21)) ∷
    grown five
    (outcome (served_reply 3 2) (0 ∷ 1 ∷ 3 ∷ 4 ∷ 2 ∷ []) (along_x (int 0) (int 67) ++ along_x (int 0) (int 19) ++ along_x (times 1 5) (int 67) ++ replicate 36 (int 0))
    (1 ∷ 0 ∷ 0 ∷ 0 ∷ 2 ∷ 1 ∷ 2 ∷ 3 ∷ 1 ∷ replicate 18 0)) ∷
    -- P11: down on the second of the row: three box tests, and the left leaf's two triangles
    walked five kinds (down (int 17) (int 1) (int 1)) (struck (int 1) (vec (int 17) (int 1) (int 0)) up third third true 1 81 3 2) ∷
    -- P12: down between the leaves' boxes: three box tests, no triangle test
    walked five kinds (down (int 25) (int 1) (int 1)) (missed 3 0) ∷
    -- P13: three leaves, put together in two ways: the same hit, and five box tests or three
    walked_in first_two (down quarter quarter (int 1)) (struck (int 1) (vec quarter quarter (int 0)) up quarter quarter true 0 70 5 1) ∷
    walked_in last_two (down quarter quarter (int 1)) (struck (int 1) (vec quarter quarter (int 0)) up quarter quarter true 0 70 3 1) ∷
    []
