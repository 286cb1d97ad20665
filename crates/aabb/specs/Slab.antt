-- The slab test (rules B8 to B12). Definitions only.
use Rattle.std.specs.Prelude.{ℕ, zero, suc, Bool, true, false, ◌||◌, cond, Float, Option, Some, None}
use Rattle.std.specs.Float.{binary64}
use Rattle.std.specs.Float.Ieee.{sub, mul, div, lt}
use Rattle.float.specs.Number.{nought, one, trillionth, infinity}
use Rattle.float.specs.Pick.{magnitude, lesser, greater}
use Rattle.aabb.specs.declared.vector.Ray.{Ray}
use Rattle.aabb.specs.declared.bounds.Aabb.{Aabb}
use Rattle.aabb.specs.declared.slab.Span.{Span}
use Rattle.aabb.specs.declared.slab.Sight.{Sight}
use Rattle.aabb.specs.declared.slab.Aim.{Aim}
use Rattle.aabb.specs.Vector.{along}

-- ---- what of a ray is the same for every box
-- Rules B9 and B10: on one axis the direction's inverse, and whether the ray is flat there
unfoldable pub sighted : Float → Float → Sight
sighted origin dir = record { origin = origin; inv = div binary64 one dir; flat = lt (magnitude dir) trillionth }

unfoldable pub aimed : Ray → Aim
aimed r = record {
  ray = r;
  x = sighted r.origin.x r.direction.x;
  y = sighted r.origin.y r.direction.y;
  z = sighted r.origin.z r.direction.z;
}

unfoldable pub sight_on : ℕ → Aim → Sight
sight_on zero m = m.x
sight_on (suc zero) m = m.y
sight_on (suc (suc k)) m = m.z

-- ---- one axis
-- a ray that is in the box from one time to another
abbrev pub passed : Float → Float → Option Span
passed enter exit = Some (record { enter = enter; exit = exit })

-- Rule B10: when the ray reaches a plane across the axis
unfoldable pub reach : Sight → Float → Float
reach s plane = mul binary64 (sub binary64 plane s.origin) s.inv

-- Rule B10: the sooner of the two, and the later
unfoldable pub first : Float → Float → Float
first t0 t1 = cond (lt t1 t0) t1 t0

unfoldable pub second : Float → Float → Float
second t0 t1 = cond (lt t1 t0) t0 t1

-- Rule B9: a flat ray stays between the planes, or misses
unfoldable pub parallel : Float → Float → Float → Float → Float → Option Span
parallel origin min max enter exit = cond (lt origin min || lt max origin) None (passed enter exit)

-- Rule B10: a miss where it would leave before it enters
unfoldable pub unless_later : Float → Float → Option Span
unless_later enter exit = cond (lt exit enter) None (passed enter exit)

-- Rule B10: what is left of the span between the two planes
unfoldable pub clipped : Float → Float → Float → Float → Option Span
clipped t0 t1 enter exit = unless_later (greater enter (first t0 t1)) (lesser exit (second t0 t1))

unfoldable pub narrowed : Sight → Float → Float → Float → Float → Option Span
narrowed s min max enter exit = cond s.flat (parallel s.origin min max enter exit) (clipped (reach s min) (reach s max) enter exit)

-- ---- the axes
-- Rule B11: after a miss no axis is looked at
unfoldable pub and_then : Option Span → (Float → Float → Option Span) → Option Span
and_then None next = None
and_then (Some s) next = next s.enter s.exit

-- Rule B11: what lies behind the ray is missed
unfoldable pub ahead : Float → Float → Option Span
ahead enter exit = cond (lt exit nought) None (passed enter exit)

unfoldable pub on_axis : Aim → Aabb → ℕ → Float → Float → Option Span
on_axis m b axis enter exit = narrowed (sight_on axis m) (along axis b.min) (along axis b.max) enter exit

-- Rule B8: the axes from `axis` on, as many as `left` says
unfoldable pub through_from : Aim → Aabb → ℕ → ℕ → Float → Float → Option Span
through_from m b zero axis enter exit = ahead enter exit
through_from m b (suc left) axis enter exit = and_then (on_axis m b axis enter exit) (through_from m b left (suc axis))

-- Rule B8: all three, from 0 to +inf
unfoldable pub through : Aim → Aabb → Option Span
through m b = through_from m b 3 0 nought infinity

unfoldable pub slab : Ray → Aabb → Option Span
slab r b = through (aimed r) b

abbrev pub is_passed : Option Span → Bool
is_passed None = false
is_passed (Some s) = true

-- Rule B12: the ray passes the box
abbrev pub passes : Ray → Aabb → Bool
passes r b = is_passed (slab r b)
