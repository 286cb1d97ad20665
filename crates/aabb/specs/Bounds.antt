-- Axis-aligned boxes (rules B1 to B7, N4). Definitions only.
use Rattle.std.specs.Prelude.{ℕ, ◌+◌, ◌*◌, Bool, ◌&&◌, ◌||◌, cond, List, T, Float}
use Rattle.std.specs.Float.{binary64}
use Rattle.std.specs.Float.Ieee.{add, mul, neg, lt}
use Rattle.float.specs.Number.{real, nought, half, two, two_to_40, infinity}
use Rattle.aabb.specs.declared.vector.Vec3.{Vec3}
use Rattle.aabb.specs.declared.bounds.Aabb.{Aabb}
use Rattle.aabb.specs.Vector.{vec, all, plus, minus, scaled, least, greatest, lowest, highest, all_within, all_at_most, all_equal, vector_at}

abbrev pub box : Vec3 → Vec3 → Aabb
box a b = record { min = a; max = b }

-- Rule B1: no point is in it
unfoldable pub empty_box : Aabb
empty_box = box (vec infinity infinity infinity) (vec (neg infinity) (neg infinity) (neg infinity))

-- Rule B2: a point more
unfoldable pub grown : Aabb → Vec3 → Aabb
grown b p = box (least b.min p) (greatest b.max p)

-- Rule B3: a box more
unfoldable pub union : Aabb → Aabb → Aabb
union b o = box (least b.min o.min) (greatest b.max o.max)

-- no number of the box is a NaN: so it is with every box that has grown from the empty one
pub record Clear (b : Aabb) : Type 0 where
  pub low : T (all real b.min)
  pub high : T (all real b.max)

-- grown, and the union, by one comparison a number: the same where the first box is clear (proofs/Running.antt)
unfoldable pub widened : Aabb → Vec3 → Aabb
widened b p = box (lowest b.min p) (highest b.max p)

unfoldable pub joined : Aabb → Aabb → Aabb
joined b o = box (lowest b.min o.min) (highest b.max o.max)

-- Rule B4: three points, one after the other
unfoldable pub of_three : Vec3 → Vec3 → Vec3 → Aabb
of_three p q r = grown (grown (grown empty_box p) q) r

-- Rule B5: halfway from min to max, and how far it is
unfoldable pub center : Aabb → Vec3
center b = scaled (plus b.min b.max) half

unfoldable pub extent : Aabb → Vec3
extent b = minus b.max b.min

-- Rule B6: twice the sum of the three faces; nothing where an extent is negative
unfoldable pub area_of : Vec3 → Float
area_of d =
    cond (lt d.x nought || (lt d.y nought || lt d.z nought)) nought
    (mul binary64 two (add binary64 (add binary64 (mul binary64 d.x d.y) (mul binary64 d.y d.z)) (mul binary64 d.z d.x)))

unfoldable pub area : Aabb → Float
area b = area_of (extent b)

-- Rule N4: no number beyond 2^40, no min above its max
unfoldable pub bounded : Aabb → Bool
bounded b = all_within two_to_40 b.min && (all_within two_to_40 b.max && all_at_most b.min b.max)

-- Rule N4: the empty box, numerically
unfoldable pub is_empty : Aabb → Bool
is_empty b = all_equal infinity b.min && all_equal (neg infinity) b.max

-- Rule N4: the one or the other
unfoldable pub usable : Aabb → Bool
usable b = bounded b || is_empty b

-- Rule B7: the first box numerically contains the second
unfoldable pub contains : Aabb → Aabb → Bool
contains b a = all_at_most b.min a.min && all_at_most a.max b.max

-- Rule B7: the box numerically holds the point
unfoldable pub holds : Aabb → Vec3 → Bool
holds b p = all_at_most b.min p && all_at_most p b.max

-- Rule D3: box i of a lent slice, six numbers, min before max
unfoldable pub box_at : List Float → ℕ → Aabb
box_at numbers i = box (vector_at numbers (i * 6)) (vector_at numbers (i * 6 + 3))
