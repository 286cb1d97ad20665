-- A union contains both its boxes, and the box of three points holds them: on each axis `lesser` is below both numbers and `greater` above both. Each stays bounded.
-- Assumes nothing.
use mathlib.Core.Path.{◌≡◌, refl}
use mathlib.Core.Bool.{Bool, true, false, ◌&&◌, ◌||◌, cond}
use lib.Dec.{T}
use lib.Ieee.{Float, nan, inf, fin, neg, lt, le, is_nan}
use lib.Ieee.Fits.{and_l, and_r, and_i}
use lib.Ieee.Scale.{finite}
use Rattle.float.specs.Number.{real, two_to_40, infinity}
use Rattle.float.specs.Pick.{magnitude, lesser, greater}
use Rattle.float.proofs.Cases.{or_l}
use Rattle.float.proofs.Numbers.{infinity_is}
use Rattle.float.proofs.Order.{finite_real, le_refl, le_trans}
use Rattle.float.proofs.Bounds.{two_to_40_finite}
use Rattle.float.proofs.Pick.{lesser_left, lesser_right, greater_left, greater_right}
use Rattle.aabb.specs.declared.vector.Vec3.{Vec3}
use Rattle.aabb.specs.declared.bounds.Aabb.{Aabb}
use Rattle.aabb.specs.Vector.{vec, along, all, within, all_within, all_at_most, least, greatest}
use Rattle.aabb.specs.Bounds.{box, empty_box, Clear, grown, union, of_three, bounded, is_empty, usable, contains, holds}
use Rattle.aabb.proofs.Axis.{all_along, all_from, within_along, at_most_along, at_most_from, along_least, along_greatest}

-- ---- vectors
pub at_most_refl : (a : Vec3) → T (all real a) → T (all_at_most a a)
at_most_refl a h = at_most_from a a (λ k. le_refl (along k a) (all_along real a k h))

pub at_most_trans : (a b c : Vec3) → T (all_at_most a b) → T (all_at_most b c) → T (all_at_most a c)
at_most_trans a b c h j = at_most_from a c (λ k. le_trans (along k a) (along k b) (along k c) (at_most_along a b k h) (at_most_along b c k j))

pub within_real : (a : Vec3) → T (all_within two_to_40 a) → T (all real a)
within_real a h = all_from real a (λ k. finite_real (along k a) (two_to_40_finite (along k a) (within_along two_to_40 k a h)))

module _ (a b : Vec3) (p : T (all real a)) (q : T (all real b)) where
  least_left : T (all_at_most (least a b) a)
  least_left = at_most_from (least a b) a (λ k. rw (along_least a b k) (lesser_left (along k a) (along k b) (all_along real a k p) (all_along real b k q)))

  least_right : T (all_at_most (least a b) b)
  least_right = at_most_from (least a b) b (λ k. rw (along_least a b k) (lesser_right (along k a) (along k b) (all_along real a k p) (all_along real b k q)))

  greatest_left : T (all_at_most a (greatest a b))
  greatest_left = at_most_from a (greatest a b) (λ k. rw (along_greatest a b k) (greater_left (along k a) (along k b) (all_along real a k p) (all_along real b k q)))

  greatest_right : T (all_at_most b (greatest a b))
  greatest_right = at_most_from b (greatest a b) (λ k. rw (along_greatest a b k) (greater_right (along k a) (along k b) (all_along real a k p) (all_along real b k q)))

-- what is picked is one of the two
picked : (t : Bool) (a b : Float) (P : Float → Bool) → T (P a) → T (P b) → T (P (cond t a b))
picked true a b P p q = p
picked false a b P p q = q

lesser_one : (P : Float → Bool) (run x : Float) → T (P run) → T (P x) → T (P (lesser run x))
unfolding lesser
lesser_one P run x p q = picked (lt x run || is_nan run) x run P q p

greater_one : (P : Float → Bool) (run x : Float) → T (P run) → T (P x) → T (P (greater run x))
unfolding greater
greater_one P run x p q = picked (lt run x || is_nan run) x run P q p

module _ (P : Float → Bool) (a b : Vec3) (p : T (all P a)) (q : T (all P b)) where
  least_all : T (all P (least a b))
  least_all = all_from P (least a b) (λ k. rw (along_least a b k) (lesser_one P (along k a) (along k b) (all_along P a k p) (all_along P b k q)))

  greatest_all : T (all P (greatest a b))
  greatest_all = all_from P (greatest a b) (λ k. rw (along_greatest a b k) (greater_one P (along k a) (along k b) (all_along P a k p) (all_along P b k q)))

-- ---- boxes
pub contains_trans : (c b a : Aabb) → T (contains c b) → T (contains b a) → T (contains c a)
unfolding contains
contains_trans c b a h k =
    and_i (all_at_most c.min a.min) (all_at_most a.max c.max) (at_most_trans c.min b.min a.min (search (and_l, and_r)) (search (and_l, and_r)))
    (at_most_trans a.max b.max c.max (search (and_l, and_r)) (search (and_l, and_r)))

module _ (b o : Aabb) (p : Clear b) (q : Clear o) where
  pub union_left : T (contains (union b o) b)
  unfolding contains union
  union_left =
      and_i (all_at_most (least b.min o.min) b.min) (all_at_most b.max (greatest b.max o.max)) (least_left b.min o.min p.low q.low) (greatest_left b.max o.max p.high q.high)

  pub union_right : T (contains (union b o) o)
  unfolding contains union
  union_right =
      and_i (all_at_most (least b.min o.min) o.min) (all_at_most o.max (greatest b.max o.max)) (least_right b.min o.min p.low q.low) (greatest_right b.max o.max p.high q.high)

-- the parts of `bounded`
pub record Bounded (b : Aabb) : Type 0 where
  pub low : T (all_within two_to_40 b.min)
  pub high : T (all_within two_to_40 b.max)
  pub ordered : T (all_at_most b.min b.max)

pub bounded_parts : (b : Aabb) → T (bounded b) → Bounded b
unfolding bounded
bounded_parts b h = record { low = search (and_l, and_r); high = search (and_l, and_r); ordered = search (and_l, and_r) }

pub parts_bounded : (b : Aabb) → Bounded b → T (bounded b)
unfolding bounded
parts_bounded b p =
    and_i (all_within two_to_40 b.min) (all_within two_to_40 b.max && all_at_most b.min b.max) p.low (and_i (all_within two_to_40 b.max) (all_at_most b.min b.max) p.high p.ordered)

pub bounded_numbers : (b : Aabb) → T (bounded b) → Clear b
bounded_numbers b h = let p = bounded_parts b h in record { low = within_real b.min p.low; high = within_real b.max p.high }

pub bounded_usable : (b : Aabb) → T (bounded b) → T (usable b)
unfolding usable
bounded_usable b h = or_l (bounded b) (is_empty b) h

-- ---- both operations keep a box bounded
least_within : (a b : Vec3) → T (all_within two_to_40 a) → T (all_within two_to_40 b) → T (all_within two_to_40 (least a b))
unfolding all_within
least_within a b p q = least_all (within two_to_40) a b p q

greatest_within : (a b : Vec3) → T (all_within two_to_40 a) → T (all_within two_to_40 b) → T (all_within two_to_40 (greatest a b))
unfolding all_within
greatest_within a b p q = greatest_all (within two_to_40) a b p q

pub union_bounded : (b o : Aabb) → T (bounded b) → T (bounded o) → T (bounded (union b o))
unfolding union
union_bounded b o h k =
    let p = bounded_parts b h in
    let q = bounded_parts o k in
    let n = bounded_numbers b h in
    let m = bounded_numbers o k in
    parts_bounded (box (least b.min o.min) (greatest b.max o.max)) (record {
      low = least_within b.min o.min p.low q.low;
      high = greatest_within b.max o.max p.high q.high;
      ordered =
          at_most_trans (least b.min o.min) b.min (greatest b.max o.max) (least_left b.min o.min n.low m.low)
          (at_most_trans b.min b.max (greatest b.max o.max) p.ordered (greatest_left b.max o.max n.high m.high));
    })

-- ---- the empty box adds nothing to a bounded one
finite_below : (x : Float) → T (finite x) → cond (lt x (inf false) || is_nan (inf false)) x (inf false) ≡ x
unfolding lt is_nan
finite_below nan h = absurd h
finite_below (inf s) h = absurd h
finite_below (fin s m e) h = refl

finite_above : (x : Float) → T (finite x) → cond (lt (neg (inf false)) x || is_nan (neg (inf false))) x (neg (inf false)) ≡ x
unfolding lt neg is_nan
finite_above nan h = absurd h
finite_above (inf s) h = absurd h
finite_above (fin s m e) h = refl

lesser_infinite : (x : Float) → T (le (magnitude x) two_to_40) → lesser infinity x ≡ x
unfolding lesser
lesser_infinite x h = rw infinity_is (finite_below x (two_to_40_finite x h))

greater_infinite : (x : Float) → T (le (magnitude x) two_to_40) → greater (neg infinity) x ≡ x
unfolding greater
greater_infinite x h = rw infinity_is (finite_above x (two_to_40_finite x h))

least_infinite : (a : Vec3) → T (all_within two_to_40 a) → least (vec infinity infinity infinity) a ≡ a
unfolding least along
least_infinite a h = rw (lesser_infinite a.x (within_along two_to_40 0 a h), lesser_infinite a.y (within_along two_to_40 1 a h), lesser_infinite a.z (within_along two_to_40 2 a h))

greatest_infinite : (a : Vec3) → T (all_within two_to_40 a) → greatest (vec (neg infinity) (neg infinity) (neg infinity)) a ≡ a
unfolding greatest along
greatest_infinite a h = rw (greater_infinite a.x (within_along two_to_40 0 a h), greater_infinite a.y (within_along two_to_40 1 a h), greater_infinite a.z (within_along two_to_40 2 a h))

pub union_empty : (o : Aabb) → T (bounded o) → union empty_box o ≡ o
unfolding union empty_box
union_empty o h = let p = bounded_parts o h in rw (least_infinite o.min p.low, greatest_infinite o.max p.high)

-- ---- the box of three points
module _ (p q r : Vec3) (P : T (all_within two_to_40 p)) (Q : T (all_within two_to_40 q)) (R : T (all_within two_to_40 r)) where
  point_bounded : (a : Vec3) → T (all_within two_to_40 a) → T (bounded (box a a))
  point_bounded a h = parts_bounded (box a a) (record { low = h; high = h; ordered = at_most_refl a (within_real a h) })

  abbrev two : Aabb
  two = union (box p p) (box q q)

  two_bounded : T (bounded two)
  two_bounded = union_bounded (box p p) (box q q) (point_bounded p P) (point_bounded q Q)

  three_is : of_three p q r ≡ union two (box r r)
  unfolding of_three grown union empty_box
  three_is = rw (least_infinite p P, greatest_infinite p P)

  pub three_bounded : T (bounded (of_three p q r))
  three_bounded = rw three_is (union_bounded two (box r r) two_bounded (point_bounded r R))

  within_three : (a : Aabb) → T (contains two a) → T (contains (of_three p q r) a)
  within_three a h = rw three_is (contains_trans (union two (box r r)) two a (union_left two (box r r) (bounded_numbers two two_bounded) (bounded_numbers (box r r) (point_bounded r R))) h)

  pub three_holds : T (holds (of_three p q r) p) × T (holds (of_three p q r) q) × T (holds (of_three p q r) r)
  unfolding holds contains
  three_holds =
      let n = bounded_numbers (box p p) (point_bounded p P) in
      let m = bounded_numbers (box q q) (point_bounded q Q) in (
        within_three (box p p) (union_left (box p p) (box q q) n m),
        within_three (box q q) (union_right (box p p) (box q q) n m),
        rw three_is (union_right two (box r r) (bounded_numbers two two_bounded) (bounded_numbers (box r r) (point_bounded r R))),
      )
