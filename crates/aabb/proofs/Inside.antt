-- A ray that passes a box passes every box that contains it: it enters that one no later and leaves it no earlier, axis by axis, since rounding keeps the order.
-- Assumes nothing.
use Rattle.std.specs.Prelude.{Option, Some, None}
use mathlib.Core.Path.{◌≡◌, refl}
use mathlib.Core.Logic.{inl, inr}
use mathlib.Core.Bool.{Bool, true, false, not, ◌||◌, cond, or-false}
use Prim.Native.Nat.{ℕ, zero, suc}
use lib.IntN.{pos}
use lib.Dec.{T}
use lib.Ieee.{Float, nan, inf, fin, binary64, sub, div, lt, le, eq, is_nan}
use lib.Ieee.Fits.{and_l, and_r}
use lib.Ieee.Scale.{finite}
use Rattle.float.specs.Number.{real, nought, one, two, two_to_40, trillionth, infinity}
use Rattle.float.specs.Pick.{magnitude, lesser, greater}
use Rattle.float.proofs.Cases.{not_l, not_r, not_i}
use Rattle.float.proofs.Numbers.{nought_is, two_is, trillionth_is, infinity_is}
use Rattle.float.proofs.Order.{gain, loss, finite_real, le→real_l, le→real_r, le→not_lt, not_lt→le, le_refl, le_trans}
use Rattle.float.proofs.Monotone.{sub_mono, mul_mono, mul_anti, side}
use Rattle.float.proofs.Bounds.{below_finite, power_finite, two_to_40_finite, sub_size, inverse_most}
use Rattle.float.proofs.Pick.{greater_left, greater_right, greater_least, greater_mono, lesser_left, lesser_right, lesser_most, lesser_mono}
use Rattle.aabb.specs.declared.vector.Ray.{Ray}
use Rattle.aabb.specs.declared.bounds.Aabb.{Aabb}
use Rattle.aabb.specs.declared.slab.Span.{Span}
use Rattle.aabb.specs.Vector.{along, all_equal, admitted_ray}
use Rattle.aabb.specs.Bounds.{bounded, is_empty, usable, contains}
use Rattle.aabb.specs.Slab.{passed, sighted, aimed, sight_on, reach, first, second, parallel, unless_later, clipped, narrowed, and_then, ahead, on_axis, through_from, through, slab, is_passed, passes}
use Rattle.aabb.proofs.Axis.{all_along, within_along, at_most_along}

nought_real : T (le nought nought)
nought_real = rw nought_is (le_refl (fin false 0 (pos 0)) tt)

infinity_real : T (le infinity infinity)
infinity_real = rw infinity_is (le_refl (inf false) tt)

trillionth_real : T (real trillionth)
trillionth_real = rw trillionth_is tt

two_finite : (x : Float) → T (le (magnitude x) two) → T (finite x)
two_finite x h = below_finite x (fin false 1 (pos 1)) tt (rw two_is at h)

-- the first interval holds the second
unfoldable pub Wider : Option Span → Option Span → Type 0
Wider s None = Unit {0}
Wider None (Some a) = ⊥
Wider (Some b) (Some a) = T (le b.enter a.enter) × T (le a.exit b.exit)

pub wider_passed : (b a : Option Span) → Wider b a → T (is_passed a) → T (is_passed b)
unfolding Wider
wider_passed None None w h = h
wider_passed (Some b) None w h = tt
wider_passed None (Some a) w h = w
wider_passed (Some b) (Some a) w h = tt

gate : (t' t : Bool) (e' x' e x : Float) → (T (not t) → T (not t')) → T (le e' e) → T (le x x') → Wider (cond t' None (passed e' x')) (cond t None (passed e x))
unfolding Wider
gate true true e' x' e x n h k = tt
gate true false e' x' e x n h k = n tt
gate false true e' x' e x n h k = tt
gate false false e' x' e x n h k = (h, k)

and_then_wider : (b a : Option Span) (k' k : Float → Float → Option Span) → Wider b a → ((e' x' e x : Float) → T (le e' e) → T (le x x') → Wider (k' e' x') (k e x)) → Wider (and_then b k') (and_then a k)
unfolding Wider and_then
and_then_wider None None k' k w h = tt
and_then_wider (Some b) None k' k w h = tt
and_then_wider None (Some a) k' k w h = absurd w
and_then_wider (Some b) (Some a) k' k w h = h b.enter b.exit a.enter a.exit w.0 w.1

-- x < e, and so x' < e', is ruled out for x' and e' that are further apart
apart : (e' x' e x : Float) → T (le e' e) → T (le x x') → T (not (lt x e)) → T (not (lt x' e'))
apart e' x' e x h k n =
    le→not_lt e' x' (le_trans e' e x' h (le_trans e x x' (not_lt→le e x (le→real_r e' e h) (le→real_l x x' k) n) k))

ahead_wider : (e' x' e x : Float) → T (le e' e) → T (le x x') → Wider (ahead e' x') (ahead e x)
unfolding ahead
ahead_wider e' x' e x h k = gate (lt x' nought) (lt x nought) e' x' e x (apart nought x' nought x nought_real k) h k

clipped_wider : (t0' t1' t0 t1 e' x' e x : Float) → T (le (first t0' t1') (first t0 t1)) → T (le (second t0 t1) (second t0' t1')) → T (le e' e) → T (le x x') → Wider (clipped t0' t1' e' x') (clipped t0 t1 e x)
unfolding clipped unless_later
clipped_wider t0' t1' t0 t1 e' x' e x f s h k =
    let E' = greater e' (first t0' t1') in
    let E = greater e (first t0 t1) in
    let X' = lesser x' (second t0' t1') in
    let X = lesser x (second t0 t1) in
    let h' = greater_mono e' (first t0' t1') e (first t0 t1) h f in
    let k' = lesser_mono x (second t0 t1) x' (second t0' t1') k s in
    gate (lt X' E') (lt X E) E' X' E X (apart E' X' E X h' k') h' k'

-- ---- of two numbers the exchange puts the lesser first and the greater second
number_is : (x : Float) → T (real x) → is_nan x ≡ false
unfolding is_nan
number_is nan h = absurd h
number_is (inf s) h = refl
number_is (fin s m e) h = refl

first_is : (t0 t1 : Float) → T (real t0) → first t0 t1 ≡ lesser t0 t1
unfolding first lesser
first_is t0 t1 p = rw (number_is t0 p, or-false (lt t1 t0))

second_is : (t0 t1 : Float) → T (real t1) → second t0 t1 ≡ greater t1 t0
unfolding second greater
second_is t0 t1 p = rw (number_is t1 p, or-false (lt t1 t0))

first_most : (t0 t1 z : Float) → T (le z t0) → T (le z t1) → T (le z (first t0 t1))
first_most t0 t1 z h k = rw (first_is t0 t1 (le→real_r z t0 h)) (lesser_most t0 t1 z h k)

second_least : (t0 t1 z : Float) → T (le t0 z) → T (le t1 z) → T (le (second t0 t1) z)
second_least t0 t1 z h k = rw (second_is t0 t1 (le→real_l t1 z k)) (greater_least t1 t0 z k h)

module _ (t0 t1 : Float) (p : T (real t0)) (q : T (real t1)) where
  first_left : T (le (first t0 t1) t0)
  first_left = rw (first_is t0 t1 p) (lesser_left t0 t1 p q)

  first_right : T (le (first t0 t1) t1)
  first_right = rw (first_is t0 t1 p) (lesser_right t0 t1 p q)

  second_left : T (le t0 (second t0 t1))
  second_left = rw (second_is t0 t1 q) (greater_right t1 t0 q p)

  second_right : T (le t1 (second t0 t1))
  second_right = rw (second_is t0 t1 q) (greater_left t1 t0 q p)

-- ---- the exchange: the greater interval stays the greater, whichever end came first
spread_up : (t0' t1' t0 t1 : Float) → T (le t0' t0) → T (le t1 t1') → T (le t0 t1) → T (le (first t0' t1') (first t0 t1)) × T (le (second t0 t1) (second t0' t1'))
spread_up t0' t1' t0 t1 h k l =
    let p = le→real_l t0' t0 h in
    let q = le→real_r t1 t1' k in (
      le_trans (first t0' t1') t0' (first t0 t1) (first_left t0' t1' p q) (le_trans t0' t0 (first t0 t1) h (first_most t0 t1 t0 (le_refl t0 (le→real_r t0' t0 h)) l)),
      le_trans (second t0 t1) t1 (second t0' t1') (second_least t0 t1 t1 l (le_refl t1 (le→real_l t1 t1' k))) (le_trans t1 t1' (second t0' t1') k (second_right t0' t1' p q)),
    )

spread_down : (t0' t1' t0 t1 : Float) → T (le t1' t1) → T (le t0 t0') → T (le t1 t0) → T (le (first t0' t1') (first t0 t1)) × T (le (second t0 t1) (second t0' t1'))
spread_down t0' t1' t0 t1 h k l =
    let p = le→real_r t0 t0' k in
    let q = le→real_l t1' t1 h in (
      le_trans (first t0' t1') t1' (first t0 t1) (first_right t0' t1' p q) (le_trans t1' t1 (first t0 t1) h (first_most t0 t1 t1 l (le_refl t1 (le→real_r t1' t1 h)))),
      le_trans (second t0 t1) t0 (second t0' t1') (second_least t0 t1 t0 (le_refl t0 (le→real_l t0 t0' k)) l) (le_trans t0 t0' (second t0' t1') k (second_left t0' t1' p q)),
    )

magnitude_real : (x : Float) → T (finite x) → T (real (magnitude x))
magnitude_real nan h = h
magnitude_real (inf s) h = tt
magnitude_real (fin s m e) h = tt

-- ---- one narrowed
pub record Fine (o d lo' hi' lo hi : Float) : Type 0 where
  pub at : T (le (magnitude o) two_to_40)
  pub along : T (finite d)
  pub low' : T (le (magnitude lo') two_to_40)
  pub high' : T (le (magnitude hi') two_to_40)
  pub low : T (le (magnitude lo) two_to_40)
  pub high : T (le (magnitude hi) two_to_40)
  pub ordered : T (le lo hi)
  pub below : T (le lo' lo)
  pub above : T (le hi hi')

module _ (o d lo' hi' lo hi : Float) (c : Fine o d lo' hi' lo hi) where
  parallel_wider : (e' x' e x : Float) → T (le e' e) → T (le x x') → Wider (parallel o lo' hi' e' x') (parallel o lo hi e x)
  unfolding parallel
  parallel_wider e' x' e x h k =
      gate (lt o lo' || lt hi' o) (lt o lo || lt hi o) e' x' e x
      (λ n. not_i (lt o lo') (lt hi' o) (apart lo' o lo o c.below O (not_l (lt o lo) (lt hi o) n)) (apart o hi' o hi O c.above (not_r (lt o lo) (lt hi o) n)))
      h k
    where
      O : T (le o o)
      O = le_refl o (finite_real o (two_to_40_finite o c.at))

  module _ (inv : T (finite (div binary64 one d))) where
    fine : (p : Float) → T (le (magnitude p) two_to_40) → T (finite (sub binary64 p o))
    fine p h = power_finite (sub binary64 p o) 41 (sub_size p o h c.at)

    closer : (p q : Float) → T (le (magnitude p) two_to_40) → T (le (magnitude q) two_to_40) → T (le p q) → T (le (sub binary64 p o) (sub binary64 q o))
    closer p q h k l = sub_mono binary64 p q o (two_to_40_finite p h) (two_to_40_finite q k) (two_to_40_finite o c.at) l

    reach_mono : loss (div binary64 one d) ≡ 0 → (p q : Float) → T (le (magnitude p) two_to_40) → T (le (magnitude q) two_to_40) → T (le p q) → T (le (reach (sighted o d) p) (reach (sighted o d) q))
    unfolding reach sighted
    reach_mono z p q h k l = mul_mono binary64 (sub binary64 p o) (sub binary64 q o) (div binary64 one d) (fine p h) (fine q k) inv z (closer p q h k l)

    reach_anti : gain (div binary64 one d) ≡ 0 → (p q : Float) → T (le (magnitude p) two_to_40) → T (le (magnitude q) two_to_40) → T (le p q) → T (le (reach (sighted o d) q) (reach (sighted o d) p))
    unfolding reach sighted
    reach_anti z p q h k l = mul_anti binary64 (sub binary64 p o) (sub binary64 q o) (div binary64 one d) (fine p h) (fine q k) inv z (closer p q h k l)

    exchanged : (T (le (first (reach (sighted o d) lo') (reach (sighted o d) hi')) (first (reach (sighted o d) lo) (reach (sighted o d) hi)))) × (T (le (second (reach (sighted o d) lo) (reach (sighted o d) hi)) (second (reach (sighted o d) lo') (reach (sighted o d) hi'))))
    exchanged =
        elim (side (div binary64 one d) inv) [
          | inl z ↦
              spread_up (reach (sighted o d) lo') (reach (sighted o d) hi') (reach (sighted o d) lo) (reach (sighted o d) hi) (reach_mono z lo' lo c.low' c.low c.below) (reach_mono z hi hi' c.high c.high' c.above) (reach_mono z lo hi c.low c.high c.ordered)
          | inr z ↦
              spread_down (reach (sighted o d) lo') (reach (sighted o d) hi') (reach (sighted o d) lo) (reach (sighted o d) hi) (reach_anti z hi hi' c.high c.high' c.above) (reach_anti z lo' lo c.low' c.low c.below) (reach_anti z lo hi c.low c.high c.ordered)
        ]

  narrowed_wider : (e' x' e x : Float) → T (le e' e) → T (le x x') → Wider (narrowed (sighted o d) lo' hi' e' x') (narrowed (sighted o d) lo hi e x)
  unfolding narrowed sighted
  narrowed_wider e' x' e x h k = go (lt (magnitude d) trillionth) (not_lt→le trillionth (magnitude d) trillionth_real (magnitude_real d c.along))
    where
      go : (t : Bool) → (T (not t) → T (le trillionth (magnitude d)))
          → Wider (cond t (parallel o lo' hi' e' x') (clipped (reach (sighted o d) lo') (reach (sighted o d) hi') e' x')) (cond t (parallel o lo hi e x) (clipped (reach (sighted o d) lo) (reach (sighted o d) hi) e x))
      go true n = parallel_wider e' x' e x h k
      go false n =
          let w = exchanged (power_finite (div binary64 one d) 40 (inverse_most d c.along (n tt))) in
          clipped_wider (reach (sighted o d) lo') (reach (sighted o d) hi') (reach (sighted o d) lo) (reach (sighted o d) hi) e' x' e x w.0 w.1 h k

-- ---- every axis
module _ (r : Ray) (b a : Aabb) (R : T (admitted_ray r)) (B : T (bounded b)) (A : T (bounded a)) (H : T (contains b a)) where
  fine_on : (k : ℕ) → Fine (along k r.origin) (along k r.direction) (along k b.min) (along k b.max) (along k a.min) (along k a.max)
  unfolding admitted_ray bounded contains
  fine_on k = record {
    at = within_along two_to_40 k r.origin (search (and_l, and_r));
    along = two_finite (along k r.direction) (within_along two k r.direction (search (and_l, and_r)));
    low' = within_along two_to_40 k b.min (search (and_l, and_r));
    high' = within_along two_to_40 k b.max (search (and_l, and_r));
    low = within_along two_to_40 k a.min (search (and_l, and_r));
    high = within_along two_to_40 k a.max (search (and_l, and_r));
    ordered = at_most_along a.min a.max k (search (and_l, and_r));
    below = at_most_along b.min a.min k (search (and_l, and_r));
    above = at_most_along a.max b.max k (search (and_l, and_r));
  }

  sight_is : (k : ℕ) → sight_on k (aimed r) ≡ sighted (along k r.origin) (along k r.direction)
  unfolding sight_on aimed along
  sight_is zero = refl
  sight_is (suc zero) = refl
  sight_is (suc (suc k)) = refl

  axis_wider : (k : ℕ) (e' x' e x : Float) → T (le e' e) → T (le x x') → Wider (on_axis (aimed r) b k e' x') (on_axis (aimed r) a k e x)
  unfolding on_axis
  axis_wider k = rw (sight_is k) (narrowed_wider (along k r.origin) (along k r.direction) (along k b.min) (along k b.max) (along k a.min) (along k a.max) (fine_on k))

  from_wider : (left k : ℕ) (e' x' e x : Float) → T (le e' e) → T (le x x') → Wider (through_from (aimed r) b left k e' x') (through_from (aimed r) a left k e x)
  unfolding through_from
  from_wider zero k e' x' e x h j = ahead_wider e' x' e x h j
  from_wider (suc left) k e' x' e x h j = and_then_wider _ _ (through_from (aimed r) b left (suc k)) (through_from (aimed r) a left (suc k)) (axis_wider k e' x' e x h j) (from_wider left (suc k))

  -- b is entered no later than a, and left no earlier
  pub slab_wider : Wider (slab r b) (slab r a)
  unfolding slab through
  slab_wider = from_wider 3 0 nought infinity nought infinity nought_real infinity_real

  pub inside : T (passes r a) → T (passes r b)
  inside h = wider_passed (slab r b) (slab r a) slab_wider h

-- ---- the outer box may be any usable one: the empty box contains no bounded one
infinite_below : (x y : Float) → T (eq x (inf false)) → T (le x y) → T (finite y) → ⊥
unfolding eq le
infinite_below nan y p h q = p
infinite_below (fin s m e) y p h q = p
infinite_below (inf true) y p h q = p
infinite_below (inf false) nan p h q = q
infinite_below (inf false) (inf t) p h q = q
infinite_below (inf false) (fin t n d) p h q = h

empty_contains : (b a : Aabb) → T (is_empty b) → T (bounded a) → T (contains b a) → ⊥
unfolding is_empty all_equal bounded contains along
empty_contains b a e A H =
    infinite_below b.min.x a.min.x (rw infinity_is at (all_along (λ x. eq x infinity) b.min 0 (search (and_l, and_r)))) (at_most_along b.min a.min 0 (search (and_l, and_r)))
    (two_to_40_finite a.min.x (within_along two_to_40 0 a.min (search (and_l, and_r))))

-- a ray that passes a bounded box passes every usable box that contains it
pub usable_inside : (r : Ray) (b a : Aabb) → T (admitted_ray r) → T (usable b) → T (bounded a) → T (contains b a) → T (passes r a) → T (passes r b)
unfolding usable
usable_inside r b a R B A H = go (bounded b) (λ h. inside r b a R h A H) B
  where
    go : (t : Bool) → (T t → T (passes r a) → T (passes r b)) → T (t || is_empty b) → T (passes r a) → T (passes r b)
    go true f h = f tt
    go false f h = absurd (empty_contains b a h A H)
