-- A point through a good matrix is at most 2^63 in size where it was within 2^40, and a direction at most 2^83 where it was within 2: so nothing overflows, the world box
-- of a bounded box is finite, its proxy is admitted where it is bounded, and a local ray is admitted just where its origin is within 2^40. Assumes nothing.
use Rattle.std.specs.Prelude.{Some, None}
use mathlib.Core.Path.{◌≡◌, refl, sym, subst, ◌∙◌}
use Prim.Native.Nat.{ℕ, zero, suc, ◌+◌, ◌*◌, ◌^◌, ◌≤◌}
use native.Mathlib.Nat.{zero-lt-suc, mul-pos}
use native.Mathlib.Omega.{arith}
use mathlib.Core.Bool.{Bool, true, false, cond, ◌&&◌, ◌||◌}
use mathlib.Core.List.{List, [], ◌∷◌}
use lib.IntN.{ℤ, negsuc}
use lib.Dec.{T, lt→ltb}
use lib.Ieee.{Float, nan, inf, fin, binary64, round, of_bits, add, mul, neg, unlike, up, down, lt, le, is_nan}
use lib.Ieee.Fits.{and_i, and_l, and_r, down_pos}
use lib.Ieee.Positive.{positive, above, above_of_le}
use lib.Ieee.Scale.{finite}
use Rattle.lent.specs.Members.{Every}
use Rattle.float.specs.Number.{nought, half, one, two, two_to_40, trillionth}
use Rattle.float.specs.Pick.{magnitude, lesser, greater}
use Rattle.float.specs.Root.{root}
use Rattle.float.proofs.Cases.{true_is}
use Rattle.float.proofs.Numbers.{two_is, two_to_40_is, two_to_40_rounded, trillionth_is, infinity_is}
use Rattle.float.proofs.Order.{le→under, lt→le}
use Rattle.float.proofs.Bounds.{power, AtMost, round_most, power_finite, power_wider, add_most, mul_most}
use Rattle.aabb.specs.declared.vector.Vec3.{Vec3}
use Rattle.aabb.specs.declared.vector.Ray.{Ray}
use Rattle.aabb.specs.declared.bounds.Aabb.{Aabb}
use Rattle.aabb.specs.Vector.{vec, all, along, plus, scaled, least, greatest, divided, dot, within, all_within, ray_from, admitted_ray}
use Rattle.aabb.specs.Bounds.{empty_box, grown, center, bounded}
use Rattle.aabb.proofs.Axis.{within_along, within_from}
use Rattle.aabb.proofs.Holds.{bounded_parts}
use Rattle.triangle.specs.Mesh.{admitted_triangle}
use Rattle.triangle.proofs.Finite.{AllAtMost, dot_most, forty}
use Rattle.triangle.proofs.UnitNormal.{dot_below, unit_within, new_admitted}
use Rattle.street.specs.declared.rows.Row.{Row}
use Rattle.street.specs.declared.rows.Matrix.{Matrix}
use Rattle.street.specs.Rows.{two_to_20, small_row, good_matrix, against, through, point_by, direction_by, length_of, cast, local_ray}
use Rattle.street.specs.Placing.{corners, grown_by, world_box, proxy_of}
use Rattle.street.specs.Served.{finite_box}

-- ---- a good matrix
two_to_20_is : two_to_20 ≡ power 20
unfolding of_bits
two_to_20_is = refl

module _ (a : Row) (A : T (small_row a)) where
  xyz_most : AllAtMost 20 a.xyz
  unfolding small_row along
  xyz_most =
      let h : T (all_within two_to_20 a.xyz) = search (and_l, and_r) in
      (rw two_to_20_is at (within_along two_to_20 0 a.xyz h), rw two_to_20_is at (within_along two_to_20 1 a.xyz h), rw two_to_20_is at (within_along two_to_20 2 a.xyz h))

  w_most : AtMost 20 a.w
  unfolding small_row within
  w_most = rw two_to_20_is at (and_r (all_within two_to_20 a.xyz) (le (magnitude a.w) two_to_20) A)

-- the first three rows are small
rows_small : (m : Matrix) → T (good_matrix m) → T (small_row m.first) × T (small_row m.second) × T (small_row m.third)
unfolding good_matrix
rows_small m h = (search (and_l, and_r), search (and_l, and_r), search (and_l, and_r))

-- ---- row sums, for numbers at most 2^j in size: the products are at most 2^p, and the sums 2^q, 2^r, 2^s
module _ (j p q r s : ℕ) (P : round binary64 false (2 ^ 20 * 2 ^ j) 1 ≡ power p) (Q : round binary64 false (2 ^ p + 2 ^ p) 1 ≡ power q) (R : round binary64 false (2 ^ q + 2 ^ q) 1 ≡ power r) (S : round binary64 false (2 ^ r + 2 ^ r) 1 ≡ power s)
    (pq : T (le (power p) (power q))) (wr : T (le (power 20) (power r))) (v : Vec3) (sized : AllAtMost j v) (w : Float) (W : AtMost 0 w) where
  row_most : (a : Row) → T (small_row a) → AtMost s (against a v w)
  unfolding against round
  row_most a A =
      add_most r s S (dot a.xyz v) (mul binary64 a.w w) (dot_most 20 j p q P Q r R pq a.xyz v (xyz_most a A) sized)
      (power_wider 20 r (mul binary64 a.w w) wr (mul_most 20 0 20 refl a.w w (w_most a A) W))

  through_most : (m : Matrix) → T (good_matrix m) → AllAtMost s (through m v w)
  unfolding through
  through_most m h = let g = rows_small m h in (row_most m.first g.0, row_most m.second g.1, row_most m.third g.2)

unit_most : AtMost 0 one
unfolding of_bits le
unit_most = tt

nothing_most : AtMost 0 nought
unfolding of_bits le
nothing_most = tt

pub point_most : (m : Matrix) → T (good_matrix m) → (v : Vec3) → AllAtMost 40 v → AllAtMost 63 (point_by m v)
unfolding point_by round le
point_most m h v sized = through_most 40 60 61 62 63 refl refl refl refl tt tt v sized one unit_most m h

wide : (i k : ℕ) → T (le (power i) (power k)) → (v : Vec3) → AllAtMost i v → AllAtMost k v
wide i k h v p = (power_wider i k v.x h p.0, power_wider i k v.y h p.1, power_wider i k v.z h p.2)

pub direction_most : (m : Matrix) → T (good_matrix m) → (v : Vec3) → T (all_within two v) → AllAtMost 83 (direction_by m v)
unfolding direction_by round le along
direction_most m h v d =
    wide 24 83 tt (through m v nought)
    (through_most 1 21 22 23 24 refl refl refl refl tt tt v (rw two_is at (within_along two 0 v d), rw two_is at (within_along two 1 v d), rw two_is at (within_along two 2 v d)) nought nothing_most m h)

-- ---- boxes of finite points
abbrev AllFinite : Vec3 → Type 0
AllFinite v = T (finite v.x) × T (finite v.y) × T (finite v.z)

sized_finite : (k : ℕ) (v : Vec3) → AllAtMost k v → AllFinite v
sized_finite k v p = (power_finite v.x k p.0, power_finite v.y k p.1, power_finite v.z k p.2)

picked : (t : Bool) (x y : Float) → T (finite x) → T (finite y) → T (finite (cond t x y))
picked true x y p q = p
picked false x y p q = q

lesser_finite : (run x : Float) → T (finite run) → T (finite x) → T (finite (lesser run x))
unfolding lesser
lesser_finite run x p q = picked (lt x run || is_nan run) x run q p

greater_finite : (run x : Float) → T (finite run) → T (finite x) → T (finite (greater run x))
unfolding greater
greater_finite run x p q = picked (lt run x || is_nan run) x run q p

first_lesser : (x : Float) → T (finite x) → T (finite (lesser (inf false) x))
unfolding lesser lt is_nan
first_lesser nan h = h
first_lesser (inf s) h = absurd h
first_lesser (fin s m e) h = tt

first_greater : (x : Float) → T (finite x) → T (finite (greater (neg (inf false)) x))
unfolding greater lt is_nan neg
first_greater nan h = h
first_greater (inf s) h = absurd h
first_greater (fin s m e) h = tt

abbrev FiniteBox : Aabb → Type 0
FiniteBox b = AllFinite b.min × AllFinite b.max

grown_first : (v : Vec3) → AllFinite v → FiniteBox (grown empty_box v)
unfolding grown empty_box least greatest
grown_first v p = rw infinity_is ((first_lesser v.x p.0, first_lesser v.y p.1, first_lesser v.z p.2), (first_greater v.x p.0, first_greater v.y p.1, first_greater v.z p.2))

grown_finite : (b : Aabb) (v : Vec3) → FiniteBox b → AllFinite v → FiniteBox (grown b v)
unfolding grown least greatest
grown_finite b v (l, h) p = (
  (lesser_finite b.min.x v.x l.0 p.0, lesser_finite b.min.y v.y l.1 p.1, lesser_finite b.min.z v.z l.2 p.2),
  (greater_finite b.max.x v.x h.0 p.0, greater_finite b.max.y v.y h.1 p.1, greater_finite b.max.z v.z h.2 p.2),
)

module _ (m : Matrix) (M : T (good_matrix m)) where
  point_finite : (v : Vec3) → AllAtMost 40 v → AllFinite (point_by m v)
  point_finite v sized = sized_finite 63 (point_by m v) (point_most m M v sized)

  all_grown : (vs : List Vec3) (b : Aabb) → Every (AllAtMost 40) vs → FiniteBox b → FiniteBox (grown_by m b vs)
  unfolding grown_by
  all_grown [] b p h = h
  all_grown (v ∷ vs) b (p, ps) h = all_grown vs (grown b (point_by m v)) ps (grown_finite b (point_by m v) h (point_finite v p))

  from_first : (v : Vec3) (vs : List Vec3) → AllAtMost 40 v → Every (AllAtMost 40) vs → FiniteBox (grown_by m empty_box (v ∷ vs))
  unfolding grown_by
  from_first v vs p ps = all_grown vs (grown empty_box (point_by m v)) ps (grown_first (point_by m v) (point_finite v p))

  boxed : (b : Aabb) → FiniteBox b → T (finite_box b)
  unfolding along
  boxed b (l, h) = and_i (all finite b.min) (all finite b.max) (three b.min l) (three b.max h)
    where
      three : (v : Vec3) → AllFinite v → T (all finite v)
      three v p = and_i (finite v.x) (finite v.y && finite v.z) p.0 (and_i (finite v.y) (finite v.z) p.1 p.2)

  -- no number of the world box of a bounded box overflows
  pub world_finite : (b : Aabb) → T (bounded b) → T (finite_box (world_box m b))
  unfolding world_box corners
  world_finite b h =
      let k = bounded_parts b h in
      let l = forty b.min k.low in
      let u = forty b.max k.high in
      boxed (grown_by m empty_box (corners b))
      (from_first (vec b.min.x b.min.y b.min.z) _ (l.0, l.1, l.2)
      ((u.0, l.1, l.2), ((l.0, u.1, l.2), ((u.0, u.1, l.2), ((l.0, l.1, u.2), ((u.0, l.1, u.2), ((l.0, u.1, u.2), ((u.0, u.1, u.2), tt))))))))

-- ---- the proxy of a bounded box
half_is : half ≡ fin false 1 (negsuc 0)
unfolding of_bits
half_is = refl

halved : (m : ℕ) (e : ℤ) → T (le (fin false m e) (power 41)) → m * up e * (1 * 1) * 1 ≤ 2 ^ 40 * (down e * 2)
halved m e h = omega (arith, le→under (fin false m e) (power 41) tt tt h)

by_half : (x : Float) → AtMost 41 x → AtMost 40 (mul binary64 x (fin false 1 (negsuc 0)))
unfolding mul
by_half nan h = absurd (unfold le in h)
by_half (inf s) h = absurd (unfold le in h)
by_half (fin s m e) h =
    subst (λ (z : Float). T (le (magnitude (round binary64 (unlike s false) (m * up e * (1 * 1)) (down e * 2))) z)) (sym two_to_40_rounded ∙ two_to_40_is)
    (round_most binary64 (unlike s false) (m * up e * (1 * 1)) (down e * 2) (2 ^ 40) 1 (mul-pos (down_pos e) (zero-lt-suc 1)) (zero-lt-suc 0) (halved m e h))

middle_most : (x y : Float) → AtMost 40 x → AtMost 40 y → T (le (magnitude (mul binary64 (add binary64 x y) half)) two_to_40)
unfolding round
middle_most x y p q = rw (two_to_40_is, half_is) (by_half (add binary64 x y) (add_most 40 41 refl x y p q))

module _ (b : Aabb) (low : AllAtMost 40 b.min) (high : AllAtMost 40 b.max) where
  center_along : (k : ℕ) → T (le (magnitude (along k (center b))) two_to_40)
  unfolding center scaled plus along
  center_along zero = middle_most b.min.x b.max.x low.0 high.0
  center_along (suc zero) = middle_most b.min.y b.max.y low.1 high.1
  center_along (suc (suc k)) = middle_most b.min.z b.max.z low.2 high.2

  center_within : T (all_within two_to_40 (center b))
  center_within = within_from two_to_40 (center b) center_along

level : T (all_within two (vec nought nought nought))
unfolding all_within within of_bits le
level = tt

-- a proxy is always admitted: so is a triangle of these corners with a level normal, and then with the normal that they give
pub proxy_admitted : (b : Aabb) → T (bounded b) → T (admitted_triangle (proxy_of b))
unfolding proxy_of admitted_triangle
proxy_admitted b h =
    let k = bounded_parts b h in
    new_admitted (record { v0 = b.min; v1 = b.max; v2 = center b; normal = vec nought nought nought })
    (four (all_within two_to_40 b.min) (all_within two_to_40 b.max) (all_within two_to_40 (center b)) (all_within two (vec nought nought nought)) k.low k.high (center_within b (forty b.min k.low) (forty b.max k.high)) level)
  where
    four : (p q r s : Bool) → T p → T q → T r → T s → T (p && (q && (r && s)))
    four p q r s a b c d = and_i p (q && (r && s)) a (and_i q (r && s) b (and_i r s c d))

-- ---- the local ray
above_nought : (q : Float) → T (finite q) → T (lt trillionth q) → T (positive q)
above_nought q f h = go q f (above_of_le trillionth q there (lt→le trillionth q h))
  where
    there : T (positive trillionth)
    there = rw trillionth_is tt

    go : (q : Float) → T (finite q) → T (above q) → T (positive q)
    go nan f a = absurd f
    go (inf s) f a = absurd f
    go (fin true m e) f a = absurd a
    go (fin false m e) f a = a

root_positive : (q : Float) → T (finite q) → T (lt trillionth (root q)) → T (positive q)
unfolding root
root_positive nan f h = absurd f
root_positive (inf s) f h = absurd f
root_positive (fin s zero e) f h = above_nought (fin s zero e) tt h
root_positive (fin true (suc m) e) f h = absurd (unfold lt in (rw trillionth_is at h))
root_positive (fin false (suc m) e) f h = lt→ltb 0 (suc m) (omega arith)

cast_admitted : (o d : Vec3) (l : Ray) → AllAtMost 83 d → cast o d ≡ Some l → admitted_ray l ≡ all_within two_to_40 l.origin
unfolding cast
cast_admitted o d l sized = go (lt trillionth (length_of d)) refl
  where
    whole : T (lt trillionth (length_of d)) → T (all_within two (divided d (length_of d)))
    whole h = unfold length_of in unit_within d sized (root_positive (dot d d) (power_finite (dot d d) 168 (dot_below d sized)) (unfold length_of in h))

    same : (k : Ray) → Some k ≡ Some l → k ≡ l
    same k e = cc

    and_yes : (a b : Bool) → T b → (a && b) ≡ a
    and_yes true true h = refl
    and_yes true false h = absurd h
    and_yes false b h = refl

    go : (t : Bool) → lt trillionth (length_of d) ≡ t → cond t (Some (ray_from o (divided d (length_of d)))) None ≡ Some l → admitted_ray l ≡ all_within two_to_40 l.origin
    go true e c =
        subst (λ (z : Ray). admitted_ray z ≡ all_within two_to_40 z.origin) (same (ray_from o (divided d (length_of d))) c)
        (unfold admitted_ray in and_yes (all_within two_to_40 o) (all_within two (divided d (length_of d))) (whole (true_is (lt trillionth (length_of d)) e)))
    go false e c = cc

-- through a good inverse the local ray of an admitted ray is admitted just where its origin is within 2^40
pub local_admitted : (inverse : Matrix) (r l : Ray) → T (good_matrix inverse) → T (admitted_ray r) → local_ray inverse r ≡ Some l → admitted_ray l ≡ all_within two_to_40 l.origin
unfolding local_ray admitted_ray
local_admitted inverse r l g h e =
    cast_admitted (point_by inverse r.origin) (direction_by inverse r.direction) l (direction_most inverse g r.direction (and_r (all_within two_to_40 r.origin) (all_within two r.direction) h)) e
