-- Each way out of the test of a ray against a triangle is what the definition says: the tests that led there decide it, in the file's order. What is worked out of the
-- vertices alone is the triangle's. Assumes nothing.
use Rattle.std.specs.Prelude.{Option, Some, None}
use mathlib.Core.Path.{◌≡◌, refl, ap, ◌∙◌}
use Prim.Native.Nat.{ℕ, ◌+◌, ◌*◌, ◌≤◌, min}
use native.Mathlib.Omega.{arith}
use mathlib.Core.Bool.{Bool, true, false, not, ◌&&◌, ◌||◌, cond}
use mathlib.Core.List.{List}
use lib.ListN.{length, get_or-eq_default}
use lib.Dec.{T}
use lib.Ieee.{Float, nan, inf, fin, binary64, of_bits, add, sub, neg, lt, le}
use Rattle.float.specs.Number.{real, nought, one, two, three, two_to_40, millionth, ten_billionth}
use Rattle.float.specs.Pick.{magnitude}
use Rattle.float.proofs.Cases.{and_false, false_is}
use Rattle.float.proofs.Order.{lt→le, le→real_l, not_lt→le}
use Rattle.float.proofs.Monotone.{sub_turns}
use Rattle.aabb.specs.declared.vector.Vec3.{Vec3}
use Rattle.aabb.specs.declared.vector.Ray.{Ray}
use Rattle.aabb.specs.Vector.{plus, divided, within, all_within, number_at, vector_at}
use Rattle.aabb.proofs.Tests.{vector_start, vector_from}
use Rattle.triangle.specs.declared.Triangle.{Triangle}
use Rattle.triangle.specs.declared.Corners.{Corners}
use Rattle.triangle.specs.declared.Crossing.{Crossing}
use Rattle.triangle.specs.declared.Hit.{Hit}
use Rattle.triangle.specs.Mesh.{triangle_at, corners_of, centroid_of, admitted_triangle}
use Rattle.triangle.specs.Meeting.{crossing_of, judged, distance_to}

module _ (d m u v t : Float) (q : m ≡ magnitude d) where
  pub none_det : lt m ten_billionth ≡ true → None ≡ judged d u v t
  unfolding judged
  none_det h = rw (← q, h)

  module _ (n : lt m ten_billionth ≡ false) where
    pub none_u : le nought u ≡ false → None ≡ judged d u v t
    unfolding judged
    none_u h = rw (← q, n, h)

    module _ (low : le nought u ≡ true) where
      pub none_u2 : le u one ≡ false → None ≡ judged d u v t
      unfolding judged
      none_u2 h = rw (← q, n, low, h)

      module _ (high : le u one ≡ true) where
        pub none_v : lt v nought ≡ true → None ≡ judged d u v t
        unfolding judged
        none_v h = rw (← q, n, low, high, h)

        module _ (above : lt v nought ≡ false) where
          pub none_uv : lt one (add binary64 u v) ≡ true → None ≡ judged d u v t
          unfolding judged
          none_uv h = rw (← q, n, low, high, above, h)

          module _ (inside : lt one (add binary64 u v) ≡ false) where
            pub none_t : le t millionth ≡ true → None ≡ judged d u v t
            unfolding judged
            none_t h = rw (← q, n, low, high, above, inside, h)

            pub to_t : le t millionth ≡ false → Some t ≡ judged d u v t
            unfolding judged
            to_t h = rw (← q, n, low, high, above, inside, h)

-- ---- the test that comes first: where u and v pass theirs, none of u, v and 1 - (u + v) is below 0
picked : (b : Bool) (run x : Float) → T (le nought run) → (T b → T (le nought x)) → T (le nought (cond b x run))
picked true run x h k = k tt
picked false run x h k = h

above_real : (v run : Float) → lt v nought ≡ false → T (lt v run) → T (le nought v)
unfolding of_bits
above_real v run h k = not_lt→le nought v tt (le→real_l v run (lt→le v run k)) (false_is (lt v nought) h)

rest_real : (s : Float) → T (real (sub binary64 one s)) → T (real s)
unfolding sub add neg of_bits
rest_real nan p = absurd p
rest_real (inf s) p = tt
rest_real (fin s m e) p = tt

rest : (s : Float) → lt one s ≡ false → T (real (sub binary64 one s)) → T (le nought (sub binary64 one s))
unfolding of_bits sub add neg
rest s h p = sub_turns binary64 one s one (not_lt→le s one (rest_real s p) tt (false_is (lt one s) h)) p tt

abbrev lower : Float → Float → Float
lower run x = cond (lt x run) x run

least : (u v : Float) → T (le nought u) → lt v nought ≡ false → lt one (add binary64 u v) ≡ false → T (le nought (lower (lower u v) (sub binary64 one (add binary64 u v))))
least u v p q h =
    let s = sub binary64 one (add binary64 u v) in
    picked (lt s (lower u v)) (lower u v) s (picked (lt v u) u v p (above_real v u q)) (λ k. rest (add binary64 u v) h (le→real_l s (lower u v) (lt→le s (lower u v) k)))

pub none_first : (d u v t low all : Float) → low ≡ lower u v → all ≡ lower low (sub binary64 one (add binary64 u v)) → le nought all ≡ false → None ≡ judged d u v t
unfolding judged
none_first d u v t low all x y h = go (lt (magnitude d) ten_billionth) (le nought u) (le u one) (lt v nought) (lt one (add binary64 u v)) refl refl refl
  where
    go : (a b c e f : Bool) → le nought u ≡ b → lt v nought ≡ e → lt one (add binary64 u v) ≡ f
        → None ≡ cond a None (cond (not (b && c)) None (cond (e || f) None (cond (le t millionth) None (Some t))))
    go true b c e f p q r = refl
    go false false c e f p q r = refl
    go false true false e f p q r = refl
    go false true true true f p q r = refl
    go false true true false true p q r = refl
    go false true true false false p q r = absurd (rw (← x, ← y, h) at (least u v (rw p tt) q r))

-- ---- the hit
abbrev pub hit : Float → Vec3 → Vec3 → Float → Float → Bool → ℕ → ℕ → Hit
hit t point normal u v front k m = record { t = t; point = point; normal = normal; u = u; v = v; front = front; triangle = k; material = m }

-- ---- reading
abbrev pub triangle : Vec3 → Vec3 → Vec3 → Vec3 → Triangle
triangle a b c n = record { v0 = a; v1 = b; v2 = c; normal = n }

pub triangle_starts : (l : List Float) (i at : ℕ) (a b c n : Vec3) → at ≡ min (i * 12) (length l) → a ≡ vector_at l at → b ≡ vector_at l (at + 3) → c ≡ vector_at l (at + 6) → n ≡ vector_at l (at + 9)
    → triangle a b c n ≡ triangle_at l i
unfolding triangle_at
triangle_starts l i at a b c n p q r s t = cc (vector_start l (i * 12), vector_from l (i * 12) 3, vector_from l (i * 12) 6, vector_from l (i * 12) 9)

-- ---- the vertices alone
pub centroid_corners : (a : Triangle) (c : Corners) (r : Vec3) → c ≡ corners_of a → r ≡ divided (plus (plus c.v0 c.v1) c.v2) three → r ≡ centroid_of a
unfolding centroid_of corners_of
centroid_corners a c r p e = e ∙ ap (λ (c : Corners). divided (plus (plus c.v0 c.v1) c.v2) three) p

-- the numbers of the test, judged
pub distance_crossed : (r : Ray) (c : Corners) (x : Crossing) (d : Option Float) → x ≡ crossing_of r c → d ≡ judged x.det x.u x.v x.t → d ≡ distance_to r c
unfolding distance_to crossing_of
distance_crossed r c x d p e = e ∙ ap (λ (x : Crossing). judged x.det x.u x.v x.t) p

-- ---- beyond the mesh's end the last number of the normal is a NaN, which no limit admits
nan_without : (l : List Float) (k : ℕ) → length l ≤ k + 2 → false ≡ all_within two (vector_at l k)
unfolding all_within within vector_at le
nan_without l k h = and_false (within two (number_at l k)) _ (and_false (within two (number_at l (k + 1))) _ (rw (get_or-eq_default l nan h)))

pub none_beyond : (l : List Float) (i : ℕ) → length l ≤ i * 12 + 11 → false ≡ admitted_triangle (triangle_at l i)
unfolding admitted_triangle triangle_at
none_beyond l i h =
    let t = triangle_at l i in
    and_false (all_within two_to_40 t.v0) _ (and_false (all_within two_to_40 t.v1) _ (and_false (all_within two_to_40 t.v2) _ (nan_without l (i * 12 + 9) (omega (arith, h)))))
