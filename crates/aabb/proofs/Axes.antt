-- What stays true of the slab test's loop: the axes that are left, from the interval so far, give the whole answer, and neither end of the interval is a NaN.
-- Assumes nothing.
use mathlib.Core.Path.{◌≡◌, refl, sym, ◌∙◌}
use mathlib.Core.Bool.{true, false, cond}
use Prim.Native.Nat.{ℕ, zero, suc, ◌+◌, ◌-◌, ◌≤◌, ◌<◌}
use native.Mathlib.Omega.{arith}
use lib.Dec.{T}
use lib.Ieee.{Float, lt}
use Rattle.float.specs.Number.{real, nought, infinity}
use Rattle.float.proofs.Numbers.{nought_is, infinity_is}
use Rattle.float.proofs.Pick.{lower_is, higher_is, lower_real, higher_real}
use Rattle.aabb.specs.declared.vector.Ray.{Ray}
use Rattle.aabb.specs.declared.bounds.Aabb.{Aabb}
use Rattle.std.specs.Prelude.{None}
use Rattle.aabb.specs.declared.slab.Sight.{Sight}
use Rattle.aabb.specs.declared.slab.Aim.{Aim}
use Rattle.aabb.specs.Vector.{along}
use Rattle.aabb.specs.Slab.{passed, sighted, aimed, sight_on, reach, first, second, parallel, unless_later, clipped, narrowed, and_then, ahead, on_axis, through_from, through}

-- ---- a prepared ray
pub made : (r : Ray) (x y z : Sight) → x ≡ sighted r.origin.x r.direction.x → y ≡ sighted r.origin.y r.direction.y → z ≡ sighted r.origin.z r.direction.z
    → ◌≡◌ {A = Aim} (record { ray = r; x = x; y = y; z = z }) (aimed r)
unfolding aimed
made r x y z p q e i = record { ray = r; x = p i; y = q i; z = e i }

-- ---- the loop
pub record Running (m : Aim) (b : Aabb) (axis : ℕ) (enter exit : Float) : Type 0 where
  pub upto : axis ≤ 3
  pub enter_real : T (real enter)
  pub exit_real : T (real exit)
  pub same : through_from m b (3 - axis) axis enter exit ≡ through m b

pub begun : (m : Aim) (b : Aabb) (exit : Float) → exit ≡ infinity → Running m b 0 nought exit
unfolding through
begun m b exit e = record { upto = omega arith; enter_real = rw nought_is tt; exit_real = rw (e, infinity_is) tt; same = rw e }

opens : (m : Aim) (b : Aabb) (axis : ℕ) (enter exit : Float) → axis < 3 → through_from m b (3 - axis) axis enter exit ≡ and_then (on_axis m b axis enter exit) (through_from m b (3 - (axis + 1)) (axis + 1))
unfolding through_from
opens m b zero enter exit h = refl
opens m b (suc zero) enter exit h = refl
opens m b (suc (suc zero)) enter exit h = refl
opens m b (suc (suc (suc k))) enter exit h = absurd (omega arith)

-- with all axes done
pub done : {m : Aim} {b : Aabb} {axis : ℕ} {enter exit : Float} → Running m b axis enter exit → axis ≡ 3 → ahead enter exit ≡ through m b
unfolding through_from
done R e = rw e at R.same

-- one axis more: the ray's numbers there, and the slab's sides
pub record Here (m : Aim) (b : Aabb) (axis : ℕ) (enter exit : Float) (s : Sight) (min max : Float) : Type 0 where
  pub so_far : Running m b axis enter exit
  pub more : axis < 3
  pub sight : s ≡ sight_on axis m
  pub low : min ≡ along axis b.min
  pub high : max ≡ along axis b.max

module _ {m : Aim} {b : Aabb} {axis : ℕ} {enter exit : Float} {s : Sight} {min max : Float} (H : Here m b axis enter exit s min max) where
  one_axis : and_then (narrowed s min max enter exit) (through_from m b (3 - (axis + 1)) (axis + 1)) ≡ through m b
  unfolding on_axis
  one_axis = rw (H.sight, H.low, H.high) (sym (opens m b axis enter exit H.more) ∙ H.so_far.same)

  -- it rules the box out, or it does not
  stop : narrowed s min max enter exit ≡ None → None ≡ through m b
  unfolding and_then
  stop p = rw p at one_axis

  next : (later sooner : Float) → T (real later) → T (real sooner) → narrowed s min max enter exit ≡ passed later sooner → Running m b (axis + 1) later sooner
  unfolding and_then
  next later sooner l r p = record { upto = omega (arith, H.more); enter_real = l; exit_real = r; same = rw p at one_axis }

  module _ (flat : s.flat ≡ true) where
    pub flat_below : lt s.origin min ≡ true → None ≡ through m b
    unfolding narrowed parallel
    flat_below h = stop (rw (flat, h))

    module _ (below : lt s.origin min ≡ false) where
      pub flat_above : lt max s.origin ≡ true → None ≡ through m b
      unfolding narrowed parallel
      flat_above k = stop (rw (flat, below, k))

      pub flat_within : lt max s.origin ≡ false → Running m b (axis + 1) enter exit
      unfolding narrowed parallel
      flat_within k = next enter exit H.so_far.enter_real H.so_far.exit_real (rw (flat, below, k))

  module _ (steep : s.flat ≡ false) {t0 t1 later sooner : Float} (p : t0 ≡ first (reach s min) (reach s max)) (q : t1 ≡ second (reach s min) (reach s max))
      (l : later ≡ cond (lt enter t0) t0 enter) (r : sooner ≡ cond (lt t1 exit) t1 exit) where
    clips : narrowed s min max enter exit ≡ unless_later later sooner
    unfolding narrowed clipped
    clips = rw (← p, ← q, l, r, higher_is enter t0 H.so_far.enter_real, lower_is exit t1 H.so_far.exit_real, steep)

    pub ruled_out : lt sooner later ≡ true → None ≡ through m b
    unfolding unless_later
    ruled_out h = stop (clips ∙ rw h)

    pub left_open : lt sooner later ≡ false → Running m b (axis + 1) later sooner
    unfolding unless_later
    left_open h = next later sooner (rw l (higher_real enter t0 H.so_far.enter_real)) (rw r (lower_real exit t1 H.so_far.exit_real)) (clips ∙ rw h)
