-- What holds of a vector by component holds on every axis, and the other way round: so a law of boxes is a law of numbers, stated once for the axis. Assumes nothing.
use mathlib.Core.Path.{◌≡◌, refl}
use mathlib.Core.Bool.{Bool, ◌&&◌}
use Prim.Native.Nat.{ℕ, zero, suc}
use lib.Dec.{T}
use lib.Ieee.{Float, le}
use lib.Ieee.Fits.{and_l, and_r, and_i}
use Rattle.float.specs.Pick.{magnitude, lesser, greater}
use Rattle.aabb.specs.declared.vector.Vec3.{Vec3}
use Rattle.aabb.specs.Vector.{along, all, within, all_within, all_at_most, least, greatest}

three : (p q r : Bool) → T p → T q → T r → T (p && (q && r))
three p q r h i j = and_i p (q && r) h (and_i q r i j)

-- ---- a test of each component
module _ (P : Float → Bool) (a : Vec3) where
  pub all_along : (k : ℕ) → T (all P a) → T (P (along k a))
  unfolding along
  all_along zero h = search (and_l, and_r)
  all_along (suc zero) h = search (and_l, and_r)
  all_along (suc (suc k)) h = search (and_l, and_r)

  pub all_from : ((k : ℕ) → T (P (along k a))) → T (all P a)
  unfolding along
  all_from f = three (P a.x) (P a.y) (P a.z) (f 0) (f 1) (f 2)

pub within_along : (limit : Float) (k : ℕ) (a : Vec3) → T (all_within limit a) → T (le (magnitude (along k a)) limit)
unfolding all_within within
within_along limit k a h = all_along (within limit) a k h

pub within_from : (limit : Float) (a : Vec3) → ((k : ℕ) → T (le (magnitude (along k a)) limit)) → T (all_within limit a)
unfolding all_within within
within_from limit a f = all_from (within limit) a f

-- ---- the order of each component
module _ (a b : Vec3) where
  pub at_most_along : (k : ℕ) → T (all_at_most a b) → T (le (along k a) (along k b))
  unfolding along all_at_most
  at_most_along zero h = search (and_l, and_r)
  at_most_along (suc zero) h = search (and_l, and_r)
  at_most_along (suc (suc k)) h = search (and_l, and_r)

  pub at_most_from : ((k : ℕ) → T (le (along k a) (along k b))) → T (all_at_most a b)
  unfolding along all_at_most
  at_most_from f = three (le a.x b.x) (le a.y b.y) (le a.z b.z) (f 0) (f 1) (f 2)

  pub along_least : (k : ℕ) → along k (least a b) ≡ lesser (along k a) (along k b)
  unfolding along least
  along_least zero = refl
  along_least (suc zero) = refl
  along_least (suc (suc k)) = refl

  pub along_greatest : (k : ℕ) → along k (greatest a b) ≡ greater (along k a) (along k b)
  unfolding along greatest
  along_greatest zero = refl
  along_greatest (suc zero) = refl
  along_greatest (suc (suc k)) = refl
