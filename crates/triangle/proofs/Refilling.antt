-- What the code that refills normals cites: a direction by its squared length, and one triangle more of a loop. Assumes nothing.
use mathlib.Core.Path.{◌≡◌, sym, ap, ◌∙◌}
use Prim.Native.Nat.{ℕ, ◌+◌, ◌-◌, ◌≤◌, ◌<◌}
use native.Mathlib.Nat.{sub-zero, sub-eq-zero_of_le}
use native.Mathlib.Numerals.{add-one}
use mathlib.Core.Bool.{true, false}
use mathlib.Core.List.{List}
use lib.ListN.{length, length-set}
use lib.Ieee.{Float, lt}
use Rattle.float.specs.Number.{nought, one, trillionth}
use Rattle.float.specs.Root.{root}
use Rattle.aabb.specs.declared.vector.Vec3.{Vec3}
use Rattle.aabb.specs.Vector.{vec, divided, dot}
use Rattle.triangle.specs.Normal.{direction}
use Rattle.triangle.specs.Refilled.{put, filled, filled_from}
use Rattle.lent.proofs.Lowest.{one_more}

-- ---- the direction, by the squared length
module _ (a : Vec3) (d : Float) (is : d ≡ dot a a) where
  pub long : (r : Float) (v : Vec3) → lt trillionth d ≡ true → r ≡ root d → v ≡ divided a r → v ≡ direction a
  unfolding direction
  long r v p q e = rw (← is, p) (e ∙ ap (divided a) q)

  pub short : lt trillionth d ≡ false → vec nought one nought ≡ direction a
  unfolding direction
  short p = rw (← is, p)

-- ---- one triangle more
pub fill_start : (m : List Float) (n : ℕ) → filled_from m 0 (n - 0) ≡ filled_from m 0 n
fill_start m n = ap (λ (k : ℕ). filled_from m 0 k) (sub-zero n)

module _ (m : List Float) (i n : ℕ) where
  pub fill_go : i < n → filled_from m i (n - i) ≡ filled_from (filled m i) (i + 1) (n - (i + 1))
  unfolding filled_from
  fill_go h = ap (λ (k : ℕ). filled_from m i k) (one_more i n h) ∙ ap (λ (k : ℕ). filled_from (filled m i) k (n - (i + 1))) (sym (add-one i))

  pub fill_end : n ≤ i → filled_from m i (n - i) ≡ m
  unfolding filled_from
  fill_end h = ap (λ (k : ℕ). filled_from m i k) (sub-eq-zero_of_le h)

pub length_filled : (m : List Float) (i : ℕ) → length (filled m i) ≡ length m
unfolding filled put
length_filled m i = simp length-set
