-- The root over whole numbers: `digits` finds the root cut down, and `nearest_root` the one whole number q with (q - ½)² < w < (q + ½)², here without the halves: q² - q < w ≤ q² + q.
-- Assumes nothing.
use mathlib.Core.Path.{◌≡◌, refl, subst}
use Prim.Native.Nat.{ℕ, zero, suc, ◌+◌, ◌*◌, ◌^◌, ◌≤◌, ◌<◌}
use native.Mathlib.Nat.{two-pow-succ}
use native.Mathlib.Omega.{arith}
use mathlib.Core.Bool.{Bool, true, false, cond}
use lib.Dec.{ltb}
use borrow.Author.Tests.{ltb-true, ltb-false}
use Rattle.float.specs.Root.{digits, nearest_root}

-- s is the root of w, cut down
abbrev pub Cut : ℕ → ℕ → Type 0
Cut w s = (s * s ≤ w) × (w < (s + 1) * (s + 1))

-- q is the whole number nearest to the root of w
abbrev pub Near : ℕ → ℕ → Type 0
Near w q = (q * q < w + q) × (w ≤ q * q + q)

module _ (w : ℕ) where
  digits_step : (d s : ℕ) → s * s ≤ w → w < (s + 2 ^ suc d) * (s + 2 ^ suc d) → (b : Bool) → ltb w ((s + 2 ^ d) * (s + 2 ^ d)) ≡ b
      → (cond b s (s + 2 ^ d) * cond b s (s + 2 ^ d) ≤ w) × (w < (cond b s (s + 2 ^ d) + 2 ^ d) * (cond b s (s + 2 ^ d) + 2 ^ d))
  digits_step d s lo hi true p = (lo, ltb-true w ((s + 2 ^ d) * (s + 2 ^ d)) p)
  digits_step d s lo hi false p = (
    ltb-false w ((s + 2 ^ d) * (s + 2 ^ d)) p,
    subst (λ (z : ℕ). w < z * z) (omega (arith, two-pow-succ d)) hi,
  )

  pub digits_cut : (d s : ℕ) → s * s ≤ w → w < (s + 2 ^ d) * (s + 2 ^ d) → Cut w (digits d w s)
  unfolding digits
  digits_cut zero s lo hi = (lo, hi)
  digits_cut (suc d) s lo hi =
      let b = ltb w ((s + 2 ^ d) * (s + 2 ^ d)) in
      let n = digits_step d s lo hi b refl in
      digits_cut d (cond b s (s + 2 ^ d)) n.0 n.1

  up_or_down : (s : ℕ) → 0 < w → Cut w s → (b : Bool) → ltb (4 * w) ((2 * s + 1) * (2 * s + 1)) ≡ b → Near w (cond b s (s + 1))
  up_or_down s pos c true p = (above_zero s c, omega (arith, ltb-true (4 * w) ((2 * s + 1) * (2 * s + 1)) p))
    where
      above_zero : (s : ℕ) → Cut w s → s * s < w + s
      above_zero zero c = omega arith
      above_zero (suc s) c = omega arith
  up_or_down s pos c false p = omega (arith, ltb-false (4 * w) ((2 * s + 1) * (2 * s + 1)) p)

  module _ (pos : 0 < w) (small : w < 2 ^ 53 * 2 ^ 53) where
    pub nearest_near : Near w (nearest_root w)
    unfolding nearest_root
    nearest_near = let s = digits 53 w 0 in up_or_down s pos (digits_cut 53 0 (omega arith) small) (ltb (4 * w) ((2 * s + 1) * (2 * s + 1))) refl
