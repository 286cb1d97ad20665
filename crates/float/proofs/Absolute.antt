-- The magnitude as code works it out: below zero the sign is turned, and a zero, which fits in one way only, has the magnitude 0.0.
-- Assumes nothing.
use mathlib.Core.Path.{◌≡◌, refl, sym, ap}
use mathlib.Core.Bool.{Bool, true, false}
use Prim.Native.Nat.{ℕ, zero, suc, ◌+◌, ◌*◌}
use native.Mathlib.Omega.{arith}
use native.Mathlib.Nat.{zero-lt-suc, mul-pos, zero-mul, pow-suc}
use lib.IntN.{ℤ, pos, negsuc}
use lib.Dec.{ltb, eqb}
use lib.Pow.{pow_pos}
use lib.Ieee.{Float, nan, inf, fin, up, down, neg, lt, eq, fits, binary64}
use lib.Ieee.Fits.{up_pos}
use borrow.Author.Tests.{eqb-true, eq-eqb, lt-ltb, le-ltb}
use Rattle.float.proofs.Cases.{and_true}
use Rattle.float.specs.Number.{nought}
use Rattle.float.specs.Pick.{magnitude}
use Rattle.float.proofs.Numbers.{nought_is}
use Rattle.float.proofs.Order.{clash}

-- ---- a zero is what equals 0.0
pub is_zero : (s : Bool) (e : ℤ) → eq (fin s zero e) (fin false 0 (pos 0)) ≡ true
unfolding eq
is_zero true e = simp (zero-mul, eq-eqb 0 0 refl)
is_zero false e = simp (zero-mul, eq-eqb 0 0 refl)

pub not_zero : {A : Type 0} (s : Bool) (m : ℕ) (e : ℤ) → eq (fin s (suc m) e) (fin false 0 (pos 0)) ≡ true → A
unfolding eq
not_zero s m e p =
    let a = suc m * up e * 1 in
    let b = 0 * 1 * down e in
    absurd (omega (arith, zero-mul (down e), mul-pos (zero-lt-suc m) (up_pos e), eqb-true a b (and_true (eqb a b) _ p)))

-- ---- below zero, at zero and above
below_zero : (x : Float) → lt x (fin false 0 (pos 0)) ≡ true → neg x ≡ magnitude x
unfolding lt neg
below_zero nan p = refl
below_zero (inf true) p = refl
below_zero (inf false) p = clash false p refl
below_zero (fin true m e) p = refl
below_zero (fin false m e) p = clash (ltb (m * up e * 1) (0 * 1 * down e)) p (le-ltb (m * up e * 1) (0 * 1 * down e) (omega (arith, zero-mul (down e))))

one_zero : (e : ℤ) → up e * down e ≡ 1 → e ≡ pos 0
one_zero (pos zero) h = refl
one_zero (pos (suc k)) h = absurd (omega (arith, pow_pos k, pow-suc 2 k))
one_zero (negsuc k) h = absurd (omega (arith, pow_pos k, pow-suc 2 k))

zero_is : (x : Float) → fits binary64 x ≡ true → eq x (fin false 0 (pos 0)) ≡ true → fin false 0 (pos 0) ≡ magnitude x
unfolding eq fits
zero_is nan h p = clash false p refl
zero_is (inf s) h p = clash false p refl
zero_is (fin s zero e) h p = ap (fin false 0) (sym (one_zero e (eqb-true (up e * down e) 1 h)))
zero_is (fin s (suc m) e) h p = not_zero s m e p

above_zero : (x : Float) → lt x (fin false 0 (pos 0)) ≡ false → eq x (fin false 0 (pos 0)) ≡ false → x ≡ magnitude x
unfolding lt eq
above_zero nan p q = refl
above_zero (inf true) p q = clash true refl p
above_zero (inf false) p q = refl
above_zero (fin false m e) p q = refl
above_zero (fin true zero e) p q = clash (eq (fin true zero e) (fin false 0 (pos 0))) (is_zero true e) q
above_zero (fin true (suc m) e) p q = clash (lt (fin true (suc m) e) (fin false 0 (pos 0))) (lt-ltb 0 (suc m * up e * 1 + 0 * 1 * down e) (omega (arith, mul-pos (zero-lt-suc m) (up_pos e)))) p

pub magnitude_below : (x : Float) → lt x nought ≡ true → neg x ≡ magnitude x
magnitude_below x p = below_zero x (rw nought_is at p)

pub magnitude_zero : (x : Float) → fits binary64 x ≡ true → eq x nought ≡ true → nought ≡ magnitude x
magnitude_zero x h p = rw nought_is (zero_is x h (rw nought_is at p))

pub magnitude_above : (x : Float) → lt x nought ≡ false → eq x nought ≡ false → x ≡ magnitude x
magnitude_above x p q = above_zero x (rw nought_is at p) (rw nought_is at q)
