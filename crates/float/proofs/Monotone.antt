-- A sum, a difference and a product keep the order of their operands or turn it round, for every sign, zeros and infinities included: rounding keeps the order of fractions, and an infinite operand gives an infinity or a NaN.
-- Assumes nothing.
use mathlib.Core.Path.{◌≡◌, refl}
use mathlib.Core.Logic.{◌⊎◌, inl, inr}
use Prim.Native.Nat.{ℕ, zero, suc, ◌+◌, ◌*◌, ◌≤◌, ◌<◌}
use native.Mathlib.Nat.{zero-lt-suc, mul-le-mul_right, mul-pos}
use native.Mathlib.Omega.{arith}
use mathlib.Core.Bool.{Bool, true, false}
use lib.IntN.{ℤ, pos}
use lib.Dec.{T, eqb-suc-zero}
use lib.Ieee.{Float, nan, inf, fin, Format, add, sub, mul, neg, le}
use lib.Ieee.Fits.{up_pos, down_pos}
use lib.Ieee.Positive.{den, den_pos}
use lib.Ieee.Scale.{finite}
use Rattle.float.specs.Number.{real, nought}
use Rattle.float.proofs.Numbers.{nought_is}
use Rattle.float.proofs.Order.{gain, loss, le→under, under→le, le_refl, le_trans}
use Rattle.float.proofs.Round.{le_neg, rounds_mono, rounds_real}
use Rattle.float.proofs.Turned.{add_comm, mul_neg}
use Rattle.float.proofs.Fraction.{add_rounds, sub_rounds, mul_rounds}

dens : (x y : Float) → 0 < den x * den y
dens x y = mul-pos (den_pos x) (den_pos y)

-- ---- finite operands: no NaN comes of them
pub add_real : (f : Format) (x y : Float) → T (finite x) → T (finite y) → T (real (add f x y))
add_real f x y p q = rounds_real f (add f x y) _ _ (den x * den y) (dens x y) (add_rounds f x y p q)

pub sub_real : (f : Format) (x y : Float) → T (finite x) → T (finite y) → T (real (sub f x y))
sub_real f x y p q = rounds_real f (sub f x y) _ _ (den x * den y) (dens x y) (sub_rounds f x y p q)

pub mul_real : (f : Format) (x y : Float) → T (finite x) → T (finite y) → T (real (mul f x y))
mul_real f x y p q = rounds_real f (mul f x y) _ _ (den x * den y) (dens x y) (mul_rounds f x y p q)

-- ---- finite operands: the order, with the fractions multiplied out
add_cross : (gx lx dx gy ly dy go lo d : ℕ) → gx * dy + ly * dx ≤ gy * dx + lx * dy
    → (gx * d + go * dx) * (dy * d) + (ly * d + lo * dy) * (dx * d) ≤ (gy * d + go * dy) * (dx * d) + (lx * d + lo * dx) * (dy * d)
add_cross gx lx dx gy ly dy go lo d h = omega (arith, mul-le-mul_right (d * d) h)

pub add_mono : (f : Format) (x y o : Float) → T (finite x) → T (finite y) → T (finite o) → T (le x y) → T (le (add f x o) (add f y o))
add_mono f x y o p q r h =
    rounds_mono _ _ (den x * den o) _ _ (den y * den o) (dens x o) (dens y o)
    (add_cross (gain x) (loss x) (den x) (gain y) (loss y) (den y) (gain o) (loss o) (den o) (le→under x y p q h))
    f (add f x o) (add f y o) (add_rounds f x o p r) (add_rounds f y o q r)

mul_cross : (gx lx dx gy ly dy gk d : ℕ) → gx * dy + ly * dx ≤ gy * dx + lx * dy
    → (gx * gk + lx * 0) * (dy * d) + (gy * 0 + ly * gk) * (dx * d) ≤ (gy * gk + ly * 0) * (dx * d) + (gx * 0 + lx * gk) * (dy * d)
mul_cross gx lx dx gy ly dy gk d h = omega (arith, mul-le-mul_right (gk * d) h)

pub mul_mono : (f : Format) (x y k : Float) → T (finite x) → T (finite y) → T (finite k) → loss k ≡ 0 → T (le x y) → T (le (mul f x k) (mul f y k))
mul_mono f x y k p q r z h =
    rounds_mono _ _ (den x * den k) _ _ (den y * den k) (dens x k) (dens y k)
    (rw z (mul_cross (gain x) (loss x) (den x) (gain y) (loss y) (den y) (gain k) (den k) (le→under x y p q h)))
    f (mul f x k) (mul f y k) (mul_rounds f x k p r) (mul_rounds f y k q r)

-- ---- what leaves an infinity as it is, or gives a NaN, keeps the order of all numbers where it keeps that of the finite ones
least : (x : Float) → T (real x) → T (le (inf true) x)
unfolding le
least nan p = p
least (inf true) p = tt
least (inf false) p = tt
least (fin s m e) p = tt

most : (x : Float) → T (real x) → T (le x (inf false))
unfolding le
most nan p = p
most (inf true) p = tt
most (inf false) p = tt
most (fin s m e) p = tt

module _
    (g : Float → Float)
    (ends : (s : Bool) → T (real (g (inf s))) → g (inf s) ≡ inf s)
    (inner : (x y : Float) → T (finite x) → T (finite y) → T (real (g x)) → T (real (g y)) → T (le x y) → T (le (g x) (g y))) where
  keeps : (x y : Float) → T (le x y) → T (real (g x)) → T (real (g y)) → T (le (g x) (g y))
  unfolding le
  keeps nan y h p q = absurd h
  keeps (inf true) y h p q = rw (ends true p) (least (g y) q)
  keeps (inf false) nan h p q = absurd h
  keeps (inf false) (inf true) h p q = absurd h
  keeps (inf false) (inf false) h p q = le_refl (g (inf false)) p
  keeps (inf false) (fin t n d) h p q = absurd h
  keeps (fin s m e) nan h p q = absurd h
  keeps (fin s m e) (inf true) h p q = absurd h
  keeps (fin s m e) (inf false) h p q = rw (ends false q) (most (g (fin s m e)) p)
  keeps (fin s m e) (fin t n d) h p q = inner (fin s m e) (fin t n d) tt tt p q h

-- ---- the sum of any two numbers, where it is a number
add_ends : (f : Format) (o : Float) (s : Bool) → T (real (add f (inf s) o)) → add f (inf s) o ≡ inf s
unfolding add
add_ends f nan s p = absurd p
add_ends f (inf true) true p = refl
add_ends f (inf true) false p = absurd p
add_ends f (inf false) true p = absurd p
add_ends f (inf false) false p = refl
add_ends f (fin t n d) s p = refl

add_inner : (f : Format) (o x y : Float) → T (finite x) → T (finite y) → T (real (add f x o)) → T (real (add f y o)) → T (le x y) → T (le (add f x o) (add f y o))
unfolding add
add_inner f o nan y p q a b h = absurd p
add_inner f o (inf s) y p q a b h = absurd p
add_inner f o (fin s m e) nan p q a b h = absurd q
add_inner f o (fin s m e) (inf t) p q a b h = absurd q
add_inner f nan (fin s m e) (fin t n d) p q a b h = absurd a
add_inner f (inf u) (fin s m e) (fin t n d) p q a b h = le_refl (inf u) tt
add_inner f (fin u k c) (fin s m e) (fin t n d) p q a b h = add_mono f (fin s m e) (fin t n d) (fin u k c) tt tt tt h

pub add_keeps : (f : Format) (x y o : Float) → T (le x y) → T (real (add f x o)) → T (real (add f y o)) → T (le (add f x o) (add f y o))
add_keeps f x y o = keeps (λ (z : Float). add f z o) (add_ends f o) (add_inner f o) x y

-- ---- the difference: it grows with what stands left, and shrinks as what is taken away grows
pub sub_keeps : (f : Format) (x y o : Float) → T (le x y) → T (real (sub f x o)) → T (real (sub f y o)) → T (le (sub f x o) (sub f y o))
unfolding sub
sub_keeps f x y o = add_keeps f x y (neg o)

pub sub_turns : (f : Format) (o x y : Float) → T (le x y) → T (real (sub f o x)) → T (real (sub f o y)) → T (le (sub f o y) (sub f o x))
unfolding sub
sub_turns f o x y h p q =
    rw (add_comm f o (neg y), add_comm f o (neg x)) (add_keeps f (neg y) (neg x) o (le_neg x y h) (rw (add_comm f o (neg y)) at q) (rw (add_comm f o (neg x)) at p))

pub sub_mono : (f : Format) (x y o : Float) → T (finite x) → T (finite y) → T (finite o) → T (le x y) → T (le (sub f x o) (sub f y o))
sub_mono f x y o p q r h = sub_keeps f x y o h (sub_real f x o p r) (sub_real f y o q r)

pub sub_anti : (f : Format) (o x y : Float) → T (finite o) → T (finite x) → T (finite y) → T (le x y) → T (le (sub f o y) (sub f o x))
sub_anti f o x y r p q h = sub_turns f o x y h (sub_real f o x r p) (sub_real f o y r q)

-- ---- the product by a factor that is not negative
abbrev zero' : Float
zero' = fin false 0 (pos 0)

no_loss : (k : Float) → T (finite k) → T (le zero' k) → loss k ≡ 0
no_loss nan p h = absurd p
no_loss (inf s) p h = absurd p
no_loss (fin false n d) p h = refl
no_loss (fin true n d) p h = omega (arith, le→under zero' (fin true n d) tt tt h)

-- no value with a plus sign is at most one below zero
signs : (m : ℕ) (e : ℤ) (n : ℕ) (d : ℤ) → T (le (fin false m e) (fin true (suc n) d)) → ⊥
signs m e n d h = omega (arith, le→under (fin false m e) (fin true (suc n) d) tt tt h, mul-pos (mul-pos (zero-lt-suc n) (up_pos d)) (down_pos e))

mul_ends : (f : Format) (k : Float) → T (le zero' k) → (s : Bool) → T (real (mul f (inf s) k)) → mul f (inf s) k ≡ inf s
unfolding mul
mul_ends f nan h s p = absurd p
mul_ends f (inf true) h s p = absurd (unfold le in h)
mul_ends f (inf false) h true p = refl
mul_ends f (inf false) h false p = refl
mul_ends f (fin t zero d) h s p = absurd p
mul_ends f (fin false (suc n) d) h true p = rw eqb-suc-zero
mul_ends f (fin false (suc n) d) h false p = rw eqb-suc-zero
mul_ends f (fin true (suc n) d) h s p = absurd (signs 0 (pos 0) n d h)

far_mul : (f : Format) (s : Bool) (m : ℕ) (e : ℤ) → T (real (mul f (fin s m e) (inf false))) → mul f (fin s m e) (inf false) ≡ inf s
unfolding mul
far_mul f s zero e p = absurd p
far_mul f true (suc m) e p = rw eqb-suc-zero
far_mul f false (suc m) e p = rw eqb-suc-zero

mul_inner : (f : Format) (k : Float) → T (le zero' k) → (x y : Float) → T (finite x) → T (finite y) → T (real (mul f x k)) → T (real (mul f y k)) → T (le x y) → T (le (mul f x k) (mul f y k))
unfolding mul
mul_inner f k z nan y p q a b h = absurd p
mul_inner f k z (inf s) y p q a b h = absurd p
mul_inner f k z (fin s m e) nan p q a b h = absurd q
mul_inner f k z (fin s m e) (inf t) p q a b h = absurd q
mul_inner f nan z (fin s m e) (fin t n d) p q a b h = absurd a
mul_inner f (inf true) z (fin s m e) (fin t n d) p q a b h = absurd (unfold le in z)
mul_inner f (inf false) z (fin true m e) (fin t n d) p q a b h = rw (far_mul f true m e a) (least (mul f (fin t n d) (inf false)) b)
mul_inner f (inf false) z (fin false m e) (fin false n d) p q a b h = rw (far_mul f false n d b) (most (mul f (fin false m e) (inf false)) a)
mul_inner f (inf false) z (fin false m e) (fin true zero d) p q a b h = absurd b
mul_inner f (inf false) z (fin false m e) (fin true (suc n) d) p q a b h = absurd (signs m e n d h)
mul_inner f (fin u k c) z (fin s m e) (fin t n d) p q a b h = mul_mono f (fin s m e) (fin t n d) (fin u k c) tt tt tt (no_loss (fin u k c) tt z) h

pub mul_keeps : (f : Format) (x y k : Float) → T (le nought k) → T (le x y) → T (real (mul f x k)) → T (real (mul f y k)) → T (le (mul f x k) (mul f y k))
mul_keeps f x y k z = keeps (λ (w : Float). mul f w k) (mul_ends f k (rw nought_is at z)) (mul_inner f k (rw nought_is at z)) x y

-- ---- the product by a factor that is not positive: the sign of the factor is turned, and that of the product
real_neg : (x : Float) → T (real (neg x)) → T (real x)
unfolding neg
real_neg nan p = p
real_neg (inf s) p = tt
real_neg (fin s m e) p = tt

neg_zero : (k : Float) → T (le k zero') → T (le zero' (neg k))
unfolding neg le
neg_zero k h = le_trans zero' (neg zero') (neg k) tt (le_neg k zero' h)

pub mul_turns : (f : Format) (x y k : Float) → T (le k nought) → T (le x y) → T (real (mul f x k)) → T (real (mul f y k)) → T (le (mul f y k) (mul f x k))
mul_turns f x y k z h p q =
    rw (mul_neg f y k, mul_neg f x k)
    (le_neg (mul f x (neg k)) (mul f y (neg k)) (mul_keeps f x y (neg k) (rw nought_is (neg_zero k (rw nought_is at z))) h (real_neg (mul f x (neg k)) (rw (mul_neg f x k) at p)) (real_neg (mul f y (neg k)) (rw (mul_neg f y k) at q))))

pub mul_anti : (f : Format) (x y k : Float) → T (finite x) → T (finite y) → T (finite k) → gain k ≡ 0 → T (le x y) → T (le (mul f y k) (mul f x k))
mul_anti f x y k p q r z h = mul_turns f x y k (rw nought_is (under→le k zero' r tt (omega arith))) h (mul_real f x k p r) (mul_real f y k q r)

pub side : (k : Float) → T (finite k) → (loss k ≡ 0) ⊎ (gain k ≡ 0)
side nan h = absurd h
side (inf s) h = absurd h
side (fin false m e) h = inl refl
side (fin true m e) h = inr refl
