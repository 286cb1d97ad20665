-- A sum, a difference and a product of finite values of either sign are fractions that are rounded: each sign's case by itself.
-- Assumes nothing.
use mathlib.Core.Path.{◌≡◌, refl}
use Prim.Native.Nat.{ℕ, ◌+◌, ◌-◌, ◌*◌, ◌≤◌, ◌<◌}
use native.Mathlib.Omega.{arith}
use mathlib.Core.Bool.{Bool, true, false, not, cond}
use lib.Dec.{T, ltb, ltb→lt, nltb→le}
use lib.Ieee.{Float, nan, inf, fin, Format, up, down, round, sum, add, sub, mul, neg}
use lib.Ieee.Positive.{den}
use lib.Ieee.Scale.{finite}
use Rattle.float.proofs.Order.{gain, loss}
use Rattle.float.proofs.Round.{Rounds}

-- ---- the sum
abbrev part : Bool → ℕ → ℕ
part false a = a
part true a = 0

sum_rounds : (f : Format) (s : Bool) (a : ℕ) (t : Bool) (b c g l : ℕ) → g ≡ part s a + part t b → l ≡ part (not s) a + part (not t) b → Rounds f (sum f s a t b c) g l c
unfolding sum
sum_rounds f false a false b c g l p q = record { sign = false; size = a + b; split = omega arith; is = refl }
sum_rounds f false a true b c g l p q = go (ltb a b) (ltb→lt a b) (nltb→le a b)
  where
    go : (z : Bool) → (T z → a < b) → (T (not z) → b ≤ a) → Rounds f (cond z (round f true (b - a) c) (round f false (a - b) c)) g l c
    go true h k = record { sign = true; size = b - a; split = omega (arith, h tt); is = refl }
    go false h k = record { sign = false; size = a - b; split = omega (arith, k tt); is = refl }
sum_rounds f true a false b c g l p q = go (ltb a b) (ltb→lt a b) (nltb→le a b) (ltb b a) (nltb→le b a)
  where
    go : (z : Bool) → (T z → a < b) → (T (not z) → b ≤ a) → (y : Bool) → (T (not y) → a ≤ b) → Rounds f (cond z (round f false (b - a) c) (round f y (a - b) c)) g l c
    go true h k y j = record { sign = false; size = b - a; split = omega (arith, h tt); is = refl }
    go false h k true j = record { sign = true; size = a - b; split = omega (arith, k tt); is = refl }
    go false h k false j = record { sign = false; size = a - b; split = omega (arith, k tt, j tt); is = refl }
sum_rounds f true a true b c g l p q = record { sign = true; size = a + b; split = omega arith; is = refl }

pub add_rounds : (f : Format) (x y : Float) → T (finite x) → T (finite y) → Rounds f (add f x y) (gain x * den y + gain y * den x) (loss x * den y + loss y * den x) (den x * den y)
unfolding add
add_rounds f nan y p q = absurd p
add_rounds f (inf s) y p q = absurd p
add_rounds f (fin s m e) nan p q = absurd q
add_rounds f (fin s m e) (inf t) p q = absurd q
add_rounds f (fin false m e) (fin false n d) p q = sum_rounds f false (m * up e * down d) false (n * up d * down e) (down e * down d) _ _ (omega arith) (omega arith)
add_rounds f (fin false m e) (fin true n d) p q = sum_rounds f false (m * up e * down d) true (n * up d * down e) (down e * down d) _ _ (omega arith) (omega arith)
add_rounds f (fin true m e) (fin false n d) p q = sum_rounds f true (m * up e * down d) false (n * up d * down e) (down e * down d) _ _ (omega arith) (omega arith)
add_rounds f (fin true m e) (fin true n d) p q = sum_rounds f true (m * up e * down d) true (n * up d * down e) (down e * down d) _ _ (omega arith) (omega arith)

pub sub_rounds : (f : Format) (x y : Float) → T (finite x) → T (finite y) → Rounds f (sub f x y) (gain x * den y + loss y * den x) (loss x * den y + gain y * den x) (den x * den y)
unfolding sub neg
sub_rounds f x nan p q = absurd q
sub_rounds f x (inf t) p q = absurd q
sub_rounds f x (fin false n d) p q = add_rounds f x (fin true n d) p q
sub_rounds f x (fin true n d) p q = add_rounds f x (fin false n d) p q

-- ---- the product
pub mul_rounds : (f : Format) (x y : Float) → T (finite x) → T (finite y) → Rounds f (mul f x y) (gain x * gain y + loss x * loss y) (gain x * loss y + loss x * gain y) (den x * den y)
unfolding mul
mul_rounds f nan y p q = absurd p
mul_rounds f (inf s) y p q = absurd p
mul_rounds f (fin s m e) nan p q = absurd q
mul_rounds f (fin s m e) (inf t) p q = absurd q
mul_rounds f (fin false m e) (fin false n d) p q = record { sign = false; size = m * up e * (n * up d); split = omega arith; is = refl }
mul_rounds f (fin false m e) (fin true n d) p q = record { sign = true; size = m * up e * (n * up d); split = omega arith; is = refl }
mul_rounds f (fin true m e) (fin false n d) p q = record { sign = true; size = m * up e * (n * up d); split = omega arith; is = refl }
mul_rounds f (fin true m e) (fin true n d) p q = record { sign = false; size = m * up e * (n * up d); split = omega arith; is = refl }
