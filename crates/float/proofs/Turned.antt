-- The terms of a sum may be exchanged, and the sign of a factor turned with that of the product: so what is shown of one side holds of the other.
-- Assumes nothing.
use mathlib.Core.Path.{◌≡◌, refl, sym, ap, ◌∙◌}
use Prim.Native.Nat.{ℕ, ◌-◌, ◌*◌, ◌≤◌, ◌<◌}
use native.Mathlib.Nat as nat
use native.Mathlib.Omega.{arith}
use mathlib.Core.Bool.{Bool, true, false, not, cond}
use lib.Dec.{T, ltb, eqb, ltb→lt, nltb→le}
use lib.Ieee.{Float, nan, inf, fin, Format, up, down, unlike, round, sum, add, mul, neg}
use Rattle.float.proofs.Round.{neg_round}

-- ---- the sum
sum_turned : (f : Format) (a b c : ℕ) → sum f false a true b c ≡ sum f true b false a c
unfolding sum
sum_turned f a b c = go (ltb a b) (ltb b a) (ltb→lt a b) (nltb→le a b) (ltb→lt b a) (nltb→le b a)
  where
    go : (t u : Bool) → (T t → a < b) → (T (not t) → b ≤ a) → (T u → b < a) → (T (not u) → a ≤ b) → cond t (round f true (b - a) c) (round f false (a - b) c) ≡ cond u (round f false (a - b) c) (round f t (b - a) c)
    go true true h h' k k' = absurd (omega (arith, h tt, k tt))
    go true false h h' k k' = refl
    go false true h h' k k' = refl
    go false false h h' k k' = ap (λ (z : ℕ). round f false z c) (omega (arith, h' tt, k' tt))

sum_comm : (f : Format) (s : Bool) (a : ℕ) (t : Bool) (b c : ℕ) → sum f s a t b c ≡ sum f t b s a c
unfolding sum
sum_comm f false a false b c = ap (λ (z : ℕ). round f false z c) (nat.add_comm a b)
sum_comm f false a true b c = sum_turned f a b c
sum_comm f true a false b c = sym (sum_turned f b a c)
sum_comm f true a true b c = ap (λ (z : ℕ). round f true z c) (nat.add_comm a b)

pub add_comm : (f : Format) (x y : Float) → add f x y ≡ add f y x
unfolding add
add_comm f nan nan = refl
add_comm f nan (inf t) = refl
add_comm f nan (fin t n d) = refl
add_comm f (inf s) nan = refl
add_comm f (inf true) (inf true) = refl
add_comm f (inf true) (inf false) = refl
add_comm f (inf false) (inf true) = refl
add_comm f (inf false) (inf false) = refl
add_comm f (inf s) (fin t n d) = refl
add_comm f (fin s m e) nan = refl
add_comm f (fin s m e) (inf t) = refl
add_comm f (fin s m e) (fin t n d) =
    let a = m * up e * down d in
    let b = n * up d * down e in
    sum_comm f s a t b (down e * down d) ∙ ap (λ (z : ℕ). sum f t b s a z) (nat.mul_comm (down e) (down d))

-- ---- the product
unlike_not : (s t : Bool) → unlike s t ≡ not (unlike s (not t))
unlike_not true true = refl
unlike_not true false = refl
unlike_not false true = refl
unlike_not false false = refl

either : (z s t : Bool) → cond z nan (inf (unlike s t)) ≡ neg (cond z nan (inf (unlike s (not t))))
unfolding neg
either true s t = refl
either false s t = ap inf (unlike_not s t)

pub mul_neg : (f : Format) (x k : Float) → mul f x k ≡ neg (mul f x (neg k))
unfolding mul neg
mul_neg f nan k = refl
mul_neg f (inf s) nan = refl
mul_neg f (inf s) (inf t) = ap inf (unlike_not s t)
mul_neg f (inf s) (fin t n d) = either (eqb n 0) s t
mul_neg f (fin s m e) nan = refl
mul_neg f (fin s m e) (inf t) = either (eqb m 0) s t
mul_neg f (fin s m e) (fin t n d) =
    let a = m * up e * (n * up d) in
    ap (λ (b : Bool). round f b a (down e * down d)) (unlike_not s t) ∙ sym (neg_round f (unlike s (not t)) a (down e * down d))
