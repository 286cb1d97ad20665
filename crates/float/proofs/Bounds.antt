-- A result is at most a power of two in size where its operands are, and so finite, since rounding keeps the order of sizes and a power of two is its own rounding.
-- Assumes nothing.
use mathlib.Core.Path.{◌≡◌, refl, sym, ap, ◌∙◌}
use Prim.Native.Nat.{ℕ, zero, suc, ◌+◌, ◌*◌, ◌^◌, ◌≤◌, ◌<◌}
use native.Mathlib.Nat.{mul-le-mul_right, mul-le-mul, mul-pos, zero-lt-suc}
use native.Mathlib.Omega.{arith}
use mathlib.Core.Bool.{Bool, true, false, cond}
use lib.IntN.{ℤ, pos, negsuc}
use lib.Dec.{T, ltb, eqb, eqb→eq}
use lib.Ieee.{Float, nan, inf, fin, Format, binary64, prec, emax, low, up, down, unlike, odd, units, round, neg, add, sub, mul, div, le}
use lib.Ieee.Fits.{round_is, down_pos}
use lib.Ieee.Order.{round_mono, kept, drop}
use lib.Ieee.Positive.{num, den, den_pos}
use lib.Ieee.Scale.{finite}
use Rattle.float.specs.Number.{two_to_40, trillionth, one}
use Rattle.float.specs.Pick.{magnitude}
use Rattle.float.proofs.Numbers.{two_to_40_is, trillionth_is, one_is}
use Rattle.float.proofs.Order.{gain, loss, le→under, le_trans}
use Rattle.float.proofs.Round.{Rounds, Split}
use Rattle.float.proofs.Fraction.{add_rounds}

-- what is no larger in size than a finite value is finite
pub below_finite : (x y : Float) → T (finite y) → T (le (magnitude x) y) → T (finite x)
unfolding le
below_finite nan y q h = absurd h
below_finite (inf s) nan q h = absurd q
below_finite (inf s) (inf t) q h = absurd q
below_finite (inf s) (fin t n d) q h = absurd h
below_finite (fin s m e) y q h = tt

-- ---- the size of a rounded fraction is its size rounded
magnitude_odd : (d : ℕ) (s : Bool) (q k l : ℕ) → magnitude (odd d s q k l) ≡ odd d false q k l
unfolding odd
magnitude_odd d s zero k l = refl
magnitude_odd d s (suc q) k l = refl

magnitude_units : (f : Format) (s : Bool) (q k : ℕ) → magnitude (units f s q k) ≡ units f false q k
unfolding units
magnitude_units f s q k = go (ltb (q * 2 ^ k) (2 ^ (low f + suc (emax f))))
  where
    go : (b : Bool) → magnitude (cond b (odd (suc (prec f)) s q k (low f)) (inf s)) ≡ cond b (odd (suc (prec f)) false q k (low f)) (inf false)
    go true = magnitude_odd (suc (prec f)) s q k (low f)
    go false = refl

magnitude_round : (f : Format) (s : Bool) (a c : ℕ) → magnitude (round f s a c) ≡ round f false a c
magnitude_round f s a c =
    let n = a * 2 ^ low f in
    ap magnitude (round_is f s a c) ∙ magnitude_units f s (kept (prec f) n c) (drop (prec f) n c) ∙ sym (round_is f false a c)

pub round_most : (f : Format) (s : Bool) (a c b d : ℕ) → 0 < c → 0 < d → a * d ≤ b * c → T (le (magnitude (round f s a c)) (round f false b d))
round_most f s a c b d C D h = rw (magnitude_round f s a c) (round_mono f a c b d C D h)

split_le : (s : Bool) (a g l w : ℕ) → Split s a g l → g ≤ w → l ≤ w → a ≤ w
split_le false a g l w p h k = omega arith
split_le true a g l w p h k = omega arith

rounds_most : (f : Format) (x : Float) (g l c b : ℕ) → 0 < c → Rounds f x g l c → g ≤ b * c → l ≤ b * c → T (le (magnitude x) (round f false b 1))
rounds_most f x g l c b C p h k = rw p.is (round_most f p.sign p.size c b 1 C (zero-lt-suc 0) (omega (arith, split_le p.sign p.size g l (b * c) p.split h k)))

-- ---- 2 ^ k
abbrev pub power : ℕ → Float
power k = fin false 1 (pos k)

-- at most 2 ^ k in size
abbrev pub AtMost : ℕ → Float → Type 0
AtMost k x = T (le (magnitude x) (power k))

pub power_finite : (x : Float) (k : ℕ) → AtMost k x → T (finite x)
power_finite x k h = below_finite x (power k) tt h

pub power_wider : (i k : ℕ) (x : Float) → T (le (power i) (power k)) → AtMost i x → AtMost k x
power_wider i k x h p = le_trans (magnitude x) (power i) (power k) p h

pub two_to_40_finite : (x : Float) → T (le (magnitude x) two_to_40) → T (finite x)
two_to_40_finite x h = power_finite x 40 (rw two_to_40_is at h)

size_le : (m : ℕ) (e : ℤ) (k : ℕ) → T (le (fin false m e) (power k)) → m * up e ≤ 2 ^ k * down e
size_le m e k h = omega (arith, le→under (fin false m e) (power k) tt tt h)

within : (x : Float) (k : ℕ) → AtMost k x → (gain x ≤ 2 ^ k * den x) × (loss x ≤ 2 ^ k * den x)
within nan k h = absurd (unfold le in h)
within (inf s) k h = absurd (unfold le in h)
within (fin false m e) k h = omega (arith, size_le m e k h)
within (fin true m e) k h = omega (arith, size_le m e k h)

-- ---- the sum and the difference
joined : (g d g' d' b : ℕ) → g ≤ b * d → g' ≤ b * d' → g * d' + g' * d ≤ (b + b) * (d * d')
joined g d g' d' b p q = omega (arith, mul-le-mul_right d' p, mul-le-mul_right d q)

magnitude_neg : (x : Float) → magnitude (neg x) ≡ magnitude x
unfolding neg
magnitude_neg nan = refl
magnitude_neg (inf s) = refl
magnitude_neg (fin s m e) = refl

pub add_most : (i k : ℕ) → round binary64 false (2 ^ i + 2 ^ i) 1 ≡ power k → (x y : Float) → AtMost i x → AtMost i y → AtMost k (add binary64 x y)
add_most i k e x y p q =
    let a = within x i p in
    let b = within y i q in
    rw (← e) (rounds_most binary64 (add binary64 x y) _ _ (den x * den y) (2 ^ i + 2 ^ i) (mul-pos (den_pos x) (den_pos y)) (add_rounds binary64 x y (power_finite x i p) (power_finite y i q))
    (joined (gain x) (den x) (gain y) (den y) (2 ^ i) a.0 b.0) (joined (loss x) (den x) (loss y) (den y) (2 ^ i) a.1 b.1))

pub sub_most : (i k : ℕ) → round binary64 false (2 ^ i + 2 ^ i) 1 ≡ power k → (x y : Float) → AtMost i x → AtMost i y → AtMost k (sub binary64 x y)
unfolding sub
sub_most i k e x y p q = add_most i k e x (neg y) p (rw (magnitude_neg y) q)

pub sub_size : (x o : Float) → T (le (magnitude x) two_to_40) → T (le (magnitude o) two_to_40) → AtMost 41 (sub binary64 x o)
unfolding round
sub_size x o p q = sub_most 40 41 refl x o (rw two_to_40_is at p) (rw two_to_40_is at q)

-- ---- the product
area : (a d a' d' b b' : ℕ) → a ≤ b * d → a' ≤ b' * d' → a * a' * 1 ≤ b * b' * (d * d')
area a d a' d' b b' p r = omega (arith, mul-le-mul p r)

pub mul_most : (i j k : ℕ) → round binary64 false (2 ^ i * 2 ^ j) 1 ≡ power k → (x y : Float) → AtMost i x → AtMost j y → AtMost k (mul binary64 x y)
unfolding mul
mul_most i j k c nan y p q = absurd (unfold le in p)
mul_most i j k c (inf s) y p q = absurd (unfold le in p)
mul_most i j k c (fin s m e) nan p q = absurd (unfold le in q)
mul_most i j k c (fin s m e) (inf t) p q = absurd (unfold le in q)
mul_most i j k c (fin s m e) (fin t n d) p q =
    rw (← c) (round_most binary64 (unlike s t) (m * up e * (n * up d)) (down e * down d) (2 ^ i * 2 ^ j) 1 (mul-pos (down_pos e) (down_pos d)) (zero-lt-suc 0)
    (area (m * up e) (down e) (n * up d) (down d) (2 ^ i) (2 ^ j) (size_le m e i p) (size_le n d j q)))

-- ---- the quotient, by what is not zero
pub div_is : (s : Bool) (m : ℕ) (e : ℤ) (t : Bool) (n : ℕ) (d : ℤ) → 0 < n * up d → div binary64 (fin s m e) (fin t n d) ≡ round binary64 (unlike s t) (m * up e * down d) (n * up d * down e)
unfolding div
div_is s m e t n d h = go (eqb n 0) (eqb→eq n 0)
  where
    go : (b : Bool) → (T b → n ≡ 0) → cond b (cond (eqb m 0) nan (inf (unlike s t))) (round binary64 (unlike s t) (m * up e * down d) (n * up d * down e)) ≡ round binary64 (unlike s t) (m * up e * down d) (n * up d * down e)
    go true z = absurd (omega (arith, ap (λ (k : ℕ). k * up d) (z tt)))
    go false z = refl

-- ---- the inverse of d, for `trillionth` ≤ |d|
abbrev least : Float
least = fin false 4951760157141521 (negsuc 91)

not_less : (n : ℕ) (d : ℤ) → T (le least (fin false n d)) → num least * down d ≤ n * up d * den least
not_less n d h = omega (arith, le→under least (fin false n d) tt tt h)

above_nought : (n : ℕ) (d : ℤ) → T (le least (fin false n d)) → 0 < n * up d
above_nought n d h = omega (arith, not_less n d h, down_pos d)

inverse_end : T (le (round binary64 false (den least) (num least)) (power 40))
unfolding round le
inverse_end = tt

inverse_most' : (d : Float) → T (finite d) → T (le least (magnitude d)) → AtMost 40 (div binary64 (fin false 1 (pos 0)) d)
inverse_most' nan p h = absurd p
inverse_most' (inf s) p h = absurd p
inverse_most' (fin t n d) p h =
    rw (div_is false 1 (pos 0) t n d (above_nought n d h))
    (le_trans (magnitude (round binary64 (unlike false t) (1 * down d) (n * up d * 1))) (round binary64 false (den least) (num least)) (power 40)
    (round_most binary64 (unlike false t) (1 * down d) (n * up d * 1) (den least) (num least) (omega (arith, above_nought n d h)) (zero-lt-suc 4951760157141520) (omega (arith, not_less n d h)))
    inverse_end)

pub inverse_most : (d : Float) → T (finite d) → T (le trillionth (magnitude d)) → AtMost 40 (div binary64 one d)
inverse_most d p h = rw one_is (inverse_most' d p (rw trillionth_is at h))
