-- Laws of choosing a bin by halves: whole numbers add and compare as floats do, so a comparison tells on which side of a boundary the bin is. Assumes nothing.
use mathlib.Core.Path.{◌≡◌, refl, ◌∙◌, ap}
use Prim.Native.Nat.{ℕ, zero, suc, ◌+◌, ◌*◌, ◌≤◌, ◌<◌}
use native.Mathlib.Omega.{arith}
use native.Mathlib.Nat.{eq-or-lt_of_le, mul-pos}
use mathlib.Core.Logic.{inl, inr}
use mathlib.Core.Bool.{Bool, true, false, cond}
use lib.Dec.{T}
use lib.Ieee.{Float, nan, inf, fin, up, down, round, sum, add, le, of_int, binary64}
use lib.Ieee.Bits.{is_true}
use lib.Ieee.Exact.{HasValue}
use lib.Ieee.Back.{round_whole}
use lib.Ieee.Fits.{down_pos}
use lib.Ieee.Scale.{round_same}
use lib.Ieee.Order.{round_mono}
use Rattle.float.proofs.Cases.{low_or_high, true_is}
use Rattle.float.proofs.Order.{clash, le_trans}
use Rattle.builder.specs.Bins.{bin_of, whole}

-- ---- whole numbers as floats
whole_up : (a b : ℕ) → a ≤ b → T (le (whole a) (whole b))
unfolding of_int
whole_up a b h = round_mono binary64 a 1 b 1 (omega arith) (omega arith) (omega arith)

values_sum : (x y : Float) (a b : ℕ) → HasValue x false a 1 → HasValue y false b 1 → add binary64 x y ≡ round binary64 false (a + b) 1
unfolding add sum
values_sum nan y a b v w = absurd v
values_sum (inf s) y a b v w = absurd v
values_sum (fin s m e) nan a b v w = absurd w
values_sum (fin s m e) (inf t) a b v w = absurd w
values_sum (fin true m e) (fin t n d) a b v w = clash true refl v.0
values_sum (fin false m e) (fin true n d) a b v w = clash true refl w.0
values_sum (fin false m e) (fin false n d) a b v w =
    round_same binary64 false (m * up e * down d + n * up d * down e) (down e * down d) (a + b) 1 (mul-pos (down_pos e) (down_pos d)) (omega arith)
    (let p : m * up e ≡ a * down e = omega (arith, v.1) in
    let q : n * up d ≡ b * down d = omega (arith, w.1) in
    let r : m * up e * down d ≡ a * down e * down d = ap (λ (z : ℕ). z * down d) p in
    let s : n * up d * down e ≡ b * down d * down e = ap (λ (z : ℕ). z * down e) q in
    omega (arith, r, s))

whole_sum : (a b : ℕ) → a ≤ 16 → b ≤ 16 → add binary64 (whole a) (whole b) ≡ whole (a + b)
unfolding of_int
whole_sum a b h k = values_sum (round binary64 false a 1) (round binary64 false b 1) a b (round_whole binary64 false a (omega arith)) (round_whole binary64 false b (omega arith))

pub boundary : (low width : Float) (a b : ℕ) → low ≡ whole a → width ≡ whole b → a + b ≤ 15 → add binary64 low width ≡ whole (a + b)
boundary low width a b p q h = rw (p, q) (whole_sum a b (omega arith) (omega arith))

-- ---- the bin of x among the first n + 1
pub bin_most : (n : ℕ) (x : Float) → bin_of n x ≤ n
unfolding bin_of
bin_most zero x = omega arith
bin_most (suc k) x = go (bin_most k x) (le (whole (suc k)) x)
  where
    go : bin_of k x ≤ k → (b : Bool) → cond b (suc k) (bin_of k x) ≤ suc k
    go r true = omega arith
    go r false = omega (arith, r)

-- a number that is at most x is not above the bin
pub bin_from : (n m : ℕ) (x : Float) → m ≤ n → le (whole m) x ≡ true → m ≤ bin_of n x
unfolding bin_of
bin_from zero m x h p = h
bin_from (suc k) m x h p = go (λ q. bin_from k m x q p) (le (whole (suc k)) x) refl
  where
    go : (m ≤ k → m ≤ bin_of k x) → (b : Bool) → le (whole (suc k)) x ≡ b → m ≤ cond b (suc k) (bin_of k x)
    go r true e = h
    go r false e = elim (eq-or-lt_of_le h) [ inl q ↦ clash (le (whole m) x) p (ap (λ (z : ℕ). le (whole z) x) q ∙ e) | inr q ↦ r (omega (arith, q)) ]

-- and one that is not is above it
pub bin_under : (n m : ℕ) (x : Float) → 0 < m → le (whole m) x ≡ false → bin_of n x < m
unfolding bin_of
bin_under zero m x h p = h
bin_under (suc k) m x h p = go (bin_under k m x h p) (le (whole (suc k)) x) refl
  where
    go : bin_of k x < m → (b : Bool) → le (whole (suc k)) x ≡ b → cond b (suc k) (bin_of k x) < m
    go r true e = elim (low_or_high (suc k) m) [ inr q ↦ clash (le (whole m) x) (is_true (le (whole m) x) (le_trans (whole m) (whole (suc k)) x (whole_up m (suc k) q) (true_is (le (whole (suc k)) x) e))) p | inl q ↦ q ]
    go r false e = r
