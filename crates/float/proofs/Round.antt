-- `round` keeps the order of fractions of either sign, as it keeps that of sizes and goes with `neg`; `Rounds f x g l c` says that x is (g - l) / c, rounded to the format f, the sign of a zero left open.
-- Assumes nothing.
use mathlib.Core.Path.{◌≡◌, refl, sym, ap, ◌∙◌}
use Prim.Native.Nat.{ℕ, zero, suc, ◌+◌, ◌*◌, ◌^◌, ◌≤◌, ◌<◌}
use native.Mathlib.Nat.{zero-lt-suc, eq_of_mul-eq-mul_right}
use native.Mathlib.Omega.{arith}
use mathlib.Core.Bool.{Bool, true, false, not, cond}
use lib.Dec.{T, ltb}
use lib.Ieee.{Float, nan, inf, fin, Format, binary32, binary64, prec, emax, low, odd, units, round, neg, le}
use lib.Ieee.Fits.{round_is}
use lib.Ieee.Order.{round_mono, kept, drop}
use Rattle.float.specs.Number.{real}
use Rattle.float.proofs.Order.{le→under, under→le, le→real_l, le_trans}

-- ---- `neg`
pub le_neg : (x y : Float) → T (le x y) → T (le (neg y) (neg x))
unfolding le neg
le_neg nan y h = absurd h
le_neg (inf s) nan h = absurd h
le_neg (inf true) (inf true) h = tt
le_neg (inf true) (inf false) h = tt
le_neg (inf false) (inf true) h = absurd h
le_neg (inf false) (inf false) h = tt
le_neg (inf true) (fin t n d) h = tt
le_neg (inf false) (fin t n d) h = absurd h
le_neg (fin s m e) nan h = absurd h
le_neg (fin s m e) (inf true) h = absurd h
le_neg (fin s m e) (inf false) h = tt
le_neg (fin false m e) (fin false n d) h = under→le (fin true n d) (fin true m e) tt tt (omega (arith, le→under (fin false m e) (fin false n d) tt tt h))
le_neg (fin false m e) (fin true n d) h = under→le (fin false n d) (fin true m e) tt tt (omega (arith, le→under (fin false m e) (fin true n d) tt tt h))
le_neg (fin true m e) (fin false n d) h = under→le (fin true n d) (fin false m e) tt tt (omega (arith, le→under (fin true m e) (fin false n d) tt tt h))
le_neg (fin true m e) (fin true n d) h = under→le (fin false n d) (fin false m e) tt tt (omega (arith, le→under (fin true m e) (fin true n d) tt tt h))

neg_odd : (d : ℕ) (s : Bool) (q k l : ℕ) → neg (odd d s q k l) ≡ odd d (not s) q k l
unfolding neg odd
neg_odd d s zero k l = refl
neg_odd d s (suc q) k l = refl

neg_units : (f : Format) (s : Bool) (q k : ℕ) → neg (units f s q k) ≡ units f (not s) q k
unfolding neg units
neg_units f s q k = go (ltb (q * 2 ^ k) (2 ^ (low f + suc (emax f))))
  where
    go : (b : Bool) → neg (cond b (odd (suc (prec f)) s q k (low f)) (inf s)) ≡ cond b (odd (suc (prec f)) (not s) q k (low f)) (inf (not s))
    go true = neg_odd (suc (prec f)) s q k (low f)
    go false = refl

pub neg_round : (f : Format) (s : Bool) (a c : ℕ) → neg (round f s a c) ≡ round f (not s) a c
neg_round f s a c =
    let n = a * 2 ^ low f in
    ap neg (round_is f s a c) ∙ neg_units f s (kept (prec f) n c) (drop (prec f) n c) ∙ sym (round_is f (not s) a c)

-- ---- `round` with a sign
down_mono : (f : Format) (a c b d : ℕ) → 0 < c → 0 < d → b * c ≤ a * d → T (le (round f true a c) (round f true b d))
down_mono f a c b d C D h = rw (← neg_round f false a c, ← neg_round f false b d) (le_neg (round f false b d) (round f false a c) (round_mono f b d a c D C h))

zeros : (f : Format) → T (le (round f true 0 1) (round f false 0 1)) × T (le (round f false 0 1) (round f true 0 1))
unfolding le round
zeros binary32 = (tt, tt)
zeros binary64 = (tt, tt)

cross : (f : Format) (a c b d : ℕ) → 0 < c → 0 < d → T (le (round f true a c) (round f false b d))
cross f a c b d C D =
    le_trans (round f true a c) (round f true 0 1) (round f false b d) (down_mono f a c 0 1 C (zero-lt-suc 0) (omega arith))
    (le_trans (round f true 0 1) (round f false 0 1) (round f false b d) (zeros f).0 (round_mono f 0 1 b d (zero-lt-suc 0) D (omega arith)))

same : (f : Format) (a c b d : ℕ) → 0 < c → 0 < d → a ≡ 0 → b ≡ 0 → T (le (round f false a c) (round f true b d))
same f a c b d C D p q =
    le_trans (round f false a c) (round f false 0 1) (round f true b d) (round_mono f a c 0 1 C (zero-lt-suc 0) (omega arith))
    (le_trans (round f false 0 1) (round f true 0 1) (round f true b d) (zeros f).1 (down_mono f 0 1 b d (zero-lt-suc 0) D (omega arith)))

-- g - l is a, negative where s is true
abbrev pub Split : Bool → ℕ → ℕ → ℕ → Type 0
Split false a g l = g ≡ l + a
Split true a g l = l ≡ g + a

pub record Rounds (f : Format) (x : Float) (g l c : ℕ) : Type 0 where
  pub sign : Bool
  pub size : ℕ
  pub split : Split sign size g l
  pub is : x ≡ round f sign size c

module _ (g l c g' l' c' : ℕ) (C : 0 < c) (C' : 0 < c') (h : g * c' + l' * c ≤ g' * c + l * c') where
  both_up : (a b : ℕ) → g ≡ l + a → g' ≡ l' + b → a * c' ≤ b * c
  both_up a b p q = omega (arith, ap (λ (z : ℕ). z * c') p, ap (λ (z : ℕ). z * c) q)

  both_down : (a b : ℕ) → l ≡ g + a → l' ≡ g' + b → b * c ≤ a * c'
  both_down a b p q = omega (arith, ap (λ (z : ℕ). z * c') p, ap (λ (z : ℕ). z * c) q)

  none_left : (a b : ℕ) → g ≡ l + a → l' ≡ g' + b → (a * c' ≡ 0 * c') × (b * c ≡ 0 * c)
  none_left a b p q = omega (arith, ap (λ (z : ℕ). z * c') p, ap (λ (z : ℕ). z * c) q)

  signed_mono : (f : Format) (s : Bool) (a : ℕ) (t : Bool) (b : ℕ) → Split s a g l → Split t b g' l' → T (le (round f s a c) (round f t b c'))
  signed_mono f false a false b p q = round_mono f a c b c' C C' (both_up a b p q)
  signed_mono f false a true b p q =
      let w = none_left a b p q in
      same f a c b c' C C' (eq_of_mul-eq-mul_right c' C' a 0 w.0) (eq_of_mul-eq-mul_right c C b 0 w.1)
  signed_mono f true a false b p q = cross f a c b c' C C'
  signed_mono f true a true b p q = down_mono f a c b c' C C' (both_down a b p q)

  -- of two fractions the larger rounds to a value that is no smaller
  pub rounds_mono : (f : Format) (x y : Float) → Rounds f x g l c → Rounds f y g' l' c' → T (le x y)
  rounds_mono f x y p q = rw (p.is, q.is) (signed_mono f p.sign p.size q.sign q.size p.split q.split)

pub rounds_real : (f : Format) (x : Float) (g l c : ℕ) → 0 < c → Rounds f x g l c → T (real x)
rounds_real f x g l c C p = le→real_l x x (rounds_mono g l c g l c C C (omega arith) f x x p p)
