-- A fraction has one pair of lowest terms, since a common factor comes out of a greatest common divisor: the share is that pair, or no pair fits in 64 bits. Assumes nothing.
use mathlib.Core.Path.{◌≡◌, refl, sym, ap, subst, ◌∙◌}
use mathlib.Core.Logic.{⊎_elim}
use Prim.Native.Nat.{ℕ, zero, suc, ◌+◌, ◌*◌, ◌/◌, ◌%◌, ◌^◌, ◌≤◌, ◌<◌, ◌∣◌}
use native.Mathlib.Nat.{mul_assoc, mul_right_comm, one-mul, add-mul, mod-lt, div-add-mod', mul-lt-mul_of_pos_right, mul-pos, le-mul_of_pos_right, eq_of_mul-eq-mul_right, dvd-mul_left, dvd-mul_right, dvd_antisymm}
use native.Mathlib.Omega.{arith}
use lib.Arith.{digits_mod}
use Rattle.float.proofs.Cases.{same?, low_or_high}
use Rattle.watts.specs.declared.fraction.Terms.{Terms}
use Rattle.watts.specs.Share.{euclid, gcd, terms, share, Lowest}
use Rattle.watts.proofs.Divisor.{ended, stepped, enough, gcd_divides_first, gcd_divides_second, gcd_greatest, gcd_zero}
use Rattle.watts.proofs.LowestTerms.{share_lowest, share_fits, reduced}

-- ---- a common factor comes out
left_over : (a b c : ℕ) → 0 < b → 0 < c → (a * c) % (b * c) ≡ a % b * c
left_over a b c h k =
    let less : a % b * c < b * c = mul-lt-mul_of_pos_right (mod-lt a h) k in
    let is : a / b * (b * c) + a % b * c ≡ a * c =
    ap (λ (n : ℕ). n + a % b * c) (sym (mul_assoc (a / b) b c)) ∙ sym (add-mul (a / b * b) (a % b) c) ∙ ap (λ (n : ℕ). n * c) (div-add-mod' a b) in
    ap (λ (n : ℕ). n % (b * c)) (sym is) ∙ digits_mod (a / b) less

factor : (k a b c : ℕ) → 0 < c → b ≤ k → euclid k (a * c) (b * c) ≡ euclid k a b * c
factor zero a b c p h = ended zero (a * c) (b * c) (ap (λ (n : ℕ). n * c) none ∙ omega arith) ∙ ap (λ (n : ℕ). n * c) (sym (ended zero a b none))
  where
    none : b ≡ 0
    none = omega arith
factor (suc k) a b c p h =
    ⊎_elim
    (λ e. ended (suc k) (a * c) (b * c) (ap (λ (n : ℕ). n * c) e ∙ omega arith) ∙ ap (λ (n : ℕ). n * c) (sym (ended (suc k) a b e)))
    (λ o.
    let b-some : 0 < b = omega arith in
    let some : 0 < b * c = mul-pos b-some p in
    let less : a % b < b = mod-lt a b-some in
    stepped k (a * c) (b * c) (λ z. omega arith)
    ∙ ap (λ (n : ℕ). euclid k (b * c) n) (left_over a b c b-some p)
    ∙ factor k b (a % b) c p (omega arith)
    ∙ ap (λ (n : ℕ). n * c) (sym (stepped k a b o)))
    (same? b 0)

gcd_factor : (a b c : ℕ) → 0 < c → gcd (a * c) (b * c) ≡ gcd a b * c
unfolding gcd
gcd_factor a b c p =
    let far : b ≤ b * c = le-mul_of_pos_right b p in
    factor (b * c) a b c p far ∙ ap (λ (n : ℕ). n * c) (enough (b * c) b a b far (omega arith))

-- what divides a product, and has nothing in common with one factor, divides the other
other_factor : (a b n : ℕ) → 0 < n → ((d : ℕ) → d ∣ a → d ∣ b → d ≡ 1) → b ∣ a * n → b ∣ n
other_factor a b n h apart p =
    let one : gcd a b ≡ 1 = apart (gcd a b) (gcd_divides_first a b) (gcd_divides_second a b) in
    subst (λ (m : ℕ). b ∣ m) (gcd_factor a b n h ∙ ap (λ (m : ℕ). m * n) one ∙ one-mul n) (gcd_greatest (a * n) (b * n) b p (dvd-mul_right b n))

-- ---- one pair
crossed : (part whole : ℕ) (r q : Terms) → 0 < whole → r.above * whole ≡ part * r.below → q.above * whole ≡ part * q.below → r.above * q.below ≡ q.above * r.below
crossed part whole r q h e f =
    eq_of_mul-eq-mul_right whole h (r.above * q.below) (q.above * r.below)
    (mul_right_comm r.above q.below whole
    ∙ ap (λ (n : ℕ). n * q.below) e
    ∙ mul_right_comm part r.below q.below
    ∙ ap (λ (n : ℕ). n * r.below) (sym f)
    ∙ mul_right_comm q.above whole r.below)

below_divides : (r q : Terms) → 0 < q.below → ((d : ℕ) → d ∣ r.above → d ∣ r.below → d ≡ 1) → r.above * q.below ≡ q.above * r.below → r.below ∣ q.below
below_divides r q h apart e = other_factor r.above r.below q.below h apart (subst (λ (n : ℕ). r.below ∣ n) (sym e) (dvd-mul_left r.below q.above))

pub lowest_unique : (part whole : ℕ) (r q : Terms) → 0 < whole → Lowest part whole r → Lowest part whole q → r ≡ q
lowest_unique part whole r q h R Q =
    let e = crossed part whole r q h R.equal Q.equal in
    let b : r.below ≡ q.below = dvd_antisymm (below_divides r q Q.some R.lowest e) (below_divides q r R.some Q.lowest (sym e)) in
    let a : r.above ≡ q.above = eq_of_mul-eq-mul_right q.below Q.some r.above q.above (e ∙ ap (λ (n : ℕ). q.above * n) b) in
    λ i. record { above = a i; below = b i }

-- ---- the share
pub share_only : (s o : ℕ) (r : Terms) → 0 < s + o → 0 < (share s o).below → Lowest s (s + o) r → r ≡ share s o
share_only s o r h there R = lowest_unique s (s + o) r (share s o) h R (share_lowest s o there)

-- 0/0 says that the lowest terms don't fit
pub share_beyond_only : (s o : ℕ) (r : Terms) → 0 < s + o → (share s o).below ≡ 0 → Lowest s (s + o) r → 2 ^ 64 ≤ r.below
share_beyond_only s o r h none R =
    let some : s + o ≡ 0 → ⊥ = λ e. omega arith in
    let e = reduced s o some in
    let is = ap (λ (t : Terms). t.below) (lowest_unique s (s + o) r (terms (s / gcd s o) (s / gcd s o + o / gcd s o)) h R e) in
    ⊎_elim
    (λ fits.
    let f = ap (λ (t : Terms). t.below) (share_fits s o (gcd s o) refl (λ z. let y = gcd_zero s o z in some (omega arith)) fits) in
    absurd (omega (arith, e.some, f, none)))
    (λ far. omega (arith, is, far))
    (low_or_high (s / gcd s o + o / gcd s o) (2 ^ 64))
