-- What Euclid's algorithm finds divides both numbers, and whatever divides both divides it. Assumes nothing.
use mathlib.Core.Path.{◌≡◌, refl, sym, ◌∙◌}
use mathlib.Core.Logic.{⊎_elim}
use Prim.Native.Nat.{ℕ, zero, suc, ◌%◌, ◌≤◌, ◌<◌, ◌∣◌}
use native.Mathlib.Nat.{mod-lt, dvd_refl, dvd-zero, dvd-mod_iff, eq-zero_of_zero-dvd}
use native.Mathlib.Omega.{arith}
use borrow.Author.Tests.{eq-eqb, ne_eqb}
use Rattle.float.proofs.Cases.{same?}
use Rattle.watts.specs.Share.{euclid, gcd}

-- ---- the steps
pub ended : (k a b : ℕ) → b ≡ 0 → euclid k a b ≡ a
unfolding euclid
ended zero a b e = refl
ended (suc k) a b e = rw (eq-eqb b 0 e)

pub stepped : (k a b : ℕ) → (b ≡ 0 → ⊥) → euclid (suc k) a b ≡ euclid k b (a % b)
unfolding euclid
stepped k a b o = rw (ne_eqb b 0 o)

-- enough steps are as good as any
pub enough : (k l a b : ℕ) → b ≤ k → b ≤ l → euclid k a b ≡ euclid l a b
enough zero l a b h m = ended zero a b (omega arith) ∙ sym (ended l a b (omega arith))
enough (suc k) zero a b h m = ended (suc k) a b (omega arith) ∙ sym (ended zero a b (omega arith))
enough (suc k) (suc l) a b h m =
    ⊎_elim
    (λ e. ended (suc k) a b e ∙ sym (ended (suc l) a b e))
    (λ o.
    let less : a % b < b = mod-lt a (omega arith) in
    stepped k a b o ∙ enough k l b (a % b) (omega arith) (omega arith) ∙ sym (stepped l a b o))
    (same? b 0)

pub gcd_ended : (a b : ℕ) → b ≡ 0 → gcd a b ≡ a
unfolding gcd
gcd_ended a b e = ended b a b e

pub gcd_step : (a b : ℕ) → (b ≡ 0 → ⊥) → gcd a b ≡ gcd b (a % b)
unfolding gcd
gcd_step a zero o = absurd (o refl)
gcd_step a (suc b) o =
    let less : a % suc b < suc b = mod-lt a (omega arith) in
    stepped b a (suc b) o ∙ enough b (a % suc b) (suc b) (a % suc b) (omega arith) (omega arith)

-- ---- what it divides, and what divides it
both : (k a b : ℕ) → b ≤ k → (euclid k a b ∣ a) × (euclid k a b ∣ b)
both zero a b h =
    let e : b ≡ 0 = omega arith in
    rw (ended zero a b e, e) (dvd_refl a, dvd-zero a)
both (suc k) a b h =
    ⊎_elim
    (λ e. rw (ended (suc k) a b e, e) (dvd_refl a, dvd-zero a))
    (λ o.
    let less : a % b < b = mod-lt a (omega arith) in
    let r = both k b (a % b) (omega arith) in
    rw (stepped k a b o) ((dvd-mod_iff (euclid k b (a % b)) r.0).0 r.1, r.0))
    (same? b 0)

greatest : (k a b d : ℕ) → b ≤ k → d ∣ a → d ∣ b → d ∣ euclid k a b
greatest zero a b d h p q = rw (ended zero a b (omega arith)) p
greatest (suc k) a b d h p q =
    ⊎_elim
    (λ e. rw (ended (suc k) a b e) p)
    (λ o.
    let less : a % b < b = mod-lt a (omega arith) in
    let fewer : a % b ≤ k = omega arith in
    rw (stepped k a b o) (greatest k b (a % b) d fewer q ((dvd-mod_iff d q).1 p)))
    (same? b 0)

module _ (a b : ℕ) where
  pub gcd_divides_first : gcd a b ∣ a
  unfolding gcd
  gcd_divides_first = (both b a b (omega arith)).0

  pub gcd_divides_second : gcd a b ∣ b
  unfolding gcd
  gcd_divides_second = (both b a b (omega arith)).1

  pub gcd_greatest : (d : ℕ) → d ∣ a → d ∣ b → d ∣ gcd a b
  unfolding gcd
  gcd_greatest d p q = greatest b a b d (omega arith) p q

  pub gcd_zero : gcd a b ≡ 0 → (a ≡ 0) × (b ≡ 0)
  gcd_zero e = (eq-zero_of_zero-dvd (rw e at gcd_divides_first), eq-zero_of_zero-dvd (rw e at gcd_divides_second))

  pub zero_gcd : a ≡ 0 → b ≡ 0 → gcd a b ≡ 0
  zero_gcd p q = gcd_ended a b q ∙ p
