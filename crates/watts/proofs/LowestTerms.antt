-- The share is shaded over answered watts, and nothing but 1 divides both its numbers. Assumes nothing.
use mathlib.Core.Path.{◌≡◌, refl, sym, ap, subst, ◌∙◌}
use mathlib.Core.Logic.{◌⊎◌, ⊎_elim}
use Prim.Native.Nat.{ℕ, ◌+◌, ◌*◌, ◌/◌, ◌^◌, ◌≤◌, ◌<◌, ◌∣◌}
use native.Mathlib.Nat.{add-mul, mul_assoc, mul_right_comm, one-mul, div-mul_cancel, div-le_self, dvd-add_iff_right, mul-dvd-mul_right, dvd_of_mul-dvd-mul_right, eq-one_of_dvd-one}
use native.Mathlib.Omega.{arith}
use borrow.Author.Tests.{eq-eqb, ne_eqb, lt-ltb, le-ltb}
use Rattle.float.proofs.Cases.{same?, low_or_high}
use Rattle.watts.specs.declared.fraction.Terms.{Terms}
use Rattle.watts.specs.Share.{gcd, terms, over, share, Lowest}
use Rattle.watts.proofs.Divisor.{gcd_divides_first, gcd_divides_second, gcd_greatest, gcd_zero, zero_gcd}

-- ---- the returns
pub nothing_answered : (s o : ℕ) → s + o ≡ 0 → share s o ≡ terms 0 1
unfolding share
nothing_answered s o e = rw (eq-eqb (s + o) 0 e)

pub something_answered : (s o : ℕ) → (s + o ≡ 0 → ⊥) → share s o ≡ over (s / gcd s o) (o / gcd s o)
unfolding share
something_answered s o h = rw (ne_eqb (s + o) 0 h)

module _ (s o g : ℕ) (is : g ≡ gcd s o) where
  pub share_none : g ≡ 0 → terms 0 1 ≡ share s o
  share_none e = let z = gcd_zero s o (sym is ∙ e) in sym (nothing_answered s o (omega arith))

  some_answered : (g ≡ 0 → ⊥) → s + o ≡ 0 → ⊥
  some_answered h e = h (is ∙ zero_gcd s o (omega arith) (omega arith))

  pub share_beyond : (g ≡ 0 → ⊥) → 2 ^ 64 ≤ s / g + o / g → terms 0 0 ≡ share s o
  unfolding over
  share_beyond h b = sym (something_answered s o (some_answered h) ∙ rw (← is, le-ltb (s / g + o / g) (2 ^ 64) b))

  pub share_fits : (g ≡ 0 → ⊥) → s / g + o / g < 2 ^ 64 → terms (s / g) (s / g + o / g) ≡ share s o
  unfolding over
  share_fits h b = sym (something_answered s o (some_answered h) ∙ rw (← is, lt-ltb (s / g + o / g) (2 ^ 64) b))

-- ---- what the share is
module _ (s o : ℕ) (some : s + o ≡ 0 → ⊥) where
  abbrev g : ℕ
  g = gcd s o

  positive : 0 < g
  positive = ⊎_elim (λ e. absurd (let z = gcd_zero s o e in some (omega arith))) (λ h. omega arith) (same? g 0)

  part : s / g * g ≡ s
  part = div-mul_cancel g (gcd_divides_first s o)

  rest : o / g * g ≡ o
  rest = div-mul_cancel g (gcd_divides_second s o)

  reduced_equal : s / g * (s + o) ≡ s * (s / g + o / g)
  reduced_equal =
      ap (λ (n : ℕ). s / g * n) (sym (add-mul (s / g) (o / g) g ∙ ap (λ (n : ℕ). n + o / g * g) part ∙ ap (λ (n : ℕ). s + n) rest))
      ∙ sym (mul_assoc (s / g) (s / g + o / g) g)
      ∙ mul_right_comm (s / g) (s / g + o / g) g
      ∙ ap (λ (n : ℕ). n * (s / g + o / g)) part

  -- d times the greatest common divisor would be a common divisor
  reduced_lowest : (d : ℕ) → d ∣ s / g → d ∣ s / g + o / g → d ≡ 1
  reduced_lowest d p q =
      let q' : d ∣ o / g = (dvd-add_iff_right d p).1 q in
      let first : d * g ∣ s = subst (λ (n : ℕ). d * g ∣ n) part (mul-dvd-mul_right d p g) in
      let second : d * g ∣ o = subst (λ (n : ℕ). d * g ∣ n) rest (mul-dvd-mul_right d q' g) in
      let both : d * g ∣ 1 * g = subst (λ (n : ℕ). d * g ∣ n) (sym (one-mul g)) (gcd_greatest s o (d * g) first second) in
      eq-one_of_dvd-one (dvd_of_mul-dvd-mul_right {k = g} d {n = 1} positive both)

  reduced_some : 0 < s / g + o / g
  reduced_some = ⊎_elim (λ e. absurd (none e)) (λ h. omega arith) (same? (s / g + o / g) 0)
    where
      none : s / g + o / g ≡ 0 → ⊥
      none e =
          let a : s / g ≡ 0 = omega arith in
          let b : o / g ≡ 0 = omega arith in
          let s0 : s ≡ 0 * g = sym part ∙ ap (λ (n : ℕ). n * g) a in
          let o0 : o ≡ 0 * g = sym rest ∙ ap (λ (n : ℕ). n * g) b in
          some (omega (arith, s0, o0))

  pub reduced : Lowest s (s + o) (terms (s / g) (s / g + o / g))
  reduced = record { some = reduced_some; equal = reduced_equal; lowest = reduced_lowest }

nought_one : (s o : ℕ) → s + o ≡ 0 → Lowest s (s + o) (terms 0 1)
nought_one s o e = record { some = omega arith; equal = omega arith; lowest = λ d p q. eq-one_of_dvd-one q }

-- where the share is any, and it is wherever the lowest terms fit, it is shaded over answered watts in lowest terms
pub share_lowest : (s o : ℕ) → 0 < (share s o).below → Lowest s (s + o) (share s o)
share_lowest s o h =
    ⊎_elim (λ e. rw (nothing_answered s o e) (nought_one s o e)) (λ e. by e (low_or_high (s / gcd s o + o / gcd s o) (2 ^ 64))) (same? (s + o) 0)
  where
    by : (s + o ≡ 0 → ⊥) → (s / gcd s o + o / gcd s o < 2 ^ 64) ⊎ (2 ^ 64 ≤ s / gcd s o + o / gcd s o) → Lowest s (s + o) (share s o)
    by e k =
        ⊎_elim
        (λ fits. rw (← share_fits s o (gcd s o) refl (λ z. none z e) fits) (reduced s o e))
        (λ far. absurd (omega (arith, h, ap (λ (r : Terms). r.below) (share_beyond s o (gcd s o) refl (λ z. none z e) far))))
        k
      where
        none : gcd s o ≡ 0 → (s + o ≡ 0 → ⊥) → ⊥
        none z e = let y = gcd_zero s o z in e (omega arith)

-- figures whose sum fits have a share
pub share_there : (s o : ℕ) → s + o < 2 ^ 64 → 0 < (share s o).below
share_there s o h =
    ⊎_elim
    (λ e. rw (nothing_answered s o e) (omega arith))
    (λ e.
    let fits : s / gcd s o + o / gcd s o < 2 ^ 64 = omega (arith, div-le_self s (gcd s o), div-le_self o (gcd s o)) in
    rw (← share_fits s o (gcd s o) refl (λ z. let y = gcd_zero s o z in e (omega arith)) fits) (reduced_some s o e))
    (same? (s + o) 0)
