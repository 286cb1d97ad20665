-- The fewest digits that hold a number are few enough for the room, and in decimal as many as `places_of` says. Assumes nothing.
use mathlib.Core.Path.{◌≡◌, refl, sym, ap, ◌∙◌, subst}
use mathlib.Core.Bool.{Bool, true, false}
use mathlib.Core.List.{List}
use Prim.Native.Nat.{ℕ, zero, suc, ◌-◌, ◌/◌, ◌^◌, ◌≤◌, ◌<◌}
use native.Mathlib.Nat.{pow-suc, one-le-pow, pow-le-pow_right}
use native.Mathlib.Omega.{arith}
use borrow.Author.Tests.{ltb-true, ltb-false, leb-true, leb-false}
use lib.Dec.{ltb, leb}
use Rattle.io.specs.Digits.{last_digits, IsDigitCount}
use Rattle.report.specs.Text.{places_of, decimal, hexadecimal}

few : (k n : ℕ) → ltb n 10 ≡ true → places_of (suc k) n ≡ 1
unfolding places_of
few k n e = rw (e, places_of)

more : (k n : ℕ) → ltb n 10 ≡ false → places_of (suc k) n ≡ suc (places_of k (n / 10))
unfolding places_of
more k n e = rw (e, places_of)

-- of two digits or more, a number below 10 is none
one_digit : (n r : ℕ) → n < 10 → IsDigitCount 10 1 n r → 1 ≡ r
one_digit n zero h f = omega (arith, f.0)
one_digit n (suc zero) h f = refl
one_digit n (suc (suc j)) h f =
    let low : 10 ^ (suc (suc j) - 1) ≤ n = f.2 (omega arith) in
    let e : suc (suc j) - 1 ≡ suc j = omega arith in
    let low' : 10 ^ suc j ≤ n = subst (λ (z : ℕ). 10 ^ z ≤ n) e low in
    absurd (omega (arith, low', pow-suc 10 j, one-le-pow j 10 (omega arith)))

shorter : (n j : ℕ) → IsDigitCount 10 1 n (suc (suc j)) → IsDigitCount 10 1 (n / 10) (suc j)
shorter n j f = (omega arith, omega (arith, f.1, pow-suc 10 (suc j)), λ h. low h)
  where
    low : 1 < suc j → 10 ^ (suc j - 1) ≤ n / 10
    low h =
        let e : suc j - 1 ≡ j = omega arith in
        let e' : suc (suc j) - 1 ≡ suc j = omega arith in
        let g : 10 ^ suc j ≤ n = subst (λ (z : ℕ). 10 ^ z ≤ n) e' (f.2 (omega arith)) in
        let g' : 10 ^ j ≤ n / 10 = omega (arith, g, pow-suc 10 j) in
        subst (λ (z : ℕ). 10 ^ z ≤ n / 10) (sym e) g'

pub places_are : (k n r : ℕ) → n ≤ k → IsDigitCount 10 1 n r → places_of k n ≡ r
unfolding places_of
places_are zero n r h f = one_digit n r (omega arith) f
places_are (suc k) n r h f = go (ltb n 10) refl (λ (j : ℕ). places_are k (n / 10) (suc j))
  where
    two : (r : ℕ) → 10 ≤ n → IsDigitCount 10 1 n r → ((j : ℕ) → n / 10 ≤ k → IsDigitCount 10 1 (n / 10) (suc j) → places_of k (n / 10) ≡ suc j) → suc (places_of k (n / 10)) ≡ r
    two zero l f ih = omega (arith, f.0)
    two (suc zero) l f ih = absurd (omega (arith, f.1))
    two (suc (suc j)) l f ih = ap suc (ih j (omega arith) (shorter n j f))

    go : (b : Bool) → ltb n 10 ≡ b → ((j : ℕ) → n / 10 ≤ k → IsDigitCount 10 1 (n / 10) (suc j) → places_of k (n / 10) ≡ suc j) → places_of (suc k) n ≡ r
    go true e ih = few k n e ∙ one_digit n r (ltb-true n 10 e) f
    go false e ih = more k n e ∙ two r (ltb-false n 10 e) f ih

pub decimal_is : (n r : ℕ) (xs : List ℕ) → IsDigitCount 10 1 n r → xs ≡ last_digits 10 r n → xs ≡ decimal n
unfolding decimal
decimal_is n r xs f e = rw (places_are n n r (omega arith) f) e

-- a number below b^top takes at most top digits
pub at_most : (b least top n r : ℕ) → 0 < b → least ≤ top → n < b ^ top → IsDigitCount b least n r → r ≤ top
at_most b least top n r h l k f = go (leb r top) refl
  where
    go : (t : Bool) → leb r top ≡ t → r ≤ top
    go true e = leb-true r top e
    go false e =
        let more : top < r = leb-false r top e in
        let low : b ^ (r - 1) ≤ n = f.2 (omega arith) in
        let up : b ^ top ≤ b ^ (r - 1) = pow-le-pow_right h (omega arith) in
        absurd (omega arith)

pub hexadecimal_is : (n r : ℕ) (xs : List ℕ) → n < 16 ^ 16 → IsDigitCount 16 16 n r → xs ≡ last_digits 16 r n → xs ≡ hexadecimal n
unfolding hexadecimal
hexadecimal_is n r xs h f e =
    let k = at_most 16 16 16 n r (omega arith) (omega arith) h f in
    let q : r ≡ 16 = omega (arith, k, f.0) in
    rw q at e
