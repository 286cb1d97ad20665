-- What a test says, what the tests that it is made of say, and the cases that two numbers leave. Assumes nothing.
use mathlib.Core.Path.{◌≡◌, refl, sym, subst}
use mathlib.Core.Logic.{◌⊎◌, inl, inr}
use mathlib.Core.Bool.{Bool, true, false, not, ◌&&◌, ◌||◌, true≢false}
use Prim.Native.Nat.{ℕ, ◌≤◌, ◌<◌}
use native.Mathlib.Omega.{arith}
use native.Mathlib.Decide.{ℕ_discrete, dec_lt}
use lib.Dec.{T}

-- ---- one test (the other way round: `is_true` and `is_false` of lib.Ieee.Bits)
pub true_is : (b : Bool) → b ≡ true → T b
true_is b p = subst T (sym p) tt

pub false_is : (b : Bool) → b ≡ false → T (not b)
false_is b p = subst (λ (t : Bool). T (not t)) (sym p) tt

-- ---- two tests that say the same
pub same_test : (a b : Bool) → (T a → T b) → (T b → T a) → a ≡ b
same_test true true f g = refl
same_test false false f g = refl
same_test true false f g = absurd (f tt)
same_test false true f g = absurd (g tt)

-- ---- one test or the other
pub or_l : (a b : Bool) → T a → T (a || b)
or_l true b t = tt
or_l false b t = absurd t

pub or_r : (a b : Bool) → T b → T (a || b)
or_r true b t = tt
or_r false b t = t

pub or_split : (a b : Bool) → T (a || b) → T a ⊎ T b
or_split true b t = inl tt
or_split false b t = inr t

-- ---- two tests in a row, as code makes them

pub and_false : (a b : Bool) → false ≡ b → false ≡ (a && b)
and_false true b p = p
and_false false b p = refl

-- ---- both
pub and_both : (a b : Bool) → (a && b) ≡ true → (a ≡ true) × (b ≡ true)
and_both true b p = (refl, p)
and_both false b p = absurd (true≢false (sym p))

pub and_true : (a b : Bool) → (a && b) ≡ true → a ≡ true
and_true a b p = (and_both a b p).0

pub and_last : (a b : Bool) → (a && b) ≡ true → b ≡ true
and_last a b p = (and_both a b p).1

-- ---- neither
pub not_l : (a b : Bool) → T (not (a || b)) → T (not a)
not_l true b h = h
not_l false b h = tt

pub not_r : (a b : Bool) → T (not (a || b)) → T (not b)
not_r true b h = absurd h
not_r false b h = h

pub not_i : (a b : Bool) → T (not a) → T (not b) → T (not (a || b))
not_i true b h k = h
not_i false b h k = k

pub neither : (a b : Bool) → (a || b) ≡ false → (a ≡ false) × (b ≡ false)
neither true b p = absurd (true≢false p)
neither false b p = (refl, p)

-- ---- two numbers
pub same? : (a b : ℕ) → (a ≡ b) ⊎ (a ≡ b → ⊥)
same? a b = elim (ℕ_discrete a b) [ yes p ↦ inl p | no n ↦ inr n ]

pub low_or_high : (a b : ℕ) → (a < b) ⊎ (b ≤ a)
low_or_high a b = elim (dec_lt a b) [ yes p ↦ inl p | no n ↦ inr (omega arith) ]
