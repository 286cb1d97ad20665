-- `le` is reflexive, transitive and total on numbers of either sign, since a finite value is the fraction (gain - loss) / den, and `Under x y` says x ≤ y of two of them, with the differences and the denominators multiplied out.
-- Assumes nothing.
use mathlib.Core.Path.{◌≡◌, refl, sym}
use Prim.Native.Nat.{ℕ, zero, suc, ◌+◌, ◌*◌, ◌≤◌, ◌<◌}
use native.Mathlib.Nat.{le_of_lt, le_of_eq, eq-or-lt_of_le, mul-le-mul_right, le_of_mul-le-mul_right}
use native.Mathlib.Omega.{arith}
use mathlib.Core.Bool.{Bool, true, false, not, ◌&&◌, ◌||◌}
use mathlib.Core.Logic.{◌⊎◌, inl, inr}
use lib.Dec.{T, T_not, not_T, ltb, eqb, ltb→lt, lt→ltb, nltb→le, eqb→eq}
use lib.Arith.{le→nltb}
use lib.Ieee.{Float, nan, inf, fin, up, down, lt, le}
use lib.Ieee.Fits.{and_l, and_r, and_i, eq→eqb}
use lib.Ieee.Positive.{den, den_pos}
use lib.Ieee.Scale.{finite}
use Rattle.float.specs.Number.{real}
use Rattle.float.proofs.Cases.{or_l, or_r, or_split}

-- ---- tests
pub finite_real : (x : Float) → T (finite x) → T (real x)
finite_real nan h = h
finite_real (inf s) h = tt
finite_real (fin s m e) h = tt

pub clash : {A : Type 0} (b : Bool) → b ≡ true → b ≡ false → A
clash b p q = absurd (let w : ◌≡◌ {A = ℕ} 0 1 = cc in omega arith)

-- ---- a finite value as a fraction
abbrev pub gain : Float → ℕ
gain nan = 0
gain (inf s) = 0
gain (fin false m e) = m * up e
gain (fin true m e) = 0

abbrev pub loss : Float → ℕ
loss nan = 0
loss (inf s) = 0
loss (fin false m e) = 0
loss (fin true m e) = m * up e

abbrev pub Under : Float → Float → Type 0
Under x y = gain x * den y + loss y * den x ≤ gain y * den x + loss x * den y

-- ---- a test on two sizes
test→le : (a b : ℕ) → T (ltb a b || (eqb a b && true)) → a ≤ b
test→le a b t = elim (or_split (ltb a b) (eqb a b && true) t) [ inl u ↦ le_of_lt (ltb→lt a b u) | inr u ↦ le_of_eq (eqb→eq a b (and_l (eqb a b) true u)) ]

-- the same with the second test turned round
test→le' : (a b : ℕ) → T (ltb b a || (eqb a b && true)) → b ≤ a
test→le' a b t = elim (or_split (ltb b a) (eqb a b && true) t) [ inl u ↦ le_of_lt (ltb→lt b a u) | inr u ↦ le_of_eq (sym (eqb→eq a b (and_l (eqb a b) true u))) ]

le→test : (a b : ℕ) → a ≤ b → T (ltb a b || (eqb a b && true))
le→test a b h = elim (eq-or-lt_of_le h) [ inl p ↦ or_r (ltb a b) (eqb a b && true) (and_i (eqb a b) true (eq→eqb p) tt) | inr q ↦ or_l (ltb a b) (eqb a b && true) (lt→ltb a b q) ]

le→test' : (a b : ℕ) → b ≤ a → T (ltb b a || (eqb a b && true))
le→test' a b h = elim (eq-or-lt_of_le h) [ inl p ↦ or_r (ltb b a) (eqb a b && true) (and_i (eqb a b) true (eq→eqb (sym p)) tt) | inr q ↦ or_l (ltb b a) (eqb a b && true) (lt→ltb b a q) ]

-- -a ≤ b, whatever they are
across : (a b : ℕ) → T (ltb 0 (a + b) || (eqb a b && eqb a 0))
across a b = go (a + b) refl
  where
    go : (n : ℕ) → a + b ≡ n → T (ltb 0 n || (eqb a b && eqb a 0))
    go zero h = or_r (ltb 0 0) (eqb a b && eqb a 0) (and_i (eqb a b) (eqb a 0) (eq→eqb {a = a} {b = b} (omega arith)) (eq→eqb {a = a} {b = 0} (omega arith)))
    go (suc n) h = or_l (ltb 0 (suc n)) (eqb a b && eqb a 0) (lt→ltb 0 (suc n) (omega arith))

-- ---- `le` of two finite values, and that `lt` does not hold of the two turned round, are the order of the fractions
pub le→under : (x y : Float) → T (finite x) → T (finite y) → T (le x y) → Under x y
unfolding le
le→under nan y p q h = absurd p
le→under (inf s) y p q h = absurd p
le→under (fin s m e) nan p q h = absurd q
le→under (fin s m e) (inf t) p q h = absurd q
le→under (fin false m e) (fin false n d) p q h = omega (arith, test→le (m * up e * down d) (n * up d * down e) h)
le→under (fin false m e) (fin true n d) p q h =
    let a = m * up e * down d in
    let b = n * up d * down e in
    omega (arith, eqb→eq a b (and_l (eqb a b) (eqb a 0) h), eqb→eq a 0 (and_r (eqb a b) (eqb a 0) h))
le→under (fin true m e) (fin false n d) p q h = omega arith
le→under (fin true m e) (fin true n d) p q h = omega (arith, test→le' (m * up e * down d) (n * up d * down e) h)

pub under→le : (x y : Float) → T (finite x) → T (finite y) → Under x y → T (le x y)
unfolding le
under→le nan y p q h = absurd p
under→le (inf s) y p q h = absurd p
under→le (fin s m e) nan p q h = absurd q
under→le (fin s m e) (inf t) p q h = absurd q
under→le (fin false m e) (fin false n d) p q h = le→test (m * up e * down d) (n * up d * down e) (omega arith)
under→le (fin false m e) (fin true n d) p q h =
    let a = m * up e * down d in
    let b = n * up d * down e in
    and_i (eqb a b) (eqb a 0) (eq→eqb {a = a} {b = b} (omega arith)) (eq→eqb {a = a} {b = 0} (omega arith))
under→le (fin true m e) (fin false n d) p q h = across (m * up e * down d) (n * up d * down e)
under→le (fin true m e) (fin true n d) p q h = le→test' (m * up e * down d) (n * up d * down e) (omega arith)

not_lt→under : (x y : Float) → T (finite x) → T (finite y) → T (not (lt y x)) → Under x y
unfolding lt
not_lt→under nan y p q h = absurd p
not_lt→under (inf s) y p q h = absurd p
not_lt→under (fin s m e) nan p q h = absurd q
not_lt→under (fin s m e) (inf t) p q h = absurd q
not_lt→under (fin false m e) (fin false n d) p q h = omega (arith, nltb→le (n * up d * down e) (m * up e * down d) h)
not_lt→under (fin false m e) (fin true n d) p q h = omega (arith, nltb→le 0 (n * up d * down e + m * up e * down d) h)
not_lt→under (fin true m e) (fin false n d) p q h = omega arith
not_lt→under (fin true m e) (fin true n d) p q h = omega (arith, nltb→le (m * up e * down d) (n * up d * down e) h)

under→not_lt : (x y : Float) → T (finite x) → T (finite y) → Under x y → T (not (lt y x))
unfolding lt
under→not_lt nan y p q h = absurd p
under→not_lt (inf s) y p q h = absurd p
under→not_lt (fin s m e) nan p q h = absurd q
under→not_lt (fin s m e) (inf t) p q h = absurd q
under→not_lt (fin false m e) (fin false n d) p q h = le→nltb (n * up d * down e) (m * up e * down d) (omega arith)
under→not_lt (fin false m e) (fin true n d) p q h = le→nltb 0 (n * up d * down e + m * up e * down d) (omega arith)
under→not_lt (fin true m e) (fin false n d) p q h = tt
under→not_lt (fin true m e) (fin true n d) p q h = le→nltb (m * up e * down d) (n * up d * down e) (omega arith)

-- ---- the laws of the order, the infinities included
pub lt→le : (x y : Float) → T (lt x y) → T (le x y)
unfolding le
lt→le x y h = or_l (lt x y) (lib.Ieee.eq x y) h

pub le→real_l : (x y : Float) → T (le x y) → T (real x)
unfolding le
le→real_l nan y h = h
le→real_l (inf s) y h = tt
le→real_l (fin s m e) y h = tt

pub le→real_r : (x y : Float) → T (le x y) → T (real y)
unfolding le
le→real_r nan nan h = h
le→real_r (inf s) nan h = h
le→real_r (fin s m e) nan h = h
le→real_r nan (inf t) h = tt
le→real_r (inf s) (inf t) h = tt
le→real_r (fin s m e) (inf t) h = tt
le→real_r nan (fin t n d) h = tt
le→real_r (inf s) (fin t n d) h = tt
le→real_r (fin s m e) (fin t n d) h = tt

pub le→not_lt : (x y : Float) → T (le x y) → T (not (lt y x))
unfolding le
le→not_lt nan y h = absurd h
le→not_lt (inf s) nan h = absurd h
le→not_lt (inf true) (inf true) h = tt
le→not_lt (inf true) (inf false) h = tt
le→not_lt (inf false) (inf true) h = absurd h
le→not_lt (inf false) (inf false) h = tt
le→not_lt (inf true) (fin t n d) h = tt
le→not_lt (inf false) (fin t n d) h = absurd h
le→not_lt (fin s m e) nan h = absurd h
le→not_lt (fin s m e) (inf true) h = absurd h
le→not_lt (fin s m e) (inf false) h = tt
le→not_lt (fin s m e) (fin t n d) h = under→not_lt (fin s m e) (fin t n d) tt tt (le→under (fin s m e) (fin t n d) tt tt h)

pub not_lt→le : (x y : Float) → T (real x) → T (real y) → T (not (lt y x)) → T (le x y)
unfolding le
not_lt→le nan y p q h = absurd p
not_lt→le (inf s) nan p q h = absurd q
not_lt→le (inf true) (inf true) p q h = tt
not_lt→le (inf true) (inf false) p q h = tt
not_lt→le (inf false) (inf true) p q h = absurd h
not_lt→le (inf false) (inf false) p q h = tt
not_lt→le (inf true) (fin t n d) p q h = tt
not_lt→le (inf false) (fin t n d) p q h = absurd h
not_lt→le (fin s m e) nan p q h = absurd q
not_lt→le (fin s m e) (inf true) p q h = absurd h
not_lt→le (fin s m e) (inf false) p q h = tt
not_lt→le (fin s m e) (fin t n d) p q h = under→le (fin s m e) (fin t n d) tt tt (not_lt→under (fin s m e) (fin t n d) tt tt h)

irrefl : (x : Float) → T (real x) → T (not (lt x x))
unfolding lt
irrefl nan p = absurd p
irrefl (inf true) p = tt
irrefl (inf false) p = tt
irrefl (fin s m e) p = under→not_lt (fin s m e) (fin s m e) tt tt (omega arith)

pub le_refl : (x : Float) → T (real x) → T (le x x)
le_refl x p = not_lt→le x x p p (irrefl x p)

-- x / a ≤ y / b ≤ z / c of fractions with a sign
chain : (g l a g' l' b g'' l'' c : ℕ) → 0 < b → g * b + l' * a ≤ g' * a + l * b → g' * c + l'' * b ≤ g'' * b + l' * c → g * c + l'' * a ≤ g'' * a + l * c
chain g l a g' l' b g'' l'' c B h k =
    let h' = mul-le-mul_right c h in
    let k' = mul-le-mul_right a k in
    let w : (g * c + l'' * a) * b ≤ (g'' * a + l * c) * b = omega arith in
    le_of_mul-le-mul_right w B

pub le_trans : (x y z : Float) → T (le x y) → T (le y z) → T (le x z)
unfolding le
le_trans nan y z h k = absurd h
le_trans (inf s) nan z h k = absurd h
le_trans (inf true) (inf true) z h k = k
le_trans (inf true) (inf false) nan h k = absurd k
le_trans (inf true) (inf false) (inf true) h k = absurd k
le_trans (inf true) (inf false) (inf false) h k = tt
le_trans (inf true) (inf false) (fin u o f) h k = tt
le_trans (inf false) (inf true) z h k = absurd h
le_trans (inf false) (inf false) z h k = k
le_trans (inf true) (fin t n d) nan h k = absurd k
le_trans (inf true) (fin t n d) (inf true) h k = absurd k
le_trans (inf true) (fin t n d) (inf false) h k = tt
le_trans (inf true) (fin t n d) (fin u o f) h k = tt
le_trans (inf false) (fin t n d) z h k = absurd h
le_trans (fin s m e) nan z h k = absurd h
le_trans (fin s m e) (inf true) z h k = absurd h
le_trans (fin s m e) (inf false) nan h k = absurd k
le_trans (fin s m e) (inf false) (inf true) h k = absurd k
le_trans (fin s m e) (inf false) (inf false) h k = tt
le_trans (fin s m e) (inf false) (fin u o f) h k = absurd k
le_trans (fin s m e) (fin t n d) nan h k = absurd k
le_trans (fin s m e) (fin t n d) (inf true) h k = absurd k
le_trans (fin s m e) (fin t n d) (inf false) h k = tt
le_trans (fin s m e) (fin t n d) (fin u o f) h k =
    let x = fin s m e in
    let y = fin t n d in
    let z = fin u o f in
    under→le x z tt tt (chain (gain x) (loss x) (den x) (gain y) (loss y) (den y) (gain z) (loss z) (den z) (den_pos y) (le→under x y tt tt h) (le→under y z tt tt k))

-- ---- what follows: the order is total, and what `lt` has to do with it
either : (b : Bool) → T b ⊎ T (not b)
either true = inl tt
either false = inr tt

pub le_total : (x y : Float) → T (real x) → T (real y) → T (le x y) ⊎ T (le y x)
le_total x y p q = elim (either (lt y x)) [ inl h ↦ inr (lt→le y x h) | inr h ↦ inl (not_lt→le x y p q h) ]

pub lt→not_le : (x y : Float) → T (lt x y) → T (not (le y x))
lt→not_le x y h = not_T (le y x) (λ k. T_not (lt x y) (le→not_lt y x k) h)

pub not_le→lt : (x y : Float) → T (real x) → T (real y) → T (not (le x y)) → T (lt y x)
not_le→lt x y p q h = elim (either (lt y x)) [ inl k ↦ k | inr k ↦ absurd (T_not (le x y) h (not_lt→le x y p q k)) ]
