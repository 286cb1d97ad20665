-- `total_less` is a weak order, as sorting needs it, since it is one weak order after another; and what code tests is what it says.
-- Assumes nothing.
use mathlib.Core.Path.{◌≡◌, refl, sym, ◌∙◌, ap}
use Prim.Native.Nat.{ℕ, zero, suc, ◌+◌, ◌*◌}
use native.Mathlib.Nat.{mul-pos, zero-lt-suc, zero-mul}
use native.Mathlib.Omega.{arith}
use mathlib.Core.Bool.{Bool, true, false, cond, not, ◌&&◌, ◌||◌, beq}
use lib.IntN.{pos}
use lib.Dec.{T, eqb}
use lib.Ieee.{Float, nan, inf, fin, up, down, below, level, lt, eq, ne, div, is_nan, binary64}
use lib.Ieee.Fits.{up_pos, down_pos}
use lib.Ieee.Bits.{is_true, is_false}
use borrow.Author.Tests.{not-true, eqb-true, le-ltb}
use Rattle.float.specs.Number.{real, nought, one}
use Rattle.float.specs.Total.{lex, less_number, minus_zero, less_zero, total_less}
use Rattle.float.proofs.Cases.{and_last, and_true, false_is, true_is}
use Rattle.float.proofs.Numbers.{nought_is, one_is}
use Rattle.float.proofs.Order.{clash, lt→le, le→real_l, le→real_r, le→not_lt, not_lt→le, le_trans}
use Rattle.float.proofs.Absolute.{is_zero, not_zero}

-- ---- first by R, then by S
pub lex_false : (r q s : Bool) → (r || (not q && s)) ≡ false → (r ≡ false) × (q ≡ false → s ≡ false)
lex_false true q s p = clash true refl p
lex_false false true s p = (refl, λ e. clash true refl e)
lex_false false false s p = (refl, λ e. p)

false_lex : (r q s : Bool) → r ≡ false → (q ≡ false → s ≡ false) → (r || (not q && s)) ≡ false
false_lex true q s p f = clash true refl p
false_lex false true s p f = refl
false_lex false false s p f = f refl

lex_turn : (r q s u : Bool) → (r ≡ true → q ≡ false) → (s ≡ true → u ≡ false) → (r || (not q && s)) ≡ true → (q || (not r && u)) ≡ false
lex_turn true q s u f g p = false_lex q true u (f refl) (λ e. clash true refl e)
lex_turn false true s u f g p = clash false p refl
lex_turn false false s u f g p = g p

-- what a test of "less" has to meet: what is not less in two steps is not less, and less one way is not less the other
pub record Weak {A : Type 0} (R : A → A → Bool) : Type 0 where
  pub chain : (x y z : A) → R x y ≡ false → R y z ≡ false → R x z ≡ false
  pub turn : (x y : A) → R x y ≡ true → R y x ≡ false

pub weak_lex : {A : Type 0} (R S : A → A → Bool) → Weak R → Weak S → Weak (λ (x : A). λ (y : A). lex R S x y)
weak_lex R S r s = record {
  chain = λ x y z p q.
      let a = lex_false (R x y) (R y x) (S x y) p in
      let b = lex_false (R y z) (R z y) (S y z) q in
      false_lex (R x z) (R z x) (S x z) (r.chain x y z a.0 b.0)
      (λ e. s.chain x y z (a.1 (r.chain y z x b.0 e)) (b.1 (r.chain z x y e a.0)));
  turn = λ x y p. lex_turn (R x y) (R y x) (S x y) (S y x) (r.turn x y) (s.turn x y) p;
}

-- ---- the floats
num_chain : (x y z : Float) (a b c : Bool) → real x ≡ a → real y ≡ b → real z ≡ c → cond a (cond b (lt x y) true) false ≡ false → cond b (cond c (lt y z) true) false ≡ false → cond a (cond c (lt x z) true) false ≡ false
num_chain x y z false b c ex ey ez p q = refl
num_chain x y z true false c ex ey ez p q = clash true refl p
num_chain x y z true true false ex ey ez p q = clash true refl q
num_chain x y z true true true ex ey ez p q =
    let rx : T (real x) = true_is (real x) ex in let ry : T (real y) = true_is (real y) ey in let rz : T (real z) = true_is (real z) ez in
    is_false (lt x z) (le→not_lt z x (le_trans z y x (not_lt→le z y rz ry (false_is (lt y z) q)) (not_lt→le y x ry rx (false_is (lt x y) p))))

num_turn : (x y : Float) (a b : Bool) → real x ≡ a → real y ≡ b → cond a (cond b (lt x y) true) false ≡ true → cond b (cond a (lt y x) true) false ≡ false
num_turn x y false b ex ey p = clash false p refl
num_turn x y true false ex ey p = refl
num_turn x y true true ex ey p = is_false (lt y x) (le→not_lt x y (lt→le x y (true_is (lt x y) p)))

weak_num : Weak less_number
unfolding less_number
weak_num = record {
  chain = λ x y z p q. num_chain x y z (real x) (real y) (real z) refl refl refl p q;
  turn = λ x y p. num_turn x y (real x) (real y) refl refl p;
}

zero_chain : (a b c : Bool) → (a && not b) ≡ false → (b && not c) ≡ false → (a && not c) ≡ false
zero_chain false b c p q = refl
zero_chain true true c p q = q
zero_chain true false c p q = clash true refl p

zero_turn : (a b : Bool) → (a && not b) ≡ true → (b && not a) ≡ false
zero_turn false b p = clash false p refl
zero_turn true true p = clash false p refl
zero_turn true false p = refl

weak_zero : Weak less_zero
unfolding less_zero
weak_zero = record {
  chain = λ x y z p q. zero_chain (minus_zero x) (minus_zero y) (minus_zero z) p q;
  turn = λ x y p. zero_turn (minus_zero x) (minus_zero y) p;
}

pub weak_total : Weak total_less
unfolding total_less
weak_total = record { chain = (weak_lex less_number less_zero weak_num weak_zero).chain; turn = (weak_lex less_number less_zero weak_num weak_zero).turn }

-- ---- numbers that differ, and equal ones but zeros, are told by comparisons
less_told : (x y : Float) → lt x y ≡ true → less_number x y ≡ true
unfolding less_number
less_told x y p =
    let h = lt→le x y (true_is (lt x y) p) in
    rw (is_true (real x) (le→real_l x y h), is_true (real y) (le→real_r x y h), p)

pub total_lt : (x y : Float) → lt x y ≡ true → total_less x y ≡ true
unfolding total_less
total_lt x y p = rw (less_told x y p)

pub total_gt : (x y : Float) → lt y x ≡ true → total_less x y ≡ false
total_gt x y p = weak_total.turn y x (total_lt y x p)

pub level_real : (x y : Float) → eq x y ≡ true → (real x ≡ true) × (real y ≡ true)
unfolding eq
level_real nan y p = clash false p refl
level_real (inf s) nan p = clash false p refl
level_real (inf s) (inf t) p = (refl, refl)
level_real (inf s) (fin t n d) p = (refl, refl)
level_real (fin s m e) nan p = clash false p refl
level_real (fin s m e) (inf t) p = (refl, refl)
level_real (fin s m e) (fin t n d) p = (refl, refl)

level_number : (x y : Float) → lt x y ≡ false → real x ≡ true → real y ≡ true → less_number x y ≡ false
unfolding less_number
level_number x y p q r = rw (q, r, p)

level_zero : (x y : Float) → minus_zero x ≡ false → less_zero x y ≡ false
unfolding less_zero
level_zero x y p = rw p

-- ---- a NaN
pub real_not : (x : Float) → real x ≡ not (is_nan x)
unfolding is_nan
real_not nan = refl
real_not (inf s) = refl
real_not (fin s m e) = refl

-- ---- the zero with the sign
zero_yes : (x : Float) → eq x (fin false 0 (pos 0)) ≡ true → lt (div binary64 (fin false 1 (pos 0)) x) (fin false 0 (pos 0)) ≡ minus_zero x
unfolding eq lt div minus_zero
zero_yes nan p = clash false p refl
zero_yes (inf s) p = clash false p refl
zero_yes (fin false zero e) p = refl
zero_yes (fin true zero e) p = refl
zero_yes (fin false (suc m) e) p = not_zero false m e p
zero_yes (fin true (suc m) e) p = not_zero true m e p

zero_no : (x : Float) → eq x (fin false 0 (pos 0)) ≡ false → false ≡ minus_zero x
unfolding eq minus_zero
zero_no nan p = refl
zero_no (inf s) p = refl
zero_no (fin false m e) p = refl
zero_no (fin true (suc m) e) p = refl
zero_no (fin true zero e) p = clash (eq (fin true zero e) (fin false 0 (pos 0))) (is_zero true e) p

pub zero_sign : (x : Float) → eq x nought ≡ true → lt (div binary64 one x) nought ≡ minus_zero x
zero_sign x p = ap (λ (z : Float). lt (div binary64 one x) z) nought_is ∙ ap (λ (z : Float). lt (div binary64 z x) (fin false 0 (pos 0))) one_is ∙ zero_yes x (ap (λ (z : Float). eq x z) (sym nought_is) ∙ p)

pub zero_none : (x : Float) → eq x nought ≡ false → false ≡ minus_zero x
zero_none x p = zero_no x (ap (λ (z : Float). eq x z) (sym nought_is) ∙ p)

pub total_level : (x y : Float) → lt x y ≡ false → (real x ≡ true) × (real y ≡ true) → ne x nought ≡ true → total_less x y ≡ false
unfolding total_less ne
total_level x y p r z =
    false_lex (less_number x y) (less_number y x) (less_zero x y) (level_number x y p r.0 r.1)
    (λ e. level_zero x y (sym (zero_none x (not-true (eq x nought) z))))

-- ---- of equal numbers neither is less, and where one isn't zero neither is the other
level_both : (s : Bool) (a : ℕ) (t : Bool) (b : ℕ) → level s a t b ≡ true → (below s a t b ≡ false) × (below t b s a ≡ false)
level_both s a t b p = go s t (eqb-true a b (and_true (eqb a b) _ p)) (and_last (eqb a b) _ p)
  where
    go : (s t : Bool) → a ≡ b → (beq s t || eqb a 0) ≡ true → (below s a t b ≡ false) × (below t b s a ≡ false)
    go false false e z = (le-ltb a b (omega (arith, e)), le-ltb b a (omega (arith, e)))
    go true true e z = (le-ltb b a (omega (arith, e)), le-ltb a b (omega (arith, e)))
    go false true e z = (refl, le-ltb 0 (b + a) (omega (arith, e, eqb-true a 0 z)))
    go true false e z = (le-ltb 0 (a + b) (omega (arith, e, eqb-true a 0 z)), refl)

pub level_lt : (x y : Float) → eq x y ≡ true → (lt x y ≡ false) × (lt y x ≡ false)
unfolding eq lt
level_lt nan y p = clash false p refl
level_lt (inf s) nan p = clash false p refl
level_lt (inf false) (inf false) p = (refl, refl)
level_lt (inf true) (inf true) p = (refl, refl)
level_lt (inf false) (inf true) p = clash false p refl
level_lt (inf true) (inf false) p = clash false p refl
level_lt (inf s) (fin t n d) p = clash false p refl
level_lt (fin s m e) nan p = clash false p refl
level_lt (fin s m e) (inf t) p = clash false p refl
level_lt (fin s m e) (fin t n d) p = level_both s (m * up e * down d) t (n * up d * down e) p

level_ne : (x y : Float) → eq x y ≡ true → eq x (fin false 0 (pos 0)) ≡ false → eq y (fin false 0 (pos 0)) ≡ false
unfolding eq
level_ne nan y p q = clash false p refl
level_ne (inf s) nan p q = clash false p refl
level_ne (inf s) (inf t) p q = refl
level_ne (inf s) (fin t n d) p q = clash false p refl
level_ne (fin s m e) nan p q = refl
level_ne (fin s m e) (inf t) p q = refl
level_ne (fin s m e) (fin t (suc n) d) p q = go (eq (fin t (suc n) d) (fin false 0 (pos 0))) refl
  where
    go : (b : Bool) → eq (fin t (suc n) d) (fin false 0 (pos 0)) ≡ b → b ≡ false
    go false h = refl
    go true h = not_zero t n d h
level_ne (fin s zero e) (fin t zero d) p q = clash (eq (fin s zero e) (fin false 0 (pos 0))) (is_zero s e) q
level_ne (fin s (suc m) e) (fin t zero d) p q =
    absurd (omega (arith, zero-mul (up d), zero-mul (down e), eqb-true (suc m * up e * down d) (0 * up d * down e) (and_true (eqb (suc m * up e * down d) (0 * up d * down e)) _ p), mul-pos (mul-pos (zero-lt-suc m) (up_pos e)) (down_pos d)))

pub level_nonzero : (x y : Float) → eq x y ≡ true → ne x nought ≡ true → ne y nought ≡ true
unfolding ne
level_nonzero x y p z =
    ap not (ap (λ (w : Float). eq y w) nought_is ∙ level_ne x y p (ap (λ (w : Float). eq x w) (sym nought_is) ∙ not-true (eq x nought) z))

-- ---- two tests in a row
pub lex_yes : (r q s : Bool) → r ≡ true → true ≡ (r || (not q && s))
lex_yes r q s p = rw p

pub lex_no : (r q s : Bool) → r ≡ false → q ≡ true → false ≡ (r || (not q && s))
lex_no r q s p e = rw (p, e)

pub lex_next : (r q s t : Bool) → r ≡ false → q ≡ false → t ≡ s → t ≡ (r || (not q && s))
lex_next r q s t p e f = rw (p, e) f
