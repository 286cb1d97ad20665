-- The fallback order is a linear order of the numbers. Assumes nothing.
use mathlib.Core.Path.{◌≡◌}
use Prim.Native.Nat.{ℕ}
use native.Mathlib.Omega.{arith}
use mathlib.Core.Bool.{Bool, true, false}
use lib.Dec.{ltb}
use lib.Ieee.{Float, lt, ne}
use borrow.Author.Tests.{ltb-true, ltb-false, le-ltb}
use Rattle.float.specs.Number.{nought, real}
use Rattle.float.specs.Total.{total_less}
use Rattle.float.proofs.Total.{Weak, weak_lex, weak_total, level_lt, level_nonzero, level_real, lex_false, lex_next, lex_no, lex_yes, total_gt, total_level, total_lt}
use Rattle.builder.specs.Fallback.{under_at, sorts_before}

weak_at : (at : ℕ → Float) → Weak (under_at at)
unfolding under_at
weak_at at = record { chain = λ x y z. weak_total.chain (at x) (at y) (at z); turn = λ x y. weak_total.turn (at x) (at y) }

weak_ltb : Weak ltb
weak_ltb = record {
  chain = λ x y z p q. le-ltb x z (let a = ltb-false x y p in let b = ltb-false y z q in omega arith);
  turn = λ x y p. le-ltb y x (let a = ltb-true x y p in omega arith);
}

-- ---- a linear order
pub record Linear (less : ℕ → ℕ → Bool) : Type 0 where
  pub chain : (x y z : ℕ) → less x y ≡ false → less y z ≡ false → less x z ≡ false
  pub turn : (x y : ℕ) → less x y ≡ true → less y x ≡ false
  pub same : (x y : ℕ) → less x y ≡ false → less y x ≡ false → x ≡ y

pub linear_ahead : (at : ℕ → Float) → Linear (sorts_before at)
unfolding sorts_before
linear_ahead at = record {
  chain = (weak_lex (under_at at) ltb (weak_at at) weak_ltb).chain;
  turn = (weak_lex (under_at at) ltb (weak_at at) weak_ltb).turn;
  same = λ x y p q.
      let a = lex_false (under_at at x y) (under_at at y x) (ltb x y) p in
      let b = lex_false (under_at at y x) (under_at at x y) (ltb y x) q in
      let c = ltb-false x y (a.1 b.0) in let d = ltb-false y x (b.1 a.0) in
      omega arith;
}

pub under_at_lem : (at : ℕ → Float) (a b j k : ℕ) (x y : Float) (r : Bool) → r ≡ total_less x y → x ≡ at j → y ≡ at k → j ≡ a → k ≡ b → r ≡ under_at at a b
unfolding under_at
under_at_lem at a b j k x y r p q s e f = cc

-- numbers that comparisons tell apart, or tell level
module _ (at : ℕ → Float) (a b : ℕ) (x y : Float) (p : x ≡ at a) (q : y ≡ at b) where
  pub under_lt : lt x y ≡ true → under_at at a b ≡ true
  unfolding under_at
  under_lt t = rw (← p, ← q, total_lt x y t)

  pub under_gt : lt y x ≡ true → under_at at a b ≡ false
  unfolding under_at
  under_gt t = rw (← p, ← q, total_gt x y t)

  pub under_level : lt x y ≡ false → (real x ≡ true) × (real y ≡ true) → ne x nought ≡ true → under_at at a b ≡ false
  unfolding under_at
  under_level t r z = rw (← p, ← q, total_level x y t r z)

-- the order, test by test
pub ruleset ahead = (level_lt, level_nonzero, level_real, lex_next, lex_no, lex_yes, under_at_lem, under_gt, under_level, under_lt)
