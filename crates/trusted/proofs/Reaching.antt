-- A child of a node that is reached is reached in one step more, and a node that is reached in so many steps is in more. Assumes nothing.
use mathlib.Core.Path.{◌≡◌, refl, sym, ◌∙◌, ap}
use mathlib.Core.Bool.{Bool, true, false, ◌&&◌, ◌||◌}
use mathlib.Core.Logic.{⊎_elim}
use Prim.Native.Nat.{ℕ, zero, suc, ◌+◌, ◌-◌, ◌≤◌, ◌<◌}
use native.Mathlib.Omega.{arith}
use lib.Dec.{eqb}
use Rattle.float.proofs.Cases.{same?}
use Rattle.tree.specs.Lent.{Lent}
use Rattle.accept.specs.Count.{any}
use Rattle.accept.specs.Conditions.{nodes, parent, reached}

or_true : (a : Bool) → (a || true) ≡ true
or_true true = refl
or_true false = refl

or_false : (a : Bool) → (a || false) ≡ true → a ≡ true
or_false true w = refl
or_false false w = w

any_at : (t : ℕ → Bool) (n i : ℕ) → i < n → t i ≡ true → any t n ≡ true
unfolding any
any_at t zero i l e = absurd (omega arith)
any_at t (suc n) i l e =
    ⊎_elim (λ w. ap (λ (z : Bool). any t n || z) (ap t (sym w) ∙ e) ∙ or_true (any t n)) (λ w. ap (λ (z : Bool). z || t n) (any_at t n i (omega arith) e)) (same? i n)

any_more : (t r : ℕ → Bool) (n : ℕ) → ((i : ℕ) → t i ≡ true → r i ≡ true) → any t n ≡ true → any r n ≡ true
unfolding any
any_more t r zero f e = e
any_more t r (suc n) f e = go (t n) refl (any_more t r n f)
  where
    go : (x : Bool) → t n ≡ x → (any t n ≡ true → any r n ≡ true) → (any r n || r n) ≡ true
    go true w g = ap (λ (z : Bool). any r n || z) (f n w) ∙ or_true (any r n)
    go false w g = ap (λ (z : Bool). z || r n) (g (or_false (any t n) (ap (λ (z : Bool). any t n || z) (sym w) ∙ e)))

and_right : (a b c : Bool) → (b ≡ true → c ≡ true) → (a && b) ≡ true → (a && c) ≡ true
and_right true b c f e = f e
and_right false b c f e = e

module _ (s : Lent) where
  sooner : (d j : ℕ) → reached s d j ≡ true → reached s (suc d) j ≡ true
  unfolding reached
  sooner zero j e = ap (λ (z : Bool). z || any (λ i. parent s j i && reached s 0 i) (nodes s)) e
  sooner (suc d) j e =
      go (eqb j 0) e
      (any_more (λ i. parent s j i && reached s d i) (λ i. parent s j i && reached s (suc d) i) (nodes s) (λ i. and_right (parent s j i) (reached s d i) (reached s (suc d) i) (sooner d i)))
    where
      go : (t : Bool) → (t || any (λ i. parent s j i && reached s d i) (nodes s)) ≡ true
          → (any (λ i. parent s j i && reached s d i) (nodes s) ≡ true → any (λ i. parent s j i && reached s (suc d) i) (nodes s) ≡ true)
          → (t || any (λ i. parent s j i && reached s (suc d) i) (nodes s)) ≡ true
      go true e f = refl
      go false e f = f e

  pub reached_root : reached s 0 0 ≡ true
  unfolding reached
  reached_root = refl

  later : (d k j : ℕ) → reached s d j ≡ true → reached s (d + k) j ≡ true
  later d zero j e = ap (λ (z : ℕ). reached s z j) here ∙ e
    where
      here : d + 0 ≡ d
      here = omega arith
  later d (suc k) j e = ap (λ (z : ℕ). reached s z j) next ∙ sooner (d + k) j (later d k j e)
    where
      next : d + suc k ≡ suc (d + k)
      next = omega arith

  pub within_reach : (d e j : ℕ) → d ≤ e → reached s d j ≡ true → reached s e j ≡ true
  within_reach d e j h r = ap (λ (z : ℕ). reached s z j) there ∙ later d (e - d) j r
    where
      there : e ≡ d + (e - d)
      there = omega arith

  pub step_down : (d i j : ℕ) → i < nodes s → parent s j i ≡ true → reached s d i ≡ true → reached s (suc d) j ≡ true
  unfolding reached
  step_down d i j l a e =
      ap (λ (z : Bool). eqb j 0 || z) (any_at (λ k. parent s j k && reached s d k) (nodes s) i l (ap (λ (z : Bool). z && reached s d i) a ∙ e)) ∙ or_true (eqb j 0)
