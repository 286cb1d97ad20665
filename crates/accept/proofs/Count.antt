-- How many meet a test: of two tests that go together, of one that none or only one meets. Assumes nothing.
use mathlib.Core.Path.{◌≡◌, refl, sym, ◌∙◌, ap}
use mathlib.Core.Bool.{Bool, true, false, ◌||◌}
use mathlib.Core.Logic.{⊎_elim}
use Prim.Native.Nat.{ℕ, zero, suc, ◌+◌, ◌≤◌, ◌<◌}
use native.Mathlib.Omega.{arith}
use Rattle.float.proofs.Cases.{same?}
use Rattle.accept.specs.Count.{tick, any, count}

pub tick_at_most : (t : Bool) → tick t ≤ 1
tick_at_most true = omega arith
tick_at_most false = omega arith

pub count_more : (p : ℕ → Bool) (n : ℕ) → count p (suc n) ≡ count p n + tick (p n)
unfolding count
count_more p n = refl

pub count_most : (p : ℕ → Bool) (n : ℕ) → count p n ≤ n
unfolding count
count_most p zero = omega arith
count_most p (suc n) = omega (arith, count_most p n, tick_at_most (p n))

pub count_same : (p q : ℕ → Bool) (n : ℕ) → ((i : ℕ) → i < n → p i ≡ q i) → count p n ≡ count q n
unfolding count
count_same p q zero f = refl
count_same p q (suc n) f = omega (arith, count_same p q n (λ i l. f i (omega arith)), ap tick (f n (omega arith)))

-- two and two that are as many at each number
pub count_pairs : (a b c d : ℕ → Bool) (n : ℕ) → ((i : ℕ) → tick (a i) + tick (b i) ≡ tick (c i) + tick (d i))
    → count a n + count b n ≡ count c n + count d n
unfolding count
count_pairs a b c d zero f = refl
count_pairs a b c d (suc n) f = omega (arith, count_pairs a b c d n f, f n)

-- none
pub count_none : (p : ℕ → Bool) (n : ℕ) → count p n ≡ 0 → (i : ℕ) → i < n → p i ≡ false
unfolding count
count_none p zero e i l = absurd (omega arith)
count_none p (suc n) e i l = ⊎_elim (λ w. ap p w ∙ last (p n) refl) (λ w. count_none p n (omega arith) i (omega arith)) (same? i n)
  where
    last : (t : Bool) → p n ≡ t → p n ≡ false
    last true a = absurd (omega (arith, ap tick a))
    last false a = a

-- one only
module _ (p : ℕ → Bool) where
  tick_clash : (i : ℕ) → p i ≡ true → p i ≡ false → ⊥
  tick_clash i a b = let y : ◌≡◌ {A = ℕ} 1 0 = ap tick (sym a ∙ b) in omega arith

  pub count_one : (n : ℕ) → count p n ≡ 1 → (i j : ℕ) → i < n → j < n → p i ≡ true → (j ≡ i → ⊥) → p j ≡ false
  unfolding count
  count_one zero e i j l m a d = absurd (omega arith)
  count_one (suc n) e i j l m a d = go (p n) refl (λ o h k. count_one n o i j h k a d)
    where
      go : (t : Bool) → p n ≡ t → (count p n ≡ 1 → i < n → j < n → p j ≡ false) → p j ≡ false
      go true b r =
          let z : count p n ≡ 0 = omega (arith, ap tick b) in
          ⊎_elim
          (λ w. absurd (⊎_elim (λ v. d (w ∙ sym v)) (λ v. tick_clash i a (count_none p n z i (omega arith))) (same? i n)))
          (λ w. count_none p n z j (omega arith))
          (same? j n)
      go false b r =
          ⊎_elim (λ w. ap p w ∙ b)
          (λ w. ⊎_elim (λ v. absurd (tick_clash i a (ap p v ∙ b))) (λ v. r (omega (arith, ap tick b)) (omega arith) (omega arith)) (same? i n))
          (same? j n)

-- ---- one of the numbers below n
pub any_none : (p : ℕ → Bool) (n : ℕ) → ((i : ℕ) → i < n → p i ≡ false) → any p n ≡ false
unfolding any
any_none p zero f = refl
any_none p (suc n) f = rw (any_none p n (λ i l. f i (omega arith)), f n (omega arith))

or_false : (a : Bool) → (a || false) ≡ a
or_false true = refl
or_false false = refl

-- where only number k can meet it
pub any_one : (p : ℕ → Bool) (n k : ℕ) → k < n → ((i : ℕ) → i < n → (i ≡ k → ⊥) → p i ≡ false) → any p n ≡ p k
unfolding any
any_one p zero k l f = absurd (omega arith)
any_one p (suc n) k l f =
    ⊎_elim
    (λ w. rw (any_none p n (λ i m. f i (omega arith) (λ v. omega arith))) (sym (ap p w)))
    (λ w. rw (f n (omega arith) (λ v. w (sym v))) (or_false (any p n) ∙ any_one p n k (omega arith) (λ i m. f i (omega arith))))
    (same? k n)
