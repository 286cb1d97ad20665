-- Sums over the numbers below n, in either order. Assumes nothing.
use mathlib.Core.Path.{◌≡◌, refl, sym, ◌∙◌, ap}
use mathlib.Core.Bool.{Bool, true, false, ◌&&◌, cond}
use mathlib.Core.Logic.{⊎_elim}
use Prim.Native.Nat.{ℕ, zero, suc, ◌+◌, ◌-◌, ◌≤◌, ◌<◌}
use native.Mathlib.Omega.{arith}
use lib.Dec.{leb, ltb, eqb}
use borrow.Author.Tests.{eq-eqb, ne_eqb, lt-ltb, le-ltb, le-leb, lt-leb}
use Rattle.float.proofs.Cases.{same?}
use Rattle.accept.specs.Count.{tick, count}

unfoldable pub sum : (ℕ → ℕ) → ℕ → ℕ
sum f zero = 0
sum f (suc n) = sum f n + f n

pub sum_same : (f g : ℕ → ℕ) (n : ℕ) → ((i : ℕ) → i < n → f i ≡ g i) → sum f n ≡ sum g n
unfolding sum
sum_same f g zero h = refl
sum_same f g (suc n) h = omega (arith, sum_same f g n (λ i l. h i (omega arith)), h n (omega arith))

pub sum_most : (f g : ℕ → ℕ) (n : ℕ) → ((i : ℕ) → i < n → f i ≤ g i) → sum f n ≤ sum g n
unfolding sum
sum_most f g zero h = omega arith
sum_most f g (suc n) h = omega (arith, sum_most f g n (λ i l. h i (omega arith)), h n (omega arith))

pub sum_add : (f g : ℕ → ℕ) (n : ℕ) → sum (λ i. f i + g i) n ≡ sum f n + sum g n
unfolding sum
sum_add f g zero = refl
sum_add f g (suc n) = omega (arith, sum_add f g n)

pub sum_none : (n : ℕ) → sum (λ i. 0) n ≡ 0
unfolding sum
sum_none zero = refl
sum_none (suc n) = omega (arith, sum_none n)

pub sum_ones : (n : ℕ) → sum (λ i. 1) n ≡ n
unfolding sum
sum_ones zero = refl
sum_ones (suc n) = omega (arith, sum_ones n)

-- n numbers of at most 1 that make n together
pub all_ones : (f : ℕ → ℕ) (n : ℕ) → ((i : ℕ) → i < n → f i ≤ 1) → sum f n ≡ n → (i : ℕ) → i < n → f i ≡ 1
unfolding sum
all_ones f zero h e i l = absurd (omega arith)
all_ones f (suc n) h e i l =
    let m = sum_most f (λ i. 1) n (λ i k. h i (omega arith)) in
    ⊎_elim (λ w. ap f w ∙ omega (arith, m, sum_ones n, h n (omega arith))) (λ w. all_ones f n (λ i k. h i (omega arith)) (omega (arith, m, sum_ones n, h n (omega arith))) i (omega arith)) (same? i n)

pub sum_turned : (g : ℕ → ℕ → ℕ) (n m : ℕ) → sum (λ i. sum (g i) m) n ≡ sum (λ j. sum (λ i. g i j) n) m
unfolding sum
sum_turned g zero m = sym (sum_none m)
sum_turned g (suc n) m = ap (λ (z : ℕ). z + sum (g n) m) (sum_turned g n m) ∙ sym (sum_add (λ j. sum (λ i. g i j) n) (g n) m)

pub count_sum : (p : ℕ → Bool) (n : ℕ) → count p n ≡ sum (λ i. tick (p i)) n
unfolding sum count
count_sum p zero = refl
count_sum p (suc n) = ap (λ (z : ℕ). z + tick (p n)) (count_sum p n)

-- ---- one number's share
abbrev pub share : Bool → ℕ → ℕ
share t x = cond t x 0

-- only one number has a share
pub sum_one : (f : ℕ → ℕ) (a n : ℕ) → a < n → sum (λ j. share (eqb j a) (f j)) n ≡ f a
unfolding sum
sum_one f a zero l = absurd (omega arith)
sum_one f a (suc n) l = ⊎_elim (λ e. last e) (λ d. earlier d (sum_one f a n)) (same? n a)
  where
    below : (k : ℕ) → k ≤ n → n ≡ a → sum (λ j. share (eqb j a) (f j)) k ≡ 0
    below k h e = sum_same (λ j. share (eqb j a) (f j)) (λ j. 0) k (λ j m. ap (λ (t : Bool). share t (f j)) (ne_eqb j a (λ w. omega arith))) ∙ sum_none k

    last : n ≡ a → sum (λ j. share (eqb j a) (f j)) n + share (eqb n a) (f n) ≡ f a
    last e = omega (arith, below n (omega arith) e, ap (λ (t : Bool). share t (f n)) (eq-eqb n a e), ap f e)

    earlier : (n ≡ a → ⊥) → (a < n → sum (λ j. share (eqb j a) (f j)) n ≡ f a) → sum (λ j. share (eqb j a) (f j)) n + share (eqb n a) (f n) ≡ f a
    earlier d r = omega (arith, r (omega arith), ap (λ (t : Bool). share t (f n)) (ne_eqb n a d))

-- a number's share, where none or one meets the test
pub share_none : (p : ℕ → Bool) (x n : ℕ) → count p n ≡ 0 → sum (λ i. share (p i) x) n ≡ 0
unfolding sum count
share_none p x zero e = refl
share_none p x (suc n) e = go (p n) refl (share_none p x n)
  where
    go : (t : Bool) → p n ≡ t → (count p n ≡ 0 → sum (λ i. share (p i) x) n ≡ 0) → sum (λ i. share (p i) x) n + share (p n) x ≡ 0
    go true a r = absurd (omega (arith, ap tick a))
    go false a r = omega (arith, r (omega (arith, ap tick a)), ap (λ (t : Bool). share t x) a)

pub share_one : (p : ℕ → Bool) (x n : ℕ) → count p n ≡ 1 → sum (λ i. share (p i) x) n ≡ x
unfolding sum count
share_one p x zero e = absurd (omega arith)
share_one p x (suc n) e = go (p n) refl (share_one p x n)
  where
    go : (t : Bool) → p n ≡ t → (count p n ≡ 1 → sum (λ i. share (p i) x) n ≡ x) → sum (λ i. share (p i) x) n + share (p n) x ≡ x
    go true a r = omega (arith, share_none p x n (omega (arith, ap tick a)), ap (λ (t : Bool). share t x) a)
    go false a r = omega (arith, r (omega (arith, ap tick a)), ap (λ (t : Bool). share t x) a)

-- ---- the places of a range
module _ (f g : ℕ) (h : f ≤ g) where
  abbrev inside : ℕ → Bool
  inside p = leb f p && ltb p g

  before : (m : ℕ) → m ≤ f → count inside m ≡ 0
  unfolding count
  before zero l = refl
  before (suc m) l = omega (arith, before m (omega arith), ap (λ (t : Bool). tick (t && ltb m g)) (lt-leb f m (omega arith)))

  amid : (k : ℕ) → f + k ≤ g → count inside (f + k) ≡ k
  unfolding count
  amid zero l = ap (count inside) here ∙ before f (omega arith)
    where
      here : f + 0 ≡ f
      here = omega arith
  amid (suc k) l = ap (count inside) next ∙ add (amid k (omega arith))
    where
      next : f + suc k ≡ suc (f + k)
      next = omega arith

      in_it : inside (f + k) ≡ true
      in_it = rw (le-leb f (f + k) (omega arith), lt-ltb (f + k) g (omega arith))

      add : count inside (f + k) ≡ k → count inside (f + k) + tick (inside (f + k)) ≡ suc k
      add e = omega (arith, ap tick in_it)

  beyond : (k : ℕ) → count inside (g + k) ≡ g - f
  unfolding count
  beyond zero = ap (count inside) here ∙ amid (g - f) (omega arith)
    where
      here : g + 0 ≡ f + (g - f)
      here = omega arith
  beyond (suc k) = ap (count inside) next ∙ add (beyond k)
    where
      next : g + suc k ≡ suc (g + k)
      next = omega arith

      out : inside (g + k) ≡ false
      out = rw (le-leb f (g + k) (omega arith), le-ltb (g + k) g (omega arith))

      add : count inside (g + k) ≡ g - f → count inside (g + k) + tick (inside (g + k)) ≡ g - f
      add e = omega (arith, ap tick out)

  pub range_count : (m : ℕ) → g ≤ m → count inside m ≡ g - f
  range_count m l = ap (count inside) there ∙ beyond (m - g)
    where
      there : m ≡ g + (m - g)
      there = omega arith
