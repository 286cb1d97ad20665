-- Laws of the lowest number that meets a test: by a loop from number to number or by `find`, for two tests that agree up to it, and for what is known where there is none. Assumes nothing.
use mathlib.Core.Path.{◌≡◌, refl, sym, ◌∙◌, ap, subst}
use mathlib.Core.Bool.{Bool, true, false}
use mathlib.Core.Logic.{◌⊎◌, inl, inr, ⊎_elim}
use Prim.Native.Nat.{ℕ, zero, suc, ◌+◌, ◌-◌, ◌≤◌, ◌<◌}
use native.Mathlib.Nat.{sub-zero, sub-eq-zero_of_le}
use native.Mathlib.Numerals.{add-one}
use native.Mathlib.Omega.{arith}
use Rattle.std.specs.Prelude.{Option, Some, None, MatchOption}
use native.Mathlib.Decide.{ℕ_discrete}
use Rattle.lent.specs.Lowest.{lowest}

same? : (h i : ℕ) → (h ≡ i) ⊎ (h ≡ i → ⊥)
same? h i = elim (ℕ_discrete h i) [ yes p ↦ inl p | no n ↦ inr n ]

-- ---- one place
pub passed : (p : ℕ → Bool) (i k : ℕ) → p i ≡ false → lowest p i (suc k) ≡ lowest p (suc i) k
unfolding lowest
passed p i k e = rw e

pub met : (p : ℕ → Bool) (i k : ℕ) → p i ≡ true → lowest p i (suc k) ≡ Some i
unfolding lowest
met p i k e = rw e

-- ---- one turn of a loop from i to n
pub one_more : (i n : ℕ) → i < n → n - i ≡ suc (n - (i + 1))
one_more i n h = omega arith

pub on : (p : ℕ → Bool) (i n : ℕ) → i < n → p i ≡ false → lowest p i (n - i) ≡ lowest p (i + 1) (n - (i + 1))
on p i n h e =
    ap (λ (k : ℕ). lowest p i k) (one_more i n h) ∙ passed p i (n - (i + 1)) e ∙ ap (λ (k : ℕ). lowest p k (n - (i + 1))) (sym (add-one i))

pub stop : (p : ℕ → Bool) (i n : ℕ) → i < n → p i ≡ true → lowest p i (n - i) ≡ Some i
stop p i n h e = ap (λ (k : ℕ). lowest p i k) (one_more i n h) ∙ met p i (n - (i + 1)) e

pub end : (p : ℕ → Bool) (i n : ℕ) → n ≤ i → lowest p i (n - i) ≡ None
unfolding lowest
end p i n h = ap (λ (k : ℕ). lowest p i k) (sub-eq-zero_of_le h)

pub start : (p : ℕ → Bool) (n : ℕ) → lowest p 0 (n - 0) ≡ lowest p 0 n
start p n = ap (λ (k : ℕ). lowest p 0 k) (sub-zero n)

-- ---- two tests that agree up to the first that breaks
abbrev Clear : (ℕ → Bool) → ℕ → ℕ → Type 0
Clear p i j = (h : ℕ) → i ≤ h → h < j → p h ≡ false

pub same : (p q : ℕ → Bool) (i k : ℕ) → ((j : ℕ) → i ≤ j → j < i + k → Clear p i j → p j ≡ q j) → lowest p i k ≡ lowest q i k
unfolding lowest
same p q i zero f = refl
same p q i (suc k) f =
    go (p i) refl (f i (omega arith) (omega arith) (λ h l m. absurd (omega arith)))
    (λ e. same p q (suc i) k (λ j l m g. f j (omega arith) (omega arith) (before e j g)))
  where
    before : p i ≡ false → (j : ℕ) → Clear p (suc i) j → Clear p i j
    before e j g h l m = ⊎_elim (λ w. ap p w ∙ e) (λ w. g h (omega arith) m) (same? h i)

    go : (t : Bool) → p i ≡ t → p i ≡ q i → (p i ≡ false → lowest p (suc i) k ≡ lowest q (suc i) k) → lowest p i (suc k) ≡ lowest q i (suc k)
    go true e a r = met p i k e ∙ sym (met q i k (sym a ∙ e))
    go false e a r = passed p i k e ∙ r e ∙ sym (passed q i k (sym a ∙ e))

pub agree : (p q : ℕ → Bool) (n : ℕ) → ((j : ℕ) → j < n → p j ≡ q j) → lowest p 0 n ≡ lowest q 0 n
agree p q n f = same p q 0 n (λ j l m g. f j (omega arith))

-- ---- none
pub all_clear : (p : ℕ → Bool) (i k : ℕ) → ((j : ℕ) → p j ≡ false) → lowest p i k ≡ None
unfolding lowest
all_clear p i zero f = refl
all_clear p i (suc k) f = passed p i k (f i) ∙ all_clear p (suc i) k f

pub none_from : (p : ℕ → Bool) (i k : ℕ) → lowest p i k ≡ None → Clear p i (i + k)
unfolding lowest
none_from p i zero e h l m = absurd (omega arith)
none_from p i (suc k) e h l m = go (p i) refl (λ a n. none_from p (suc i) k (sym (passed p i k a) ∙ e) h n (omega arith))
  where
    go : (t : Bool) → p i ≡ t → (p i ≡ false → suc i ≤ h → p h ≡ false) → p h ≡ false
    go true a r = let z : ◌≡◌ {A = ℕ} 0 1 = cc (met p i k a) in absurd (omega arith)
    go false a r = ⊎_elim (λ w. ap p w ∙ a) (λ w. r a (omega arith)) (same? h i)

-- then those after it are looked at
pub after : (p : ℕ → Bool) (i k l : ℕ) → lowest p i k ≡ None → lowest p i (k + l) ≡ lowest p (i + k) l
unfolding lowest
after p i zero l e = ap (λ (z : ℕ). lowest p i z) none ∙ ap (λ (z : ℕ). lowest p z l) here
  where
    none : 0 + l ≡ l
    none = omega arith

    here : i ≡ i + 0
    here = omega arith
after p i (suc k) l e = go (p i) refl (λ a. after p (suc i) k l (sym (passed p i k a) ∙ e))
  where
    longer : suc k + l ≡ suc (k + l)
    longer = omega arith

    further : suc i + k ≡ i + suc k
    further = omega arith

    go : (t : Bool) → p i ≡ t → (p i ≡ false → lowest p (suc i) (k + l) ≡ lowest p (suc i + k) l) → lowest p i (suc k + l) ≡ lowest p (i + suc k) l
    go true a r = let z : ◌≡◌ {A = ℕ} 0 1 = cc (met p i k a) in absurd (omega arith)
    go false a r = ap (λ (z : ℕ). lowest p i z) longer ∙ passed p i (k + l) a ∙ r a ∙ ap (λ (z : ℕ). lowest p z l) further

-- and the lowest of the first part is that of the whole
pub first : (p : ℕ → Bool) (i k l j : ℕ) → lowest p i k ≡ Some j → lowest p i (k + l) ≡ Some j
unfolding lowest
first p i zero l j e = let z : ◌≡◌ {A = ℕ} 0 1 = cc in absurd (omega arith)
first p i (suc k) l j e = go (p i) refl (λ a. first p (suc i) k l j (sym (passed p i k a) ∙ e))
  where
    longer : suc k + l ≡ suc (k + l)
    longer = omega arith

    go : (t : Bool) → p i ≡ t → (p i ≡ false → lowest p (suc i) (k + l) ≡ Some j) → lowest p i (suc k + l) ≡ Some j
    go true a r = ap (λ (z : ℕ). lowest p i z) longer ∙ met p i (k + l) a ∙ sym (met p i k a) ∙ e
    go false a r = ap (λ (z : ℕ). lowest p i z) longer ∙ passed p i (k + l) a ∙ r a

-- ---- a part of the places, and those after it
module _ (p : ℕ → Bool) (from end n : ℕ) (h : from ≤ end) (l : end ≤ n) where
  parts : n - from ≡ end - from + (n - end)
  parts = omega arith

  there : from + (end - from) ≡ end
  there = omega arith

  pub part_clear : (r : Option ℕ) → r ≡ lowest p from (end - from) → r ≡ None → lowest p from (n - from) ≡ lowest p end (n - end)
  part_clear r e f =
      ap (λ (z : ℕ). lowest p from z) parts
      ∙ after p from (end - from) (n - end) (sym e ∙ f)
      ∙ ap (λ (z : ℕ). lowest p z (n - end)) there

  pub part_broken : (r : Option ℕ) (j : ℕ) → r ≡ lowest p from (end - from) → r ≡ Some j → lowest p from (n - from) ≡ Some j
  part_broken r j e f = ap (λ (z : ℕ). lowest p from z) parts ∙ first p from (end - from) (n - end) j (sym e ∙ f)

-- ---- by `find` over a range, of which the library's `first_from_Range` says that much
abbrev Found : (ℕ → Bool) → ℕ → ℕ → Option ℕ → Type 0
Found p a b r = MatchOption r ((k : ℕ) → a ≤ k → k < b → p k ≡ false) (λ i. (a ≤ i) × (i < b) × (p i ≡ true) × ((k : ℕ) → a ≤ k → k < i → p k ≡ false))

least : (p : ℕ → Bool) (i k : ℕ) (r : Option ℕ) → Found p i (i + k) r → r ≡ lowest p i k
unfolding lowest
least p i zero None h = refl
least p i zero (Some n) h = absurd (omega arith)
least p i (suc k) None h = least p (suc i) k None (λ j l m. h j (omega arith) (omega arith)) ∙ sym (passed p i k (h i (omega arith) (omega arith)))
least p i (suc k) (Some n) h =
    ⊎_elim (λ w. ap Some w ∙ sym (met p i k (sym (ap p w) ∙ h.2)))
    (λ w. least p (suc i) k (Some n) (omega arith, omega arith, h.2, λ j l m. h.3 j (omega arith) m) ∙ sym (passed p i k (h.3 i (omega arith) (omega arith))))
    (same? n i)

pub lowest_in : (p : ℕ → Bool) (a b : ℕ) (r : Option ℕ) → a ≤ b → Found p a b r → r ≡ lowest p a (b - a)
lowest_in p a b r l h = least p a (b - a) r (subst (λ z. Found p a z r) (upto a b l) h)
  where
    upto : (a b : ℕ) → a ≤ b → b ≡ a + (b - a)
    upto a b l = omega arith

pub lowest_below : (p : ℕ → Bool) (n : ℕ) (r : Option ℕ) → Found p 0 n r → r ≡ lowest p 0 n
lowest_below p n r h = least p 0 n r (subst (λ z. Found p 0 z r) (none n) h)
  where
    none : (n : ℕ) → n ≡ 0 + n
    none n = omega arith

pub none_below : (p : ℕ → Bool) (i k : ℕ) → ((j : ℕ) → i ≤ j → j < i + k → p j ≡ false) → lowest p i k ≡ None
none_below p i k h = sym (least p i k None h)
