-- What the loop of `leaf` stands on: the entries from place p on, up to an end. Assumes nothing.
use mathlib.Core.Path.{◌≡◌, sym, ap, ◌∙◌}
use Prim.Native.Nat.{ℕ, ◌+◌, ◌-◌, ◌≤◌, ◌<◌}
use native.Mathlib.Nat.{sub-eq-zero_of_le}
use native.Mathlib.Numerals.{add-one}
use native.Mathlib.Omega.{arith}
use Rattle.lent.proofs.Lowest.{one_more}
use Rattle.walk.specs.Steps.{Went, on, stop, and_then, entries}

pub entries_all : {A : Type 0} (entry : ℕ → A → Went A) (first count : ℕ) (a : A) → entries entry (first + count - first) first a ≡ entries entry count first a
entries_all entry first count a = let e : first + count - first ≡ count = omega arith in ap (λ (k : ℕ). entries entry k first a) e

module _ {A : Type 0} (entry : ℕ → A → Went A) (p end : ℕ) (a : A) where
  pub entries_over : end ≤ p → entries entry (end - p) p a ≡ on a
  unfolding entries
  entries_over h = ap (λ (k : ℕ). entries entry k p a) (sub-eq-zero_of_le h)

  module _ (h : p < end) where
    one : entries entry (end - p) p a ≡ and_then (entry p a) (entries entry (end - (p + 1)) (p + 1))
    unfolding entries
    one = ap (λ (k : ℕ). entries entry k p a) (one_more p end h) ∙ ap (λ (q : ℕ). and_then (entry p a) (entries entry (end - (p + 1)) q)) (sym (add-one p))

    pub entries_go : (b : A) → on b ≡ entry p a → entries entry (end - p) p a ≡ entries entry (end - (p + 1)) (p + 1) b
    unfolding and_then
    entries_go b e = one ∙ ap (λ (w : Went A). and_then w (entries entry (end - (p + 1)) (p + 1))) (sym e)

    pub entries_stop : (number at : ℕ) → stop number at ≡ entry p a → entries entry (end - p) p a ≡ stop number at
    unfolding and_then
    entries_stop number at e = one ∙ ap (λ (w : Went A). and_then w (entries entry (end - (p + 1)) (p + 1))) (sym e)
