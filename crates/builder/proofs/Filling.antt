-- The bins of an axis as a pass fills them: a triangle more changes one bin, none counts more than were put in, and what is left of the range fills them to
-- the whole. Assumes nothing.
use mathlib.Core.Path.{◌≡◌, refl, sym, ◌∙◌, ap, subst}
use Prim.Native.Nat.{ℕ, ◌+◌, ◌≤◌, ◌<◌}
use native.Mathlib.Omega.{arith}
use mathlib.Core.Logic.{⊎_elim}
use mathlib.Core.List.{List}
use lib.ListN.{length, get_or, drop, replicate, length-set, length-replicate, get_or-replicate}
use lib.Seq.{get_or-set_same, get_or-set_other}
use lib.Ieee.{Float, sub, mul, binary64}
use Rattle.float.proofs.Cases.{same?}
use Rattle.aabb.specs.declared.bounds.Aabb.{Aabb}
use Rattle.aabb.specs.Bounds.{Clear}
use Rattle.aabb.proofs.Running.{empty_clear, union_clear}
use Rattle.triangle.specs.Mesh.{bounds_at, centroid_at}
use Rattle.builder.specs.declared.bins.Bin.{Bin}
use Rattle.builder.specs.Bins.{bin_of, bin_for, blank, filled, no_bin, with_box, with_one}
use Rattle.builder.specs.inner.Held.{Held}
use Rattle.builder.proofs.BinsFilled.{fill_again, fill_end}
use Rattle.builder.proofs.Halves.{bin_most}

-- ---- sixteen bins
none_at : (k : ℕ) → k < 16 → get_or (replicate 16 no_bin) k blank ≡ no_bin
none_at k h = get_or-replicate 16 k no_bin blank h

none_count : no_bin.count ≡ 0
unfolding no_bin
none_count = refl

none_clear : Clear no_bin.bounds
unfolding no_bin
none_clear = empty_clear

pub held_none : Held 0 (replicate 16 no_bin)
held_none = record {
  long = length-replicate 16 no_bin;
  clear = λ k h. subst (λ (b : Bin). Clear b.bounds) (sym (none_at k h)) none_clear;
  most = λ k h. omega (arith, ap (λ (b : Bin). b.count) (none_at k h), none_count);
}

pub held_up : (n n' : ℕ) (bins : List Bin) → n ≤ n' → Held n bins → Held n' bins
held_up n n' bins h b = record { long = b.long; clear = b.clear; most = λ k g. omega (arith, b.most k g) }

pub held_more : (n k : ℕ) (bins : List Bin) (b : Aabb) → k < 16 → Held n bins → Held (n + 1) (with_one bins k b)
unfolding with_box
held_more n k bins b h l = record {
  long = length-set bins k (with_box (get_or bins k blank) b) ∙ l.long;
  clear = λ j g. ⊎_elim
      (λ e. subst (λ (w : Bin). Clear w.bounds) (sym (here j e)) (union_clear (get_or bins k blank).bounds b (l.clear k h)))
      (λ o. subst (λ (w : Bin). Clear w.bounds) (sym (get_or-set_other bins k j (with_box (get_or bins k blank) b) blank o)) (l.clear j g))
      (same? j k);
  most = λ j g. ⊎_elim
      (λ e. omega (arith, ap (λ (w : Bin). w.count) (here j e), l.most k h))
      (λ o. omega (arith, ap (λ (w : Bin). w.count) (get_or-set_other bins k j (with_box (get_or bins k blank) b) blank o), l.most j g))
      (same? j k);
}
  where
    here : (j : ℕ) → j ≡ k → get_or (with_one bins k b) j blank ≡ with_box (get_or bins k blank) b
    here j e = ap (λ (i : ℕ). get_or (with_one bins k b) i blank) e ∙ get_or-set_same bins k (with_box (get_or bins k blank) b) blank (omega (arith, l.long))

-- ---- the pass
-- on an axis, what is left of the range from i on fills the bins so far to the whole
pub record Ahead (mesh : List Float) (axis : ℕ) (min scale : Float) (index : List ℕ) (i : ℕ) (bins : List Bin) : Type 0 where
  pub held : Held i bins
  pub same : filled mesh axis min scale bins (drop i index) ≡ filled mesh axis min scale (replicate 16 no_bin) index

module _ (m : List Float) (axis : ℕ) (lo sc : Float) (xs : List ℕ) where
  pub ahead_start : (bins : List Bin) → bins ≡ replicate 16 no_bin → Ahead m axis lo sc xs 0 bins
  ahead_start bins e = record {
    held = subst (Held 0) (sym e) held_none;
    same = ap (λ (z : List Bin). filled m axis lo sc z xs) e;
  }

  module _ (i : ℕ) (bins : List Bin) (a : Ahead m axis lo sc xs i bins) where
    pub ahead_next : (bins' : List Bin) (x : Float) (b : Aabb) → i < length xs → x ≡ mul binary64 (sub binary64 (centroid_at m axis (get_or xs i 0)) lo) sc → b ≡ bounds_at m (get_or xs i 0)
        → bins' ≡ with_one bins (bin_of 15 x) b → Ahead m axis lo sc xs (i + 1) bins'
    unfolding bin_for
    ahead_next bins' x b h e f g = record {
      held = subst (Held (i + 1)) (sym g) (held_more i (bin_of 15 x) bins b (omega (arith, bin_most 15 x)) a.held);
      same = fill_again m axis lo sc bins bins' xs i (bin_of 15 x) b _ h (ap (bin_of 15) e) f g a.same;
    }

    pub ahead_end : length xs ≤ i → bins ≡ filled m axis lo sc (replicate 16 no_bin) xs
    ahead_end h = sym (fill_end m axis lo sc bins xs i h) ∙ a.same
