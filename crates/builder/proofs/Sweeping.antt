-- Laws of the right sides of a sweep: the bins of an axis joined from its right end, their number and their weight. Assumes nothing.
use mathlib.Core.Path.{◌≡◌, sym, ◌∙◌, ap}
use Prim.Native.Nat.{ℕ, ◌+◌, ◌-◌, ◌≤◌, ◌<◌}
use native.Mathlib.Omega.{arith}
use native.Mathlib.Numerals.{add-one}
use mathlib.Core.Logic.{⊎_elim}
use mathlib.Core.List.{List}
use lib.ListN.{length, get_or, set, drop, drop_of_length-le}
use lib.Seq.{drop-cons, get_or-set_same, get_or-set_other}
use lib.Ieee.{Float, nan}
use Rattle.builder.specs.declared.bins.Bin.{Bin}
use Rattle.builder.specs.declared.split.Side.{Side}
use Rattle.builder.specs.Bins.{blank, join_bins, no_bin, suffix_of}
use Rattle.builder.specs.Choice.{weight}
use Rattle.float.proofs.Cases.{same?}

-- ---- counts
pub none_number : (b : Bin) → b ≡ no_bin → b.count ≡ 0
unfolding no_bin
none_number b p = ap (λ (z : Bin). z.count) p

pub join_number : (a b w : Bin) → w ≡ join_bins a b → w.count ≡ a.count + b.count
unfolding join_bins
join_number a b w p = ap (λ (z : Bin). z.count) p

-- ---- the sides: from k on, what is asked of the bins joined from the right end
unfoldable pub side_of : Bin → Side
side_of b = record { count = b.count; weight = weight b }

-- what an array of sides reads as past its end
abbrev pub blank_side : Side
blank_side = record { count = 0; weight = nan }

unfoldable pub Sides : List Bin → List Side → ℕ → Type 0
Sides bs sides k = (j : ℕ) → k ≤ j → j < 16 → side_of (suffix_of (drop j bs)) ≡ get_or sides j blank_side

pub sides_start : (bs : List Bin) (sides : List Side) → Sides bs sides 16
unfolding Sides
sides_start bs sides j h k = absurd (omega arith)

pub sides_most : (bs : List Bin) (sides : List Side) (k i : ℕ) → k ≤ i → Sides bs sides k → Sides bs sides i
unfolding Sides
sides_most bs sides k i h f j p q = f j (omega arith) q

pub side_number : (bs : List Bin) (sides : List Side) (k j : ℕ) → Sides bs sides k → k ≤ j → j < 16 → (suffix_of (drop j bs)).count ≡ (get_or sides j blank_side).count
unfolding Sides side_of
side_number bs sides k j f p q = ap (λ (z : Side). z.count) (f j p q)

pub side_weight : (bs : List Bin) (sides : List Side) (k j : ℕ) → Sides bs sides k → k ≤ j → j < 16 → weight (suffix_of (drop j bs)) ≡ (get_or sides j blank_side).weight
unfolding Sides side_of
side_weight bs sides k j f p q = ap (λ (z : Side). z.weight) (f j p q)

pub suffix_start : (bs : List Bin) (run : Bin) → run ≡ no_bin → length bs ≡ 16 → run ≡ suffix_of (drop 16 bs)
unfolding suffix_of
suffix_start bs run p l = p ∙ ap suffix_of (sym (drop_of_length-le bs {i = 16} (omega arith)))

suffix_step : (bs : List Bin) (i : ℕ) → i < length bs → suffix_of (drop i bs) ≡ join_bins (suffix_of (drop (i + 1) bs)) (get_or bs i blank)
unfolding suffix_of
suffix_step bs i h = rw (add-one, drop-cons bs i blank)

pub suffix_next : (bs : List Bin) (run run' b : Bin) (k : ℕ) → 0 < k → k ≤ length bs → run ≡ suffix_of (drop k bs) → b ≡ get_or bs (k - 1) blank → run' ≡ join_bins run b → run' ≡ suffix_of (drop (k - 1) bs)
suffix_next bs run run' b k h l e p q =
    let up : k ≡ k - 1 + 1 = omega arith in
    q ∙ ap (join_bins run) p ∙ ap (λ (z : Bin). join_bins z (get_or bs (k - 1) blank)) (e ∙ ap (λ (n : ℕ). suffix_of (drop n bs)) up) ∙ sym (suffix_step bs (k - 1) (omega arith))

module _ {A : Type 0} (f : Bin → A) (out : A) (bs : List Bin) (xs : List A) (run : Bin) (k : ℕ) (x : A) (l : length xs ≡ 16) (h : k < 16) (e : run ≡ suffix_of (drop k bs)) (q : x ≡ f run) where
  told : ((j : ℕ) → k + 1 ≤ j → j < 16 → f (suffix_of (drop j bs)) ≡ get_or xs j out) → (j : ℕ) → k ≤ j → j < 16 → f (suffix_of (drop j bs)) ≡ get_or (set xs k x) j out
  told old j p i =
      ⊎_elim
      (λ s. ap (λ (n : ℕ). f (suffix_of (drop n bs))) s ∙ ap f (sym e) ∙ sym q ∙ sym (get_or-set_same xs k x out (omega arith)) ∙ ap (λ (n : ℕ). get_or (set xs k x) n out) (sym s))
      (λ n. old j (omega arith) i ∙ sym (get_or-set_other xs k j x out n))
      (same? j k)

pub sides_next : (bs : List Bin) (sides : List Side) (run : Bin) (k : ℕ) (w : Float) → 0 < k → k ≤ 16 → length sides ≡ 16 → run ≡ suffix_of (drop (k - 1) bs) → w ≡ weight run
    → Sides bs sides k → Sides bs (set sides (k - 1) (record { count = run.count; weight = w })) (k - 1)
unfolding Sides side_of
sides_next bs sides run k w h i l e q f =
    told side_of blank_side bs sides run (k - 1) (record { count = run.count; weight = w }) l (omega arith) e (ap (λ (z : Float). record { count = run.count; weight = z }) q) (λ j p o. f j (omega arith) o)
