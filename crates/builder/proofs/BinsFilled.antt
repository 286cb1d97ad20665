-- Laws of the loop that fills the bins. Assumes nothing.
use mathlib.Core.Path.{◌≡◌, sym, ◌∙◌, ap}
use Prim.Native.Nat.{ℕ, ◌+◌, ◌≤◌, ◌<◌}
use native.Mathlib.Numerals.{add-one}
use mathlib.Core.List.{List}
use lib.ListN.{length, get_or, drop, drop_of_length-le}
use lib.Seq.{drop-cons}
use lib.Ieee.{Float}
use Rattle.aabb.specs.declared.bounds.Aabb.{Aabb}
use Rattle.triangle.specs.Mesh.{bounds_at}
use Rattle.builder.specs.declared.bins.Bin.{Bin}
use Rattle.builder.specs.Bins.{filled, bin_for, with_one}

fill_step : (m : List Float) (a : ℕ) (lo sc : Float) (bins : List Bin) (xs : List ℕ) (i : ℕ) → i < length xs
    → filled m a lo sc bins (drop i xs) ≡ filled m a lo sc (with_one bins (bin_for m a lo sc (get_or xs i 0)) (bounds_at m (get_or xs i 0))) (drop (i + 1) xs)
unfolding filled
fill_step m a lo sc bins xs i h = rw (add-one, drop-cons xs i 0)

pub fill_again : (m : List Float) (a : ℕ) (lo sc : Float) (bins bins' : List Bin) (xs : List ℕ) (i j : ℕ) (b : Aabb) (n : List Bin) → i < length xs → j ≡ bin_for m a lo sc (get_or xs i 0)
    → b ≡ bounds_at m (get_or xs i 0) → bins' ≡ with_one bins j b → filled m a lo sc bins (drop i xs) ≡ n → filled m a lo sc bins' (drop (i + 1) xs) ≡ n
fill_again m a lo sc bins bins' xs i j b n h p q r e =
    ap (λ (z : List Bin). filled m a lo sc z (drop (i + 1) xs)) r
    ∙ ap (λ (z : ℕ). filled m a lo sc (with_one bins z b) (drop (i + 1) xs)) p
    ∙ ap (λ (z : Aabb). filled m a lo sc (with_one bins (bin_for m a lo sc (get_or xs i 0)) z) (drop (i + 1) xs)) q
    ∙ sym (fill_step m a lo sc bins xs i h) ∙ e

pub fill_end : (m : List Float) (a : ℕ) (lo sc : Float) (bins : List Bin) (xs : List ℕ) (i : ℕ) → length xs ≤ i → filled m a lo sc bins (drop i xs) ≡ bins
unfolding filled
fill_end m a lo sc bins xs i h = ap (λ (z : List ℕ). filled m a lo sc bins z) (drop_of_length-le xs h)
