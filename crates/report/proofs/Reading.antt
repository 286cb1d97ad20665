-- A list of numbers grows by one, up to the whole. Assumes nothing.
use mathlib.Core.Path.{◌≡◌, sym, ap, ◌∙◌}
use mathlib.Core.List.{List}
use Prim.Native.Nat.{ℕ, ◌+◌, ◌*◌, ◌<◌}
use native.Mathlib.Numerals.{add-one}
use native.Mathlib.Omega.{arith}
use lib.ListN.{length, take, set}
use lib.Seq.{take_all, take-suc-set}
use lib.Ieee.{Float}
use Rattle.report.specs.Little.{number, numbers}

pub numbers_more : (s : List ℕ) (at : ℕ) (xs : List Float) (i : ℕ) (x : Float) → i < length xs → x ≡ number s (at + 8 * i) → take i xs ≡ numbers s at i
    → take (i + 1) (set xs i x) ≡ numbers s at (i + 1)
unfolding numbers
numbers_more s at xs i x h p e = rw (add-one, take-suc-set xs i x h, e, p)

pub numbers_all : (s : List ℕ) (at : ℕ) (xs : List Float) (i n : ℕ) → i ≡ n → length xs ≡ n → take i xs ≡ numbers s at i → xs ≡ numbers s at n
numbers_all s at xs i n e l p = sym (take_all i xs (omega arith)) ∙ p ∙ ap (numbers s at) e
