-- Laws for the loops that fill, and for the room. Assumes nothing.
use mathlib.Core.Path.{◌≡◌, refl, sym, ◌∙◌, ap}
use Prim.Native.Nat.{ℕ, zero, suc, ◌+◌, ◌*◌, ◌-◌, ◌≤◌, ◌<◌}
use native.Mathlib.Omega.{arith}
use native.Mathlib.Numerals.{add-one}
use mathlib.Core.List.{List}
use lib.ListN.{length, set, take}
use lib.Seq.{take_all, take-suc-set}
use Rattle.lent.specs.Permutation.{up_to}
use Rattle.builder.specs.Build.{room}

-- ---- the room
pub room_none : (n : ℕ) → n ≡ 0 → 1 ≡ room n
unfolding room
room_none zero p = refl
room_none (suc n) p = absurd (omega arith)

pub room_some : (n : ℕ) → (n ≡ 0 → ⊥) → 2 * n - 1 ≡ room n
unfolding room
room_some zero p = absurd (p refl)
room_some (suc n) p = omega arith

pub room_is : (n : ℕ) → room n ≡ 1 + 2 * (n - 1)
unfolding room
room_is zero = refl
room_is (suc n) = omega arith

-- ---- the numbers in order
pub up_more : (xs : List ℕ) (i : ℕ) → i < length xs → take i xs ≡ up_to i → take (i + 1) (set xs i i) ≡ up_to (i + 1)
unfolding up_to
up_more xs i h e = rw (add-one, take-suc-set xs i i h, e)

pub all_written : {A : Type 0} (f : ℕ → List A) (xs : List A) (i n : ℕ) → i ≤ n → length xs ≤ i → length xs ≡ n → take i xs ≡ f i → xs ≡ f n
all_written f xs i n h l k e = sym (take_all i xs l) ∙ e ∙ ap f (same i n (length xs) h l k)
  where
    same : (i n k : ℕ) → i ≤ n → k ≤ i → k ≡ n → i ≡ n
    same i n k h l e = omega arith

-- what the loop cites
pub ruleset counting = (up_more, all_written)
