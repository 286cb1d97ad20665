-- Laws of the partition's loop: its start, its two turns, its end, and what it keeps. Assumes nothing.
use mathlib.Core.Path.{◌≡◌, refl, sym, ◌∙◌, ap}
use Prim.Native.Nat.{ℕ, zero, suc, ◌+◌, ◌-◌, ◌≤◌, ◌<◌}
use native.Mathlib.Nat.{sub-zero, sub-eq-zero_of_le}
use native.Mathlib.Omega.{arith}
use native.Mathlib.Numerals.{add-one}
use mathlib.Core.Bool.{Bool, true, false}
use mathlib.Core.List.{List}
use lib.ListN.{length, get_or, length-set}
use lib.Ieee.{Float, lt}
use Rattle.triangle.specs.Mesh.{centroid_at}
use Rattle.lent.proofs.Lowest.{one_more}
use Rattle.std.specs.List.{swap}
use Rattle.std.proofs.lemmas.List.Edits.{swap_is}
use Rattle.builder.specs.Partition.{Parted, keeps_left, moves, parted, parts, swapped}

-- ---- an exchange
pub length_swap : (xs : List ℕ) (a b : ℕ) → length (swapped xs a b) ≡ length xs
length_swap xs a b = simp length-set

-- of a slice, by its method
pub swapped_by : (xs ys : List ℕ) (a b : ℕ) → a < length xs → b < length xs → ys ≡ swap xs a b → ys ≡ swapped xs a b
swapped_by xs ys a b h g e = e ∙ sym (swap_is xs a b 0 h g)

-- ---- the loop of the partition
pick_by : {A : Type 0} (P : A → Type 0) (t : Bool) (x y : A) → P x → P y → P (elim t [ true ↦ x | false ↦ y ])
pick_by P true x y p q = p
pick_by P false x y p q = q

pub moves_by : (P : Parted → Type 0) (keep : ℕ → Bool) (k l : ℕ) (xs : List ℕ) → P (moves keep k (suc l) xs) → P (moves keep k l (swapped xs l (l + k))) → P (moves keep (suc k) l xs)
unfolding moves
moves_by P keep k l xs p q = pick_by P (keep (get_or xs l 0)) (moves keep k (suc l) xs) (moves keep k l (swapped xs l (l + k))) p q

moves_true : (keep : ℕ → Bool) (k l : ℕ) (xs : List ℕ) → keep (get_or xs l 0) ≡ true → moves keep (suc k) l xs ≡ moves keep k (suc l) xs
unfolding moves
moves_true keep k l xs p = rw (p, moves)

moves_false : (keep : ℕ → Bool) (k l : ℕ) (xs : List ℕ) → keep (get_or xs l 0) ≡ false → moves keep (suc k) l xs ≡ moves keep k l (swapped xs l (l + k))
unfolding moves
moves_false keep k l xs p = rw (p, moves)

pub moves_up : (keep : ℕ → Bool) (l r : ℕ) (xs : List ℕ) → l < r → keep (get_or xs l 0) ≡ true → moves keep (r - l) l xs ≡ moves keep (r - (l + 1)) (l + 1) xs
moves_up keep l r xs h p =
    ap (λ (n : ℕ). moves keep n l xs) (one_more l r h) ∙ moves_true keep (r - (l + 1)) l xs p ∙ ap (λ (n : ℕ). moves keep (r - (l + 1)) n xs) (sym (add-one l))

pub moves_down : (keep : ℕ → Bool) (l r : ℕ) (xs : List ℕ) → l < r → keep (get_or xs l 0) ≡ false → moves keep (r - l) l xs ≡ moves keep ((r - 1) - l) l (swapped xs l (r - 1))
moves_down keep l r xs h p =
    ap (λ (n : ℕ). moves keep n l xs) (one l r h) ∙ moves_false keep (r - 1 - l) l xs p ∙ ap (λ (n : ℕ). moves keep (r - 1 - l) l (swapped xs l n)) (two l r h)
  where
    one : (l r : ℕ) → l < r → r - l ≡ suc (r - 1 - l)
    one l r h = omega arith

    two : (l r : ℕ) → l < r → l + (r - 1 - l) ≡ r - 1
    two l r h = omega arith

pub moves_end : (keep : ℕ → Bool) (l r : ℕ) (xs : List ℕ) → r ≤ l → moves keep (r - l) l xs ≡ parts xs l
unfolding moves
moves_end keep l r xs h = ap (λ (n : ℕ). moves keep n l xs) (sub-eq-zero_of_le h)

-- what holds of the numbers of a list and of an exchange of two of them
pub moves_length : (keep : ℕ → Bool) (k l : ℕ) (xs : List ℕ) → length (moves keep k l xs).ids ≡ length xs
unfolding moves
moves_length keep zero l xs = refl
moves_length keep (suc k) l xs =
    moves_by (λ (s : Parted). length s.ids ≡ length xs) keep k l xs (moves_length keep k (suc l) xs) (moves_length keep k l (swapped xs l (l + k)) ∙ length_swap xs l (l + k))

pub moves_at : (keep : ℕ → Bool) (k l : ℕ) (xs : List ℕ) → (moves keep k l xs).at ≤ l + k
unfolding moves
moves_at keep zero l xs = omega arith
moves_at keep (suc k) l xs =
    moves_by (λ (s : Parted). s.at ≤ l + suc k) keep k l xs
    (omega (arith, moves_at keep k (suc l) xs))
    (omega (arith, moves_at keep k l (swapped xs l (l + k))))

pub parted_length : (m : List Float) (a : ℕ) (p : Float) (xs : List ℕ) → length (parted m a p xs).ids ≡ length xs
unfolding parted
parted_length m a p xs = moves_length (keeps_left m a p) (length xs) 0 xs

pub parted_at : (m : List Float) (a : ℕ) (p : Float) (xs : List ℕ) → (parted m a p xs).at ≤ length xs
unfolding parted
parted_at m a p xs = omega (arith, moves_at (keeps_left m a p) (length xs) 0 xs)

-- ---- a turn of each loop
pub lower_is : (m : List Float) (a : ℕ) (p : Float) (i k : ℕ) (r : Float) (t : Bool) → k ≡ i → r ≡ centroid_at m a k → lt r p ≡ t → keeps_left m a p i ≡ t
unfolding keeps_left
lower_is m a p i k r t e f g = cc

pub moves_start : (m : List Float) (a : ℕ) (p : Float) (xs : List ℕ) → moves (keeps_left m a p) (length xs - 0) 0 xs ≡ parted m a p xs
unfolding parted
moves_start m a p xs = ap (λ (n : ℕ). moves (keeps_left m a p) n 0 xs) (sub-zero (length xs))

-- the turns of the loop
pub ruleset turns = (length_swap, swapped_by, lower_is, moves_down, moves_end, moves_start, moves_up)
