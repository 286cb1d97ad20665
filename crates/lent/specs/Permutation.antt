-- Lists with the same numbers in them. Definitions only.
use Rattle.std.specs.Prelude.{ℕ, zero, suc, ◌+◌, ◌≡◌, cond, List, [], ◌∷◌, ◌++◌, eqb}

-- how often a number stands in a list
unfoldable pub occurs : ℕ → ℕ → ℕ
occurs v x = cond (eqb v x) 1 0

abbrev pub occ : ℕ → List ℕ → ℕ
occ v [] = 0
occ v (x ∷ xs) = occurs v x + occ v xs

-- the same numbers, each as often
abbrev pub Perm : List ℕ → List ℕ → Type 0
Perm xs ys = (v : ℕ) → occ v xs ≡ occ v ys

-- Rule C1: 0, 1, .., n - 1
unfoldable pub up_to : ℕ → List ℕ
up_to zero = []
up_to (suc n) = up_to n ++ (n ∷ [])
