-- What the steps of the ordering promise each other. Definitions only.
use Rattle.std.specs.Prelude.{ℕ, ◌-◌, ◌/◌, ◌≤◌, ◌<◌, ◌≡◌, Bool, false, List, length, get_or}

abbrev pub parent : ℕ → ℕ
parent j = (j - 1) / 2

-- no number is above its parent, where the parent's place is a or more
abbrev pub HeapFrom : (ℕ → ℕ → Bool) → ℕ → List ℕ → Type 0
HeapFrom less a xs = (j : ℕ) → 0 < j → j < length xs → a ≤ parent j → less (get_or xs (parent j) 0) (get_or xs j 0) ≡ false

-- g is a child of i, and no child of i is above it
pub record Greater (less : ℕ → ℕ → Bool) (xs : List ℕ) (i g : ℕ) : Type 0 where
  pub inside : g < length xs
  pub child : parent g ≡ i
  pub after : i < g
  pub most : (j : ℕ) → 0 < j → j < length xs → parent j ≡ i → less (get_or xs g 0) (get_or xs j 0) ≡ false
