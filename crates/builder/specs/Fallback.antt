-- Where the partition leaves one side empty (rule C5): the range by ascending centroid. Definitions only.
use Rattle.std.specs.Prelude.{ℕ, ◌/◌, Bool, true, false, cond, ◌||◌, List, [], ◌∷◌, length, ltb, eqb, Float}
use Rattle.float.specs.Total.{lex, total_less}
use Rattle.triangle.specs.Mesh.{centroid_at}
use Rattle.builder.specs.Partition.{Parted, parts, parted}

-- by `total_cmp` of what `at` has
unfoldable pub under_at : (ℕ → Float) → ℕ → ℕ → Bool
under_at at a b = total_less (at a) (at b)

-- Rule C5: by what `at` has, and of equals the lower number first
unfoldable pub sorts_before : (ℕ → Float) → ℕ → ℕ → Bool
sorts_before at a b = lex (under_at at) ltb a b

unfoldable pub insert : (ℕ → ℕ → Bool) → ℕ → List ℕ → List ℕ
insert less x [] = x ∷ []
insert less x (y ∷ ys) = elim (less y x) [ true ↦ y ∷ insert less x ys | false ↦ x ∷ y ∷ ys ]

unfoldable pub sorted : (ℕ → ℕ → Bool) → List ℕ → List ℕ
sorted less [] = []
sorted less (x ∷ xs) = insert less x (sorted less xs)

unfoldable pub ordered : List Float → ℕ → List ℕ → List ℕ
ordered mesh axis range = sorted (sorts_before (centroid_at mesh axis)) range

-- Rule C5: where all came to one side, the range in order, cut in the middle
unfoldable pub settled : List Float → ℕ → Parted → Parted
settled mesh axis s = cond (eqb s.at 0 || eqb s.at (length s.ids)) (parts (ordered mesh axis s.ids) (length s.ids / 2)) s

unfoldable pub separated : List Float → ℕ → Float → List ℕ → Parted
separated mesh axis position range = settled mesh axis (parted mesh axis position range)
