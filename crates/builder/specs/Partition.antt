-- The partition of a range (rule C4), as builder.rs does it. Definitions only.
use Rattle.std.specs.Prelude.{ℕ, zero, suc, ◌+◌, Bool, true, false, List, length, get_or, set, Float}
use Rattle.std.specs.Float.Ieee.{lt}
use Rattle.triangle.specs.Mesh.{centroid_at}

-- two entries exchanged
abbrev pub swapped : List ℕ → ℕ → ℕ → List ℕ
swapped range a b = set (set range a (get_or range b 0)) b (get_or range a 0)

-- a range, of which the first `at` are on the left
pub record Parted : Type 0 where
  pub ids : List ℕ
  pub at : ℕ

abbrev pub parts : List ℕ → ℕ → Parted
parts xs k = record { ids = xs; at = k }

-- Rule C4: an entry that is kept stays, another changes places with the last that is not placed yet; k entries from `left` on are to be placed
unfoldable pub moves : (ℕ → Bool) → ℕ → ℕ → List ℕ → Parted
moves keep zero left xs = parts xs left
moves keep (suc k) left xs = elim (keep (get_or xs left 0)) [ true ↦ moves keep k (suc left) xs | false ↦ moves keep k left (swapped xs left (left + k)) ]

-- Rule C4: it is kept on the left
unfoldable pub keeps_left : List Float → ℕ → Float → ℕ → Bool
keeps_left mesh axis position i = lt (centroid_at mesh axis i) position

unfoldable pub parted : List Float → ℕ → Float → List ℕ → Parted
parted mesh axis position range = moves (keeps_left mesh axis position) (length range) 0 range
