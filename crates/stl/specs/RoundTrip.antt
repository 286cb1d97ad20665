-- What a file is after it was read and written (rule L6). Definitions only.
use Rattle.std.specs.Prelude.{ℕ, ◌+◌, ◌*◌, ◌<◌, List, [], ◌∷◌, ◌++◌, take, drop, replicate, get_or}
use Rattle.lent.specs.Flat.{records}
use Rattle.stl.specs.Layout.{count_at}

-- what a lent &[u8] holds
abbrev pub Bytes : List ℕ → Type 0
Bytes file = (k : ℕ) → get_or file k 0 < 256

-- the 48 bytes of triangle i, and no attribute
unfoldable pub bare_record : List ℕ → ℕ → List ℕ
bare_record file i = take 48 (drop (84 + 50 * i) file) ++ (0 ∷ (0 ∷ []))

-- Rule L6: a file of n triangles with its header and its attributes zeroed
unfoldable pub zeroed : List ℕ → ℕ → List ℕ
zeroed file n = replicate 80 0 ++ (take 4 (drop count_at file) ++ records (bare_record file) n)
