-- The sixteen bins of an axis (rules S4 to S6). Definitions only.
use Rattle.std.specs.Prelude.{ℕ, zero, suc, ◌+◌, cond, List, [], ◌∷◌, get_or, set, pos, Float}
use Rattle.std.specs.Float.{nan, binary64}
use Rattle.std.specs.Float.Ieee.{sub, mul, le, of_int}
use Rattle.aabb.specs.declared.bounds.Aabb.{Aabb}
use Rattle.aabb.specs.Vector.{vec}
use Rattle.aabb.specs.Bounds.{box, empty_box, union}
use Rattle.triangle.specs.Mesh.{bounds_at, centroid_at}
use Rattle.builder.specs.declared.bins.Bin.{Bin}

-- a whole number as a float
abbrev pub whole : ℕ → Float
whole n = of_int binary64 (pos n)

-- Rule S5: no triangle, and the empty box
unfoldable pub no_bin : Bin
no_bin = record { count = 0; bounds = empty_box }

-- Rule S5: a triangle more, whose box is given
unfoldable pub with_box : Bin → Aabb → Bin
with_box b x = record { count = b.count + 1; bounds = union b.bounds x }

-- Rule S6: two bins as one
unfoldable pub join_bins : Bin → Bin → Bin
join_bins a b = record { count = a.count + b.count; bounds = union a.bounds b.bounds }

-- Rule S4: the last of 0 to n that is no greater than x, or 0
unfoldable pub bin_of : ℕ → Float → ℕ
bin_of zero x = 0
bin_of (suc k) x = cond (le (whole (suc k)) x) (suc k) (bin_of k x)

-- Rule S4: the bin of triangle i, by how many bins its centroid is from min
unfoldable pub bin_for : List Float → ℕ → Float → Float → ℕ → ℕ
bin_for mesh axis min scale i = bin_of 15 (mul binary64 (sub binary64 (centroid_at mesh axis i) min) scale)

-- what an array of bins reads as past its end, which no definition here looks at
abbrev pub blank : Bin
blank = record { count = 0; bounds = box (vec nan nan nan) (vec nan nan nan) }

-- a triangle more in bin k
abbrev pub with_one : List Bin → ℕ → Aabb → List Bin
with_one bins k b = set bins k (with_box (get_or bins k blank) b)

-- Rule S5: the bins, with the range's triangles put in, in list order
unfoldable pub filled : List Float → ℕ → Float → Float → List Bin → List ℕ → List Bin
filled mesh axis min scale bins [] = bins
filled mesh axis min scale bins (i ∷ is) =
    filled mesh axis min scale (with_one bins (bin_for mesh axis min scale i) (bounds_at mesh i)) is

-- Rule S6: the bins to the right of a boundary, joined from the right end
unfoldable pub suffix_of : List Bin → Bin
suffix_of [] = no_bin
suffix_of (b ∷ bs) = join_bins (suffix_of bs) b
