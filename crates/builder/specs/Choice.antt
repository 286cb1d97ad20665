-- The choice of a split (rules S1 to S9). Definitions only.
use Rattle.std.specs.Prelude.{ℕ, ◌+◌, cond, List, [], ◌∷◌, length, replicate, leb, eqb, Float, Option, Some, None}
use Rattle.std.specs.Float.Ieee.{add, sub, mul, div, lt, le}
use Rattle.std.specs.Float.{binary64}
use Rattle.float.specs.Number.{nought, one, one_and_half, sixteen, millionth, trillionth}
use Rattle.aabb.specs.declared.bounds.Aabb.{Aabb}
use Rattle.aabb.specs.Vector.{along}
use Rattle.aabb.specs.Bounds.{area}
use Rattle.builder.specs.declared.bins.Bin.{Bin}
use Rattle.builder.specs.declared.split.Best.{Best}
use Rattle.builder.specs.declared.split.Split.{Split}
use Rattle.builder.specs.Bins.{whole, no_bin, join_bins, filled, suffix_of}

-- Rule S7: (area·n)·1.5 of one side
unfoldable pub weight : Bin → Float
weight b = mul binary64 (mul binary64 (area b.bounds) (whole b.count)) one_and_half

-- Rule S7: what a boundary costs, by its two sides
unfoldable pub cost_of : Bin → Bin → Float → Float
cost_of l r parent = add binary64 one (div binary64 (add binary64 (weight l) (weight r)) parent)

-- Rules S7 and S8: the boundary with so many bins to its left, against the best so far; an empty side or an equal cost changes nothing
unfoldable pub better_of : Best → Bin → Bin → ℕ → ℕ → Float → Float → Float → Best
better_of best l r bins axis min width parent =
    cond (eqb l.count 0) best
    (cond (eqb r.count 0) best
    (cond (lt (cost_of l r parent) best.cost)
    (record { cost = cost_of l r parent; axis = axis; position = add binary64 min (mul binary64 (whole bins) width) })
    best))

-- Rule S6: the boundaries from i on, with what is to the left joined
unfoldable pub sweep_from : ℕ → Float → Float → Float → Best → Bin → List Bin → ℕ → Best
sweep_from axis min width parent best l [] i = best
sweep_from axis min width parent best l (b ∷ []) i = best
sweep_from axis min width parent best l (b ∷ c ∷ bs) i =
    sweep_from axis min width parent (better_of best (join_bins l b) (suffix_of (c ∷ bs)) (i + 1) axis min width parent) (join_bins l b) (c ∷ bs) (i + 1)

-- Rule S3: one axis, unless the centroids hardly differ on it
unfoldable pub try_axis : List Float → List ℕ → Aabb → ℕ → Float → Best → Best
try_axis mesh range centroids axis parent best =
    let min = along axis centroids.min in
    let span = sub binary64 (along axis centroids.max) min in
    let scale = div binary64 sixteen span in
    cond (lt span millionth) best (sweep_from axis min (div binary64 one scale) parent best no_bin (filled mesh axis min scale (replicate 16 no_bin) range) 0)

-- Rule S2: the cost that a split must beat
unfoldable pub leaf_cost : List ℕ → Float
leaf_cost range = mul binary64 (whole (length range)) one_and_half

-- Rule S2: x, then y, then z
unfoldable pub best_of_axes : List Float → List ℕ → Aabb → Float → Float → Best
best_of_axes mesh range centroids parent leaf =
    try_axis mesh range centroids 2 parent (try_axis mesh range centroids 1 parent (try_axis mesh range centroids 0 parent (record { cost = leaf; axis = 0; position = nought })))

-- a split on an axis at a position; none is a leaf
abbrev pub split_at : ℕ → Float → Option Split
split_at axis position = Some (record { axis = axis; position = position })

-- Rule S9: a leaf, where nothing beats it
unfoldable pub chosen : Float → Best → Option Split
chosen leaf best = cond (lt best.cost leaf) (split_at best.axis best.position) None

-- Rule S1: a leaf too, of so few triangles or of so small an area
unfoldable pub best_split : List Float → List ℕ → Aabb → Aabb → Option Split
best_split mesh range bounds centroids =
    let leaf = leaf_cost range in
    let parent = area bounds in
    cond (leb (length range) 4) None
    (cond (le parent trillionth) None
    (chosen leaf (best_of_axes mesh range centroids parent leaf)))
