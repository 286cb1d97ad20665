-- The float calls `abs`, `min` and `max` (rules F3 and F4). Definitions only.
use Rattle.std.specs.Prelude.{false, ◌||◌, cond, Float}
use Rattle.std.specs.Float.{nan, inf, fin}
use Rattle.std.specs.Float.Ieee.{lt, is_nan}

-- Rule F3: |x|
abbrev pub magnitude : Float → Float
magnitude nan = nan
magnitude (inf s) = inf false
magnitude (fin s m e) = fin false m e

-- Rule F4: a running NaN gives way, and a tie leaves the running number
unfoldable pub lesser : Float → Float → Float
lesser run x = cond (lt x run || is_nan run) x run

unfoldable pub greater : Float → Float → Float
greater run x = cond (lt run x || is_nan run) x run

-- By one comparison: a running NaN is kept. Beside any other running number they are the lesser and the greater (proofs/Pick.antt).
abbrev pub lower : Float → Float → Float
lower run x = cond (lt x run) x run

abbrev pub higher : Float → Float → Float
higher run x = cond (lt run x) x run
