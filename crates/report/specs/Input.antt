-- The survey's input, measured whole (rules I1 and I2). Definitions only.
use Rattle.std.specs.Prelude.{ℕ, ◌+◌, ◌*◌, Bool, cond, ◌&&◌, List, eqb, leb, length, Option, Some, None}
use Rattle.report.specs.Little.{word}
use Rattle.report.specs.declared.input.Input.{Input}

-- Rule I2: triangles at most, and rays
abbrev pub most : ℕ
most = 200

-- Rule I1: where the triangles start, where the second count stands, and where the rays start
abbrev pub triangles_at : ℕ
triangles_at = 4

abbrev pub count_at : ℕ → ℕ
count_at n = 4 + 96 * n

abbrev pub rays_at : ℕ → ℕ
rays_at n = 8 + 96 * n

-- Rule I2: how long an input with n triangles and m rays of six numbers each is
abbrev pub whole_length : ℕ → ℕ → ℕ
whole_length n m = count_at n + 4 + 48 * m

-- Rule I2: neither count is too high, and there are just as many bytes
unfoldable pub fine : ℕ → ℕ → ℕ → Bool
fine bytes n m = leb n most && (leb m most && eqb bytes (whole_length n m))

-- what a good input holds
abbrev pub good : ℕ → ℕ → Option Input
good n m = Some (record { triangles = n; rays = m })

-- Rule I2: all else is bad
unfoldable pub measured_by : ℕ → ℕ → ℕ → Option Input
measured_by bytes n m = cond (fine bytes n m) (good n m) None

unfoldable pub measured : List ℕ → Option Input
measured s = measured_by (length s) (word s 0) (word s (count_at (word s 0)))
