-- The whole report of an input: what the survey program prints (rules I1 to I6). Definitions only.
use Rattle.std.specs.Prelude.{ℕ, zero, suc, ◌+◌, ◌*◌, List, [], ◌++◌, take, replicate, Float, Option, Some, None}
use Rattle.float.specs.Number.{nought}
use Rattle.lent.specs.Ladder.{Refusal, none, numbered}
use Rattle.builder.specs.Build.{Outcome, built}
use Rattle.tree.specs.Lent.{Lent, lent}
use Rattle.walk.specs.Walk.{walk}
use Rattle.report.specs.declared.input.Input.{Input}
use Rattle.report.specs.Little.{numbers, ray_of}
use Rattle.report.specs.Input.{triangles_at, rays_at, measured}
use Rattle.report.specs.Lines.{bad_input, build_refused_line, built_line, ray_line}

-- Rule I6: one line a ray: those of the first k, of rays that stand in the input from a place on, six numbers each
unfoldable pub ray_lines : List ℕ → ℕ → Lent → ℕ → List ℕ
ray_lines s from l zero = []
ray_lines s from l (suc k) = ray_lines s from l k ++ ray_line k (walk l (ray_of s (from + 48 * k)))

-- Rule C10: the lists, cut to what the build wrote; every material is 0
unfoldable pub handed : List Float → ℕ → ℕ → Outcome → Lent
handed mesh n nodes o = lent mesh (replicate n 0) (take n o.index) (take (nodes * 6) o.boxes) (take (nodes * 3) o.links)

-- Rule I3: room for 200 triangles: 200 indices and 399 nodes
unfoldable pub built_of : List Float → Outcome
built_of mesh = built mesh (replicate 200 0) (replicate 2394 nought) (replicate 1197 0)

-- Rules I5 and I6: the line of a refused build; else the counts, and one line for each of the m rays
unfoldable pub report_of : List ℕ → List Float → ℕ → ℕ → Outcome → Refusal → List ℕ
report_of s mesh n m o (numbered k i) = build_refused_line k i
report_of s mesh n m o none = built_line o.answer.nodes o.answer.leaves ++ ray_lines s (rays_at n) (handed mesh n o.answer.nodes o) m

unfoldable pub reported : List ℕ → List Float → ℕ → ℕ → List ℕ
reported s mesh n m = report_of s mesh n m (built_of mesh) (built_of mesh).answer.refusal

-- Rule I2: the input is measured whole first, so cut input with a bad triangle is `bad input`
unfoldable pub surveyed_as : List ℕ → Option Input → List ℕ
surveyed_as s None = bad_input
surveyed_as s (Some i) = reported s (numbers s triangles_at (i.triangles * 12)) i.triangles i.rays

unfoldable pub surveyed : List ℕ → List ℕ
surveyed s = surveyed_as s (measured s)
