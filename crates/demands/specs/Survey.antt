-- What is signed of the survey's report: its lines are those of walks through a built tree that is handed over, each of which meets demand 3. Definitions only.
use Rattle.std.specs.Prelude.{◌≡◌, List, ◌++◌, replicate, ℕ, Float}
use Rattle.builder.specs.Build.{Outcome}
use Rattle.report.specs.Input.{rays_at}
use Rattle.report.specs.Lines.{built_line}
use Rattle.report.specs.Survey.{ray_lines, surveyed}
use Rattle.demands.specs.Handed.{handed}
use Rattle.demands.specs.Demand.{Signed}

-- of an input's bytes with n triangles and m rays, where the build of its mesh left o and was served
pub record SignedSurvey (bytes : List ℕ) (n m : ℕ) (mesh : List Float) (o : Outcome) : Type 0 where
  -- line k of the m is `ray_line k` of the walk of ray k through the tree that is handed over
  pub text : surveyed bytes ≡ built_line o.answer.nodes o.answer.leaves ++ ray_lines bytes (rays_at n) (handed mesh (replicate n 0) o) m
  pub signed : Signed (handed mesh (replicate n 0) o) o.answer.nodes o.answer.leaves
