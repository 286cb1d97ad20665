-- What each exported call answers and leaves in the lent arrays (rules X1 to X7), as the comment at the call says (src/lib.rt). Definitions only.
use Rattle.std.specs.Prelude.{ℕ, cond, List, [], ◌∷◌, eqb, Float, Option, Some, None}
use Rattle.aabb.specs.declared.slab.Span.{Span}
use Rattle.triangle.specs.declared.Hit.{Hit}
use Rattle.triangle.specs.Refilled.{Outcome as Refilling}
use Rattle.builder.specs.Reply.{Reply}
use Rattle.builder.specs.Build.{Outcome}
use Rattle.lent.specs.Ladder.{Refusal, none, numbered}
use Rattle.walk.specs.Answer.{Told}
use Rattle.sky.specs.Sky.{Filling}
use Rattle.watts.specs.declared.fraction.Terms.{Terms}
use Rattle.watts.specs.Watts.{Counted, Report, Refused, watts_refusal, Outcome as Weighing}
use Rattle.accept.specs.Accept.{Ruling, Outcome as Judging}
use Rattle.stl.specs.Answers.{Told as StlTold, Read, Written}

-- ---- pigeonmast_abi (rule X5)
-- the number of the calls' form, PIGEONMAST_ABI of the C header
abbrev pub abi : ℕ
abi = 3

-- ---- what passes as numbers
-- numbers = t, point, normal, u, v
unfoldable pub hit_numbers : Hit → List Float
hit_numbers h =
    h.t ∷ h.point.x ∷ h.point.y ∷ h.point.z ∷ h.normal.x ∷ h.normal.y ∷ h.normal.z ∷ h.u ∷ h.v ∷ []

-- front (1 or 0)
unfoldable pub front_number : Hit → ℕ
front_number h = cond h.front 1 0

-- 2 front or 1 back
unfoldable pub side_number : Hit → ℕ
side_number h = cond h.front 2 1

-- 0, or the refusal number
unfoldable pub refusal_number : Refusal → ℕ
refusal_number none = 0
refusal_number (numbered number at) = number

-- its at, or 0
unfoldable pub refusal_at : Refusal → ℕ
refusal_at none = 0
refusal_at (numbered number at) = at

-- ---- pigeonmast_build (rule X1)
-- the number, and what told, the index list, the boxes and the links hold at the end
pub record Build : Type 0 where
  pub answer : ℕ
  pub told : List ℕ
  pub index : List ℕ
  pub boxes : List Float
  pub links : List ℕ

abbrev pub build : ℕ → List ℕ → List ℕ → List Float → List ℕ → Build
build answer told index boxes links = record { answer = answer; told = told; index = index; boxes = boxes; links = links }

-- told = node count, leaf count; or told = at, 0
unfoldable pub counts_told : Refusal → ℕ → ℕ → List ℕ
counts_told none nodes leaves = nodes ∷ leaves ∷ []
counts_told (numbered number at) nodes leaves = at ∷ 0 ∷ []

unfoldable pub build_told : Reply → List ℕ
build_told r = counts_told r.refusal r.nodes r.leaves

unfoldable pub build_report : Outcome → Build
build_report o = build (refusal_number o.answer.refusal) (build_told o.answer) o.index o.boxes o.links

-- ---- pigeonmast_walk (rule X2)
-- the number, and what numbers and told hold at the end
pub record Walk : Type 0 where
  pub answer : ℕ
  pub numbers : List Float
  pub told : List ℕ

abbrev pub walk : ℕ → List Float → List ℕ → Walk
walk answer numbers told = record { answer = answer; numbers = numbers; told = told }

-- 100 for a hit: numbers = t, point, normal, u, v; told = triangle, front (1 or 0), box tests, triangle tests, material. 0 for a miss: told = 0, 0, box
-- tests, triangle tests, 0. Else the refusal number: told = at, 0, 0, 0, 0. numbers stay unchanged unless it is a hit
unfoldable pub walk_report : Refusal → Option Hit → ℕ → ℕ → List Float → Walk
walk_report none (Some h) boxes triangles numbers = walk 100 (hit_numbers h) (h.triangle ∷ front_number h ∷ boxes ∷ triangles ∷ h.material ∷ [])
walk_report none None boxes triangles numbers = walk 0 numbers (0 ∷ 0 ∷ boxes ∷ triangles ∷ 0 ∷ [])
walk_report (numbered number at) hit boxes triangles numbers = walk number numbers (at ∷ 0 ∷ 0 ∷ 0 ∷ 0 ∷ [])

unfoldable pub walked : Told → List Float → Walk
walked a numbers = walk_report a.refusal a.hit a.boxes a.triangles numbers

-- ---- pigeonmast_sky (rule X3)
-- the number, and what at, times and told hold at the end
pub record Sky : Type 0 where
  pub answer : ℕ
  pub at : List ℕ
  pub times : List Float
  pub told : List ℕ

abbrev pub sky : ℕ → List ℕ → List Float → List ℕ → Sky
sky answer at times told = record { answer = answer; at = at; times = times; told = told }

-- 0, or the refusal number with its at
unfoldable pub sky_report : Filling → Sky
sky_report o = sky (refusal_number o.refusal) (refusal_at o.refusal ∷ []) o.times o.told

-- ---- pigeonmast_slab and pigeonmast_triangle (rule X4)
-- the number, and what times or numbers hold at the end
pub record Test : Type 0 where
  pub answer : ℕ
  pub numbers : List Float

abbrev pub test : ℕ → List Float → Test
test answer numbers = record { answer = answer; numbers = numbers }

-- 1 and times = enter, exit; or 0 and times unchanged
unfoldable pub slab_report : Option Span → List Float → Test
slab_report (Some s) times = test 1 (s.enter ∷ s.exit ∷ [])
slab_report None times = test 0 times

-- 2 front or 1 back with numbers = t, point, normal, u, v; or 0 and numbers unchanged
unfoldable pub triangle_report : Option Hit → List Float → Test
triangle_report (Some h) numbers = test (side_number h) (hit_numbers h)
triangle_report None numbers = test 0 numbers

-- ---- pigeonmast_normals (rule X6)
-- the number, and what told and the triangles hold at the end
pub record Normals : Type 0 where
  pub answer : ℕ
  pub told : List ℕ
  pub triangles : List Float

abbrev pub normals : ℕ → List ℕ → List Float → Normals
normals answer told triangles = record { answer = answer; told = told; triangles = triangles }

-- 0, or the refusal number with its at
unfoldable pub normals_report : Refilling → Normals
normals_report o = normals (refusal_number o.refusal) (refusal_at o.refusal ∷ []) o.mesh

-- ---- pigeonmast_watts and pigeonmast_share (rule X7)
-- the number, and what report, at, times and told hold at the end
pub record Watts : Type 0 where
  pub answer : ℕ
  pub report : List ℕ
  pub at : List ℕ
  pub times : List Float
  pub told : List ℕ

abbrev pub watts : ℕ → List ℕ → List ℕ → List Float → List ℕ → Watts
watts answer report at times told = record { answer = answer; report = report; at = at; times = times; told = told }

-- share = above, below
unfoldable pub share_numbers : Terms → List ℕ
share_numbers r = r.above ∷ r.below ∷ []

-- report = shaded, open, refused, total, above, below; unchanged after a refusal
unfoldable pub report_numbers : Counted → List ℕ → List ℕ
report_numbers (Report f r) report = f.shaded ∷ f.«open» ∷ f.refused ∷ f.total ∷ r.above ∷ r.below ∷ []
report_numbers (Refused number at) report = report

-- 0, or the refusal number with its at
unfoldable pub watts_report : Weighing → List ℕ → Watts
watts_report o report = watts (refusal_number (watts_refusal o.answer)) (report_numbers o.answer report) (refusal_at (watts_refusal o.answer) ∷ []) o.times o.told

-- ---- pigeonmast_accept (rule X8)
-- the number, and what told and the work room hold at the end
pub record Accept : Type 0 where
  pub answer : ℕ
  pub told : List ℕ
  pub work : List ℕ

abbrev pub accept : ℕ → List ℕ → List ℕ → Accept
accept answer told work = record { answer = answer; told = told; work = work }

-- told = 0, 0; with 19 told = condition, place; with any other refusal told = at, 0
unfoldable pub condition_told : Refusal → ℕ → List ℕ
condition_told none condition = 0 ∷ 0 ∷ []
condition_told (numbered number at) condition = cond (eqb number 19) (condition ∷ at ∷ []) (at ∷ 0 ∷ [])

unfoldable pub accept_told : Ruling → List ℕ
accept_told r = condition_told r.refusal r.condition

-- 0, or the refusal number
unfoldable pub accept_report : Judging → Accept
accept_report o = accept (refusal_number o.answer.refusal) (accept_told o.answer) o.work

-- ---- pigeonmast_read_stl and pigeonmast_write_stl (rule X9)
-- told = how many triangles or bytes; or told = at
unfoldable pub how_many : Refusal → ℕ → List ℕ
how_many none count = count ∷ []
how_many (numbered number at) count = at ∷ []

unfoldable pub stl_told : StlTold → List ℕ
stl_told a = how_many a.refusal a.count

-- the number, and what told, the triangles and the materials hold at the end
pub record StlRead : Type 0 where
  pub answer : ℕ
  pub told : List ℕ
  pub triangles : List Float
  pub materials : List ℕ

abbrev pub stl_read : ℕ → List ℕ → List Float → List ℕ → StlRead
stl_read answer told triangles materials = record { answer = answer; told = told; triangles = triangles; materials = materials }

unfoldable pub read_report : Read → StlRead
read_report o = stl_read (refusal_number o.answer.refusal) (stl_told o.answer) o.triangles o.materials

-- the number, and what told and the file hold at the end
pub record StlWritten : Type 0 where
  pub answer : ℕ
  pub told : List ℕ
  pub file : List ℕ

abbrev pub stl_written : ℕ → List ℕ → List ℕ → StlWritten
stl_written answer told file = record { answer = answer; told = told; file = file }

unfoldable pub write_report : Written → StlWritten
write_report o = stl_written (refusal_number o.answer.refusal) (stl_told o.answer) o.file
