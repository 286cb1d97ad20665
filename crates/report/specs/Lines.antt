-- The lines of the report, each a list of bytes in ASCII with its newline. Definitions only.
use Rattle.std.specs.Prelude.{ℕ, List, [], ◌∷◌, ◌++◌, Option, Some, None}
use Rattle.std.specs.Float.{binary64}
use Rattle.std.specs.Float.Ieee.{to_bits}
use Rattle.triangle.specs.declared.Hit.{Hit}
use Rattle.lent.specs.Ladder.{Refusal, none, numbered}
use Rattle.walk.specs.Answer.{Told}
use Rattle.report.specs.Text.{hexadecimal, named, pair}

-- Rule I4: "bad input"
abbrev pub bad_input : List ℕ
bad_input = 98 ∷ 97 ∷ 100 ∷ 32 ∷ 105 ∷ 110 ∷ 112 ∷ 117 ∷ 116 ∷ 10 ∷ []

-- "build refused "
abbrev pub build_refused : List ℕ
build_refused = 98 ∷ 117 ∷ 105 ∷ 108 ∷ 100 ∷ 32 ∷ 114 ∷ 101 ∷ 102 ∷ 117 ∷ 115 ∷ 101 ∷ 100 ∷ 32 ∷ []

-- " at "
abbrev pub in_place : List ℕ
in_place = 32 ∷ 97 ∷ 116 ∷ 32 ∷ []

-- "nodes "
abbrev pub nodes : List ℕ
nodes = 110 ∷ 111 ∷ 100 ∷ 101 ∷ 115 ∷ 32 ∷ []

-- " leaves "
abbrev pub leaves : List ℕ
leaves = 32 ∷ 108 ∷ 101 ∷ 97 ∷ 118 ∷ 101 ∷ 115 ∷ 32 ∷ []

-- "ray "
abbrev pub ray : List ℕ
ray = 114 ∷ 97 ∷ 121 ∷ 32 ∷ []

-- " hit "
abbrev pub hit : List ℕ
hit = 32 ∷ 104 ∷ 105 ∷ 116 ∷ 32 ∷ []

-- " t "
abbrev pub distance : List ℕ
distance = 32 ∷ 116 ∷ 32 ∷ []

-- " miss tests "
abbrev pub miss : List ℕ
miss = 32 ∷ 109 ∷ 105 ∷ 115 ∷ 115 ∷ 32 ∷ 116 ∷ 101 ∷ 115 ∷ 116 ∷ 115 ∷ 32 ∷ []

-- " tests "
abbrev pub tests : List ℕ
tests = 32 ∷ 116 ∷ 101 ∷ 115 ∷ 116 ∷ 115 ∷ 32 ∷ []

-- " refused "
abbrev pub refused : List ℕ
refused = 32 ∷ 114 ∷ 101 ∷ 102 ∷ 117 ∷ 115 ∷ 101 ∷ 100 ∷ 32 ∷ []

-- " "
abbrev pub space : List ℕ
space = 32 ∷ []

-- Rule I5: build refused N at M
unfoldable pub build_refused_line : ℕ → ℕ → List ℕ
build_refused_line number at = pair build_refused number in_place at

-- Rule I6: nodes N leaves L
unfoldable pub built_line : ℕ → ℕ → List ℕ
built_line n l = pair nodes n leaves l

-- Rule I6: ray K hit I t X tests B C: the ray's and the triangle's number, the sixteen hex digits of t's bits, box tests and triangle tests
unfoldable pub hit_line : ℕ → ℕ → ℕ → ℕ → ℕ → List ℕ
hit_line k i x b c = named ray k ++ named hit i ++ distance ++ hexadecimal x ++ pair tests b space c

-- Rule I6: ray K miss tests B C
unfoldable pub miss_line : ℕ → ℕ → ℕ → List ℕ
miss_line k b c = named ray k ++ pair miss b space c

-- Rule I6: ray K refused N
unfoldable pub refused_line : ℕ → ℕ → List ℕ
refused_line k n = pair ray k refused n

-- a walk that was not refused: a hit or a miss
unfoldable pub walked_line : ℕ → Option Hit → ℕ → ℕ → List ℕ
walked_line k (Some h) b c = hit_line k h.triangle (to_bits binary64 h.t) b c
walked_line k None b c = miss_line k b c

unfoldable pub answer_line : ℕ → Refusal → Option Hit → ℕ → ℕ → List ℕ
answer_line k (numbered n at) found b c = refused_line k n
answer_line k none found b c = walked_line k found b c

-- one line a ray
unfoldable pub ray_line : ℕ → Told → List ℕ
ray_line k t = answer_line k t.refusal t.hit t.boxes t.triangles
