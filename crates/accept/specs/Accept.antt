-- Whether a tree that was built elsewhere is accepted (rules J1 to J9): what the call answers and leaves in the lent work room, on every input. Definitions only.
use Rattle.std.specs.Prelude.{ℕ, ◌+◌, cond, List, [], ◌∷◌, ltb, length, replicate, Option, Some, None, Result, Ok, Err}
use Rattle.lent.specs.Ladder.{Refusal, none, numbered, Check, check, unless, ragged, crowded}
use Rattle.lent.specs.Lowest.{lowest}
use Rattle.lent.specs.Refusals.{refusal}
use Rattle.triangle.specs.Mesh.{first_refused, unadmitted}
use Rattle.tree.specs.Lent.{Lent}
use Rattle.tree.specs.Node.{misfit}
use Rattle.accept.specs.declared.rejection.Condition.{Condition}
use Rattle.accept.specs.declared.rejection.Condition.TheVariants.{Faultless, OneParent, Reached, Covered, Permutation, Enclosed}
use Rattle.accept.specs.declared.rejection.Rejection.{Rejection}
use Rattle.accept.specs.declared.rejection.Rejection.TheVariants.{Refused, Broken}
use Rattle.accept.specs.Conditions.{nodes, meshed, breaks_1, breaks_2, breaks_3, breaks_4, breaks_5, breaks_6}

-- what the call answers: accepted, or why not
abbrev pub Verdict : Type 0
Verdict = Result Unit Rejection

abbrev pub fine : Verdict
fine = Ok tt

-- ---- the conditions, in their order: the first that breaks, and the lowest place where it does
-- Refusal 19: a condition breaks at a place
abbrev pub broken : Condition → ℕ → Verdict
broken c i = Err (Broken c i)

-- a condition broken at a place, or what the conditions after it say
abbrev pub else : Condition → Option ℕ → Verdict → Verdict
else c (Some i) after = broken c i
else c None after = after

-- Rule J6: the list's length, where only entries are lacking
unfoldable pub lacking : ℕ → List ℕ → Option ℕ → Option ℕ
lacking n index (Some p) = Some p
lacking n index None = cond (ltb (length index) n) (Some (length index)) None

-- the conditions from each on: nodes for (i), (ii), (iii) and (vi), entries of the index list for (iv) and (v)
unfoldable pub from_6 : Lent → Verdict
from_6 s = else Enclosed (lowest (breaks_6 s) 0 (nodes s)) fine

unfoldable pub from_5 : Lent → Verdict
from_5 s = else Permutation (lacking (meshed s) s.tree.index (lowest (breaks_5 s) 0 (length s.tree.index))) (from_6 s)

unfoldable pub from_4 : Lent → Verdict
from_4 s = else Covered (lowest (breaks_4 s) 0 (length s.tree.index)) (from_5 s)

unfoldable pub from_3 : Lent → Verdict
from_3 s = else Reached (lowest (breaks_3 s) 0 (nodes s)) (from_4 s)

unfoldable pub from_2 : Lent → Verdict
from_2 s = else OneParent (lowest (breaks_2 s) 0 (nodes s)) (from_3 s)

-- Rule J8
unfoldable pub judged : Lent → Verdict
judged s = else Faultless (lowest (breaks_1 s) 0 (nodes s)) (from_2 s)

-- ---- the call
-- Rule J1: accepted, or a refusal's number and `at`; with 19 also the condition's number, else 0
pub record Ruling : Type 0 where
  pub refusal : Refusal
  pub condition : ℕ

abbrev pub number : Condition → ℕ
number Faultless = 1
number OneParent = 2
number Reached = 3
number Covered = 4
number Permutation = 5
number Enclosed = 6

abbrev pub other : Refusal → Ruling
other r = record { refusal = r; condition = 0 }

unfoldable pub ruling : Verdict → Ruling
ruling (Ok u) = other none
ruling (Err (Refused r)) = other (refusal r)
ruling (Err (Broken c at)) = record { refusal = numbered 19 at; condition = number c }

-- the answer, and what the work room holds at the end
pub record Outcome : Type 0 where
  pub answer : Ruling
  pub work : List ℕ

abbrev pub outcome : Ruling → List ℕ → Outcome
outcome answer work = record { answer = answer; work = work }

-- Rule J9: 1, 2, 8, then 16 for room of less than one number a node and a triangle, then 5
abbrev pub checks : Lent → ℕ → List Check
checks s room =
    ragged s.mesh.triangles
    ∷ crowded s.mesh.triangles
    ∷ check (misfit s.tree.boxes s.tree.links) 8 0
    ∷ check (ltb room (nodes s + meshed s)) 16 0
    ∷ unadmitted (first_refused s.mesh.triangles 0 (meshed s))
    ∷ []

-- Rule J9: where one of them fails nothing is written. After them the conditions are judged, and the whole room is zero at the end, whatever they say
unfoldable pub accepted : Lent → List ℕ → Outcome
accepted s work =
    unless (checks s (length work)) (λ number at. outcome (other (numbered number at)) work) (outcome (ruling (judged s)) (replicate (length work) 0))
