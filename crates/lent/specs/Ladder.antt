-- The ladder of refusals (section R of docs/RULES.md): a call is refused by the first of its checks that fails. Definitions only.
use Rattle.std.specs.Prelude.{Bool, cond, not, List, [], ◌∷◌, ℕ, ◌/◌, ◌%◌, eqb, ltb, length, Float}
use Rattle.lent.specs.Limits.{most_triangles}

-- a refusal's number and `at`, or none
pub data Refusal : Type 0 where
  none : Refusal
  numbered : ℕ → ℕ → Refusal

-- a test, and the refusal where it fails
pub record Check : Type 0 where
  pub fails : Bool
  pub number : ℕ
  pub at : ℕ

abbrev pub check : Bool → ℕ → ℕ → Check
check fails number at = record { fails = fails; number = number; at = at }

-- the first check that fails
unfoldable pub first_failed : List Check → Refusal
first_failed [] = none
first_failed (c ∷ cs) = cond c.fails (numbered c.number c.at) (first_failed cs)

-- what a call answers: its refusal, or what is served where there is none
unfoldable pub answered : {A : Type 0} → Refusal → (ℕ → ℕ → A) → A → A
answered none refused served = served
answered (numbered number at) refused served = refused number at

unfoldable pub unless : {A : Type 0} → List Check → (ℕ → ℕ → A) → A → A
unless checks refused served = answered (first_failed checks) refused served

-- ---- the checks with which every call over a mesh begins
-- Rule D1: twelve numbers each
abbrev pub triangle_count : List Float → ℕ
triangle_count mesh = length mesh / 12

-- Refusal 1: not in twelves
abbrev pub ragged : List Float → Check
ragged mesh = check (not (eqb (length mesh % 12) 0)) 1 0

-- Refusal 2: too many of them
abbrev pub crowded : List Float → Check
crowded mesh = check (ltb most_triangles (triangle_count mesh)) 2 (triangle_count mesh)

-- of a mesh alone
abbrev pub mesh_checks : List Float → List Check
mesh_checks mesh = ragged mesh ∷ crowded mesh ∷ []

-- Refusal 18: another number of materials, where they are lent beside it
abbrev pub unlabelled : List Float → List ℕ → Check
unlabelled mesh materials = check (not (eqb (length materials) (triangle_count mesh))) 18 0

-- of a mesh with its materials
abbrev pub labelled_checks : List Float → List ℕ → List Check
labelled_checks mesh materials = ragged mesh ∷ crowded mesh ∷ unlabelled mesh materials ∷ []
