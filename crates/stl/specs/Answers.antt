-- What a reading and a writing answer: the rules' number and values for every case, and what the lent room holds at the end (rules L4, L5). Definitions only.
use Rattle.std.specs.Prelude.{ℕ, List, Float, Result, Ok, Err}
use Rattle.lent.specs.Ladder.{Refusal, none, numbered}
use Rattle.lent.specs.declared.refusal.Refused.{Refused}
use Rattle.lent.specs.Refusals.{number}

-- the refusal if there is one, and how many triangles were read, or bytes written
pub record Told : Type 0 where
  pub refusal : Refusal
  pub count : ℕ

abbrev pub served : ℕ → Told
served count = record { refusal = none; count = count }

abbrev pub refused : ℕ → ℕ → Told
refused number at = record { refusal = numbered number at; count = 0 }

-- Its answer is one of: how many, a refusal
unfoldable pub told : Result ℕ Refused → Told
told (Ok count) = served count
told (Err r) = refused (number r.reason) r.at

-- of a reading, with the triangle room and the material room
pub record Read : Type 0 where
  pub answer : Told
  pub triangles : List Float
  pub materials : List ℕ

abbrev pub read_as : Told → List Float → List ℕ → Read
read_as answer triangles materials = record { answer = answer; triangles = triangles; materials = materials }

-- of a writing, with the file
pub record Written : Type 0 where
  pub answer : Told
  pub file : List ℕ

abbrev pub written_as : Told → List ℕ → Written
written_as answer file = record { answer = answer; file = file }
