-- The walk's answer as plain values (rule W8). Definitions only.
use Rattle.std.specs.Prelude.{ℕ, Option, Some, None}
use Rattle.lent.specs.Ladder.{Refusal, none}
use Rattle.lent.specs.Refusals.{refusal}
use Rattle.triangle.specs.declared.Hit.{Hit}
use Rattle.walk.specs.declared.Answer.{Answer}
use Rattle.walk.specs.declared.Answer.TheVariants.{Struck, Missed, Refused}

-- the refusal if there is one, the hit if there is one, and the two counts
pub record Told : Type 0 where
  pub refusal : Refusal
  pub hit : Option Hit
  pub boxes : ℕ
  pub triangles : ℕ

-- Rule W8: a hit or a miss with what was counted; a refusal alone
unfoldable pub told : Answer → Told
told (Struck h b c) = record { refusal = none; hit = Some h; boxes = b; triangles = c }
told (Missed b c) = record { refusal = none; hit = None; boxes = b; triangles = c }
told (Refused r) = record { refusal = refusal r; hit = None; boxes = 0; triangles = 0 }
