-- A build's answer: the rules' number and values for every case (rules C8, C9). Definitions only.
use Rattle.std.specs.Prelude.{ℕ, Result, Ok, Err}
use Rattle.lent.specs.Ladder.{Refusal, none, numbered}
use Rattle.builder.specs.declared.Built.{Built}
use Rattle.lent.specs.Refusals.{number}
use Rattle.lent.specs.declared.refusal.Refused.{Refused}

-- the refusal if there is one, the node count and the leaf count
pub record Reply : Type 0 where
  pub refusal : Refusal
  pub nodes : ℕ
  pub leaves : ℕ

abbrev pub served_reply : ℕ → ℕ → Reply
served_reply nodes leaves = record { refusal = none; nodes = nodes; leaves = leaves }

abbrev pub refused_reply : ℕ → ℕ → Reply
refused_reply number at = record { refusal = numbered number at; nodes = 0; leaves = 0 }

-- Its answer is one of: a tree with its counts, a refusal
unfoldable pub reply : Result Built Refused → Reply
reply (Ok b) = served_reply b.nodes b.leaves
reply (Err r) = refused_reply (number r.reason) r.at
