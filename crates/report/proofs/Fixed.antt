-- The promises of `survey` and `measure` fix the answer and, of `survey`, the room at the end: any two that they allow for the same arguments are equal. Assumes nothing.
use Prim.Native.Nat.{ℕ}
use mathlib.Core.Path.{◌≡◌, sym, ◌∙◌}
use mathlib.Core.List.{List}
use Rattle.lent.specs.Fixed.{Fixes, FixesAll}
use Rattle.lent.proofs.Fixed.{fixed}
use Rattle.report.proofs.measure.Reads as measure
use Rattle.report.proofs.survey.Reads as survey

pub measure_fixed : Fixes measure.Post
measure_fixed = fixed

pub survey_fixed : FixesAll survey.Post {C = ℕ × List ℕ} (λ κs r e. (r, e.1.0.now))
survey_fixed κs x r r' e e' p q = both (p.0.place ∙ sym q.0.place) (p.0.room ∙ sym q.0.room)
  where
    both : {a b : ℕ} {v w : List ℕ} → a ≡ b → v ≡ w → ◌≡◌ {A = ℕ × List ℕ} (a, v) (b, w)
    both f g = rw (f, g)
