-- A promise that the answer equals a definition of the arguments fixes the answer. Assumes nothing.
use mathlib.Core.Path.{◌≡◌, sym, ◌∙◌}
use Rattle.lent.specs.Fixed.{Fixes}

pub fixed : {L : Type 0} {X R E : L → Type 0} {d : (κs : L) → X κs → R κs} → Fixes {L = L} {X = X} {R = R} {E = E} (λ κs x r e. r ≡ d κs x)
fixed = record { same = λ κs x r r' e e' p q. p ∙ sym q }
