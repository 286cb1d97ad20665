-- What it is for a call's promise to fix what the call does. Definitions only.
use Rattle.std.specs.Prelude.{◌≡◌}

-- The promise, `FUNCTION.Reads.Post` of the call's crate, speaks of the lifetimes, the arguments, the answer and the parameters at exit. It fixes the answer
-- where any two that it allows for the same arguments are equal
pub record Fixes {L : Type 0} {X R E : L → Type 0} (Promise : (κs : L) → X κs → R κs → E κs → Type 0) : Type 0 where
  pub same : (κs : L) (x : X κs) (r r' : R κs) (e e' : E κs) → Promise κs x r e → Promise κs x r' e' → r ≡ r'

-- and all that is seen of the answer and of what was lent to be written
module _ {L : Type 0} {X R E : L → Type 0} (Promise : (κs : L) → X κs → R κs → E κs → Type 0) where
  abbrev pub FixesAll : {C : Type 0} → ((κs : L) → R κs → E κs → C) → Type 0
  FixesAll seen = (κs : L) (x : X κs) (r r' : R κs) (e e' : E κs) → Promise κs x r e → Promise κs x r' e' → seen κs r e ≡ seen κs r' e'
