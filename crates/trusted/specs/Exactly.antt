-- What is signed of the call that accepts (rule G7): it accepts exactly the lists that hold a tree as rule G2 asks of one, which are those that break no condition. Definitions only.
use Rattle.std.specs.Prelude.{◌≡◌, List, ℕ, length, replicate}
use Rattle.tree.specs.Lent.{Lent}
use Rattle.tree.specs.Tree.{Tree}
use Rattle.tree.specs.Accepted.{Accepted}
use Rattle.accept.specs.Accept.{Verdict, fine}
use Rattle.trusted.specs.Meets.{Sound, Roomy, Meets}

-- what a call's promise gives, of its arguments, its answer and the parameters at exit
module _ {L : Type 0} {X R E : L → Type 0} (Promise : (κs : L) → X κs → R κs → E κs → Type 0) where
  abbrev pub Gives : ((κs : L) → X κs → R κs → E κs → Type 0) → Type 0
  Gives P = (κs : L) (x : X κs) (r : R κs) (e : E κs) → Promise κs x r e → P κs x r e

-- the lists hold a tree that is accepted
pub record Trusted (s : Lent) : Type 0 where
  pub tree : Tree
  pub accepted : Accepted s tree

-- of the answer to lists and a work room, and of the room at the end
pub record Exactly (s : Lent) (work : List ℕ) (answer : Verdict) (after : List ℕ) : Type 0 where
  -- accepted exactly if no check fails and no condition breaks
  pub breaks_none : answer ≡ fine → Sound s × Roomy s work × Meets s
  pub none_breaks : Sound s → Roomy s work → Meets s → answer ≡ fine
  -- accepted exactly if the lists hold a tree as rule G2 asks of one, and the room suffices
  pub holds_tree : answer ≡ fine → Trusted s
  pub tree_held : Trusted s → Roomy s work → answer ≡ fine
  -- and then the whole room is zero
  pub zeroed : answer ≡ fine → after ≡ replicate (length work) 0
