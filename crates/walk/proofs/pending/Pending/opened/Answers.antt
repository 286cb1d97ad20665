-- Right is stored in the last one's place and left behind it. Assumes nothing.
use mathlib.Core.Path.{refl}
use Rattle.walk.proofs.PendingList.{both_pending}
use Rattle.walk.proofs.pending.Pending.opened.Goals as goal

pub returns : goal.returns
returns c = let e = both_pending _ _ _ _ _ c.requires.0 c.requires.1 c.requires.2 in (refl, e.0, e.1)
