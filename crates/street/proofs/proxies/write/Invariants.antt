-- The first i proxies are written, and the rest of the room is as it was. Assumes nothing.
use mathlib.Core.Path.{◌≡◌}
use mathlib.Core.List.{◌++◌}
use Prim.Native.Nat.{◌*◌}
use lib.ListN.{length, drop}
use Rattle.lent.specs.Flat.{records}
use Rattle.street.specs.Making.{proxy_numbers}
use Rattle.street.proofs.proxies.write.Given as goal

abbrev pub invariant-loop-i : goal.invariant-loop-i
invariant-loop-i l = (length l.room ≡ length l.initial.room) × (l.room ≡ records (proxy_numbers l.matrices l.root) l.i ++ drop (l.i * 12) l.initial.room)
