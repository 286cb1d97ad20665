-- The first k places are those of the rays walked, and the rest of the room is as it was. Assumes nothing.
use mathlib.Core.Path.{◌≡◌}
use mathlib.Core.List.{◌++◌}
use Prim.Native.Nat.{◌*◌}
use lib.ListN.{drop}
use Rattle.lent.specs.Flat.{records}
use Rattle.sky.specs.Sky.{times_for, told_for}
use Rattle.sky.proofs.fill.Given as goal

abbrev pub invariant-loop-k : goal.invariant-loop-k
invariant-loop-k l = record {
  times_so_far : l.times ≡ records (times_for l.scene l.rays) l.k ++ drop (l.k * 3) l.initial.times;
  told_so_far : l.told ≡ records (told_for l.scene l.rays) l.k ++ drop (l.k * 5) l.initial.told;
}
