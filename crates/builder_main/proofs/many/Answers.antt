-- The array is as long as it says. Assumes nothing.
use mathlib.Core.Path.{sym}
use lib.ListN.{length-replicate}
use Rattle.float.specs.Number.{nought}
use Rattle.builder_main.proofs.many.Goals as goal

pub slice_bounds-run-end-2 : goal.slice_bounds-run-end-2
slice_bounds-run-end-2 c = sym (length-replicate 786444 nought)
