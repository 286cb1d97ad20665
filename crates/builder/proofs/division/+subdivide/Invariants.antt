-- The depth that is left goes down.
use Rattle.builder.proofs.division.+subdivide.Given as goal

abbrev pub decreases-subdivide : goal.decreases-subdivide
decreases-subdivide l = l.below
