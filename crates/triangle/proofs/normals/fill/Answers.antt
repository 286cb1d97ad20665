-- What is left to fill gives the whole. Assumes nothing.
use mathlib.Core.Path.{refl, sym, ap, ◌∙◌}
use Prim.Native.Nat.{◌+◌, ◌-◌, ◌/◌}
use native.Mathlib.Omega.{arith}
use mathlib.Core.List.{List}
use lib.ListN.{length}
use lib.Ieee.{Float}
use Rattle.triangle.specs.Refilled.{filled_from}
use Rattle.triangle.proofs.Refilling.{fill_start, fill_go, fill_end, length_filled}
use Rattle.triangle.proofs.normals.fill.Goals as goal

pub loop-i-init : goal.loop-i-init
loop-i-init c = let m = c.args.mesh.now in (refl, fill_start m (length m / 12))

pub fill_one-requires : goal.fill_one-requires
fill_one-requires c = omega (arith, c.loop-i.invariant.0, c.loop-i-test.true)

pub loop-i-smaller : goal.loop-i-smaller
loop-i-smaller c = omega arith

pub loop-i-preserved : goal.loop-i-preserved
loop-i-preserved c =
    let n = length c.args.mesh.now / 12 in
    let l = c.loop-i in
    let e = c.fill_one.ensures in (
      ap length e ∙ length_filled l.mesh l.i ∙ l.invariant.0,
      ap (λ (m : List Float). filled_from m (l.i + 1) (n - (l.i + 1))) e ∙ sym (fill_go l.mesh l.i n c.loop-i-test.true) ∙ l.invariant.1,
    )

pub shape_of-mesh : goal.shape_of-mesh
shape_of-mesh c = c.loop-i.invariant.0

pub returns : goal.returns
returns c =
    let l = c.loop-i in
    sym (fill_end l.mesh l.i (length c.args.mesh.now / 12) c.loop-i-test.false) ∙ l.invariant.1
