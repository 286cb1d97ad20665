-- Each number is no NaN, and the next of the mesh's. Assumes nothing.
use mathlib.Core.Path.{refl}
use native.Mathlib.Omega.{arith}
use lib.ListN.{length-set}
use Rattle.stl.proofs.Filling.{admitted_number, number_more, number_end}
use Rattle.stl.proofs.reading.put.Goals as goal

pub loop-k-init : goal.loop-k-init
loop-k-init c = (c.requires.1, refl)

pub number-requires : goal.number-requires
number-requires c = (omega (arith, c.requires.0, c.loop-k-test.true), admitted_number c.args.s.now c.args.at c.requires.2 c.loop-k.k c.loop-k-test.true)

pub loop-k-preserved : goal.loop-k-preserved
loop-k-preserved c =
    let a = c.args in
    let l = c.loop-k in
    (simp length-set l.invariant.0, number_more a.s.now a.at l.out l.k c.number.result l.invariant.0 c.loop-k-test.true c.number.ensures l.invariant.1)

pub returns : goal.returns
returns c =
    let a = c.args in
    let l = c.loop-k in
    number_end a.s.now a.at l.out l.k l.invariant.0 (omega (arith, c.loop-k-test.false)) l.invariant.1
