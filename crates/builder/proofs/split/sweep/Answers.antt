-- First the right sides, from the right end; then the boundaries from i on, with what is to the left joined, give the whole sweep. Assumes nothing.
use mathlib.Core.Path.{refl, sym, ◌∙◌, ap}
use Prim.Native.Nat.{◌+◌, ◌-◌}
use native.Mathlib.Omega.{arith}
use lib.ListN.{drop, get_or, length-replicate, length-set}
use Rattle.float.specs.Number.{nought}
use Rattle.builder.specs.declared.bins.Bin.{Bin}
use Rattle.builder.specs.declared.split.Side.{Side}
use Rattle.builder.specs.Bins.{blank, suffix_of}
use Rattle.builder.specs.Choice.{sweep_from}
use Rattle.builder.proofs.Choosing.{sweep_end, sweep_next}
use Rattle.builder.proofs.Sweeping.{join_number, none_number, side_number, side_weight, sides_most, sides_next, sides_start, suffix_next, suffix_start}
use Rattle.builder.proofs.split.sweep.Goals as goal

pub loop-k-init : goal.loop-k-init
loop-k-init c =
    let bs = c.args.bins.now in
    (length-replicate {A = Side} 16 (record { count = 0; weight = nought }), omega arith, omega (arith, none_number c.none-run.result c.none-run.ensures.0), c.none-run.ensures.1, suffix_start bs c.none-run.result c.none-run.ensures.0 c.requires.long, sides_start bs _)

pub joined-run-requires : goal.joined-run-requires
joined-run-requires c =
    let l = c.loop-k in
    let v = l.invariant in
    (omega (arith, v.1, v.2, c.requires.most (l.k - 1) (omega (arith, v.1, c.loop-k-test.true)), c.loop-k-test.true), v.3)

pub loop-k-preserved : goal.loop-k-preserved
loop-k-preserved c =
    let l = c.loop-k in
    let v = l.invariant in
    let t = c.loop-k-test.true in
    let r = c.joined-run in
    let bs = c.args.bins.now in
    let e = suffix_next bs l.run r.result (get_or bs (l.k - 1) blank) l.k (omega (arith, t)) (omega (arith, c.requires.long, v.1)) v.4 refl r.ensures.0 in
    (length-set l.sides _ _ ∙ v.0, omega (arith, v.1), omega (arith, v.1, v.2, t, c.requires.most (l.k - 1) (omega (arith, v.1, t)), join_number l.run (get_or bs (l.k - 1) blank) r.result r.ensures.0), r.ensures.1, e, sides_next bs l.sides r.result l.k c.weight.result (omega (arith, t)) v.1 v.0 e c.weight.ensures v.5)

pub loop-i-init : goal.loop-i-init
loop-i-init c =
    let a = c.args in
    let l = c.loop-k in
    let v = l.invariant in
    let bs = a.bins.now in
    (v.0, omega arith, omega (arith, none_number c.none-left.result c.none-left.ensures.0), c.none-left.ensures.1, ap (λ (z : Bin). sweep_from a.on.axis a.on.min a.on.width a.on.parent a.best z bs 0) c.none-left.ensures.0, sides_most bs l.sides l.k 1 c.loop-k-test.false v.5)

pub joined-left-requires : goal.joined-left-requires
joined-left-requires c =
    let l = c.loop-i in
    let v = l.invariant in
    (omega (arith, v.2, c.requires.most l.i (omega (arith, c.loop-i-test.true)), c.loop-i-test.true), v.3)

pub loop-i-preserved : goal.loop-i-preserved
loop-i-preserved c =
    let a = c.args in
    let l = c.loop-i in
    let v = l.invariant in
    let t = c.loop-i-test.true in
    let r = c.joined-left in
    let bs = a.bins.now in
    let b = get_or bs l.i blank in
    let sides = c.loop-k.sides in
    (v.0, omega (arith, t), omega (arith, v.2, c.requires.most l.i (omega (arith, t)), join_number l.left b r.result r.ensures.0), r.ensures.1, sweep_next a.on.axis a.on.min a.on.width a.on.parent l.most c.better-most.result l.left r.result b bs l.i _ c.requires.long t refl r.ensures.0 (c.better-most.ensures (suffix_of (drop (l.i + 1) bs)) (side_number bs sides 1 (l.i + 1) v.5 (omega arith) (omega (arith, t))) (side_weight bs sides 1 (l.i + 1) v.5 (omega arith) (omega (arith, t)))) v.4, v.5)

pub returns : goal.returns
returns c =
    let a = c.args in
    let l = c.loop-i in
    sym (sweep_end a.on.axis a.on.min a.on.width a.on.parent l.most l.left a.bins.now l.i c.requires.long l.invariant.1 c.loop-i-test.false) ∙ l.invariant.4
