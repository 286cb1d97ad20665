-- A leaf is counted where it begins and where it ends. Assumes nothing.
use mathlib.Core.Path.{◌∙◌}
use Prim.Native.Nat.{◌+◌, ◌<◌}
use lib.ListN.{length}
use native.Mathlib.Omega.{arith}
use Rattle.accept.specs.inner.Room.{begins, ends}
use Rattle.accept.proofs.Count.{count_most}
use Rattle.accept.proofs.Fills.{balance_leaf, balance_none}
use Rattle.accept.proofs.cover.weigh.Goals as goal

pub more-requires : goal.more-requires
more-requires c =
    λ k l. omega (arith, c.requires.0, c.requires.1, c.requires.2 k l, count_most (begins c.args.links.now (c.args.from + k)) c.args.i)

pub fewer-requires : goal.fewer-requires
fewer-requires c =
    let e = c.more.ensures in
    λ k l. let m : k < length c.args.work.now = omega (arith, e.work_len_unchanged) in omega (arith, c.requires.0, c.requires.2 k m, e.by_index k m, count_most (ends c.args.links.now (c.args.from + k)) c.args.i)

pub returns-then-links-i-eq1-clause-balanced : goal.returns-then-links-i-eq1-clause-balanced
returns-then-links-i-eq1-clause-balanced c =
    let a = c.args in
    let e = c.more.ensures in
    let f = c.fewer.ensures in
    balance_leaf a.links.now a.from a.i a.work.now c.more.new.work c.fewer.new.work c.if-links-i-eq1.true c.requires.2 e.work_len_unchanged (f.work_len_unchanged ∙ e.work_len_unchanged) e.by_index f.by_index

pub returns-else-links-i-eq1-clause-balanced : goal.returns-else-links-i-eq1-clause-balanced
returns-else-links-i-eq1-clause-balanced c =
    let a = c.args in
    balance_none a.links.now a.from a.i a.work.now c.if-links-i-eq1.false c.requires.2
