-- After i nodes the room counts those below i. Assumes nothing.
use lib.ListN.{length}
use Rattle.accept.proofs.Fills.{balance_start}
use Rattle.accept.proofs.cover.balance.Goals as goal

pub loop-i-init : goal.loop-i-init
loop-i-init c =
    let a = c.args in
    balance_start a.links.now c.fill.new.self a.from (length a.work.now) (c.fill.ensures.after (λ y e. e))
