-- By the squared length. Assumes nothing.
use Rattle.triangle.proofs.Refilling.{long, short}
use Rattle.triangle.proofs.normals.direction.Goals as goal

pub returns-then-squared : goal.returns-then-squared
returns-then-squared c =
    let d = c.dot-squared in
    long c.args.cross d.result d.ensures c.root.result c.divided.result c.if-squared.true c.root.ensures c.divided.ensures

pub returns : goal.returns
returns c = short c.args.cross c.dot-squared.result c.dot-squared.ensures c.if-squared.false
