-- Three numbers, one after the other. Assumes nothing.
use Rattle.stl.proofs.Placing.{vector_is}
use Rattle.stl.proofs.writing.put_vector.Goals as goal

pub returns : goal.returns
returns c =
    let x = c.put_number in
    let y = c.put_number-2 in
    let z = c.put_number-3 in
    vector_is c.args.out.now x.new.out y.new.out z.new.out c.args.a c.requires.0 x.ensures y.ensures z.ensures
