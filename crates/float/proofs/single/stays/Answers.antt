-- A number is a binary32 just where the one that its pattern points to is that number again. Assumes nothing.
use Rattle.float.proofs.Cases.{true_is}
use Rattle.float.proofs.SingleExact.{real_number, widens, exact_is}
use Rattle.float.proofs.single.stays.Goals as goal

pub float_to_bits-pattern : goal.float_to_bits-pattern
float_to_bits-pattern c = c.requires

pub float_to_float-result : goal.float_to_float-result
float_to_float-result c = widens c.candidate.result c.candidate.ensures.0

pub float_to_bits-result : goal.float_to_bits-result
float_to_bits-result c = real_number c.candidate.result c.candidate.ensures.0

pub returns : goal.returns
returns c = exact_is c.args.x c.candidate.result (true_is _ c.well_formed.0.1) c.requires c.candidate.ensures
