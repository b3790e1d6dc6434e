use lib.Ieee.{add, sub, div, le, lt, eq, of_int, of_bits, is_nan}
use Rattle.worked.proofs.pages_hold.Goals as goal

pub returns : goal.returns
unfolding add sub div le lt eq of_int of_bits is_nan
returns c = tt
