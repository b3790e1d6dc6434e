use lib.Ieee.{add, sub, le, lt, eq, of_int, of_bits, is_nan}
use Rattle.item_overflow.proofs.worked.contributions_hold.Goals as goal

pub returns : goal.returns
unfolding add sub le lt eq of_int of_bits is_nan
returns c = tt
