use lib.Ieee.{add, sub, mul, div, le, eq, of_int, is_nan}
use Rattle.item_limits.proofs.worked.sides_are_worked.Goals as goal

pub returns : goal.returns
unfolding add sub mul div le eq of_int is_nan
returns c = record { minimum_above_maximum = tt; ratio_of_content_box = tt; two_maxima = tt }
