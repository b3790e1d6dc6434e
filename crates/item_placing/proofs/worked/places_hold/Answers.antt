use lib.Ieee.{add, sub, div, le, lt, eq, neg, of_int, of_bits, is_nan}
use Rattle.item_placing.proofs.worked.places_hold.Goals as goal

pub returns : goal.returns
unfolding add sub div le lt eq neg of_int of_bits is_nan
returns c = record { items_in_flow_stand = tt; items_out_of_flow_stand = tt; relative_items_move = tt }
