use Rattle.std.specs.Float.Order.{le_refl, le_trans}
use Rattle.number.proofs.Order.{le_total, le_most_left, le_most_right, most_least, least_le_left, least_le_right, least_most}
use Rattle.number.proofs.laws.order_holds.Goals as goal

pub returns : goal.returns
returns c = record {
  reflexive = le_refl;
  transitive = le_trans;
  total = le_total;
  most_above_first = le_most_left;
  most_above_second = le_most_right;
  most_is_least = most_least;
  least_below_first = least_le_left;
  least_below_second = least_le_right;
  least_is_greatest = least_most;
}
