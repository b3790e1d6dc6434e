use lib.Ieee.{binary32}
use Rattle.number.proofs.Sizes.{wider, neg_within, add_within, sub_within, mul_within, div_within, share_within, most_within, least_within, total_all}
use Rattle.number.proofs.laws.sizes_hold.Goals as goal

pub returns : goal.returns
returns c = record {
  wider = wider;
  negated = neg_within;
  sums = λ i j k x y h. add_within binary32 i j k x y h.0 h.1;
  differences = λ i j k x y h. sub_within binary32 i j k x y h.0 h.1;
  products = λ i j k l x y h. mul_within binary32 i j k l x y h.0 h.1;
  quotients = λ i j k x y h. div_within binary32 i j k x y h.0 h.1;
  shares = λ i k n x h. share_within binary32 i k n x h.0 h.1;
  larger = most_within;
  smaller = least_within;
  sums_of_many = λ k xs h b. total_all k xs h.0 h.1 b;
}
