use lib.Ieee.{binary32}
use Rattle.number.proofs.Signs.{div_sign, add_sign, mul_sign, sub_sign, most_zero}
use Rattle.number.proofs.laws.signs_hold.Goals as goal

pub returns : goal.returns
returns c = record {
  quotients = div_sign binary32;
  sums = add_sign binary32;
  products = mul_sign binary32;
  differences = sub_sign binary32;
  clipped = most_zero;
}
