use Rattle.std.proofs.Common.{refl}
use lib.Ieee.{div, neg, of_int, of_bits, to_unsigned}
use Rattle.text_host.specs.Texts.{text_size}
use Rattle.text_host.proofs.laws.worked_text_holds.Goals as goal

pub returns : goal.returns
unfolding text_size div neg of_int of_bits to_unsigned
returns c = λ s. record {
  definite = refl;
  negative = refl;
  min_content = refl;
  max_content = refl;
  known_width = refl;
  both_known = refl;
  no_letters = refl;
  infinite = refl;
  out_of_bounds = refl;
}
