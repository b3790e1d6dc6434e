use lib.Ieee.{binary32}
use Rattle.number.proofs.Monotone.{add_mono, sub_mono}
use Rattle.number.proofs.Grows.{add_grows}
use Rattle.number.proofs.laws.sums_are_monotone.Goals as goal

pub returns : goal.returns
returns c = record { sums = add_mono binary32; differences = sub_mono binary32; grows = add_grows binary32 }
