use Rattle.std.proofs.Common.{rules}
use Rattle.style.proofs.Ranges.{answered}
use Rattle.style.proofs.range.first_out_of_range.Goals as goal

pub returns : goal.returns
returns c = answered c.args.style.now _ (search rules)
