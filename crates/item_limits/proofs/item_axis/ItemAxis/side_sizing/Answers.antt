use Rattle.std.proofs.Common.{arith}
use Rattle.std.proofs.lemmas.Grind.{common_steps}
use Rattle.item_limits.proofs.ItemAxes.{sized}
use Rattle.item_limits.proofs.item_axis.ItemAxis.side_sizing.Goals as goal

pub returns-clause-law : goal.returns-clause-law
returns-clause-law c = sized c.args.self c.args.size _ (grind (arith, common_steps))
