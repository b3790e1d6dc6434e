use Rattle.std.proofs.Common.{rules}
use Rattle.item_limits.proofs.RatioBoxes.{limited_held}
use Rattle.item_limits.proofs.ratio_box.AspectRatio.limited.Goals as goal

pub returns-clause-law : goal.returns-clause-law
returns-clause-law c = limited_held c.args.self c.args.natural c.zip_map.result (search rules)
