use Rattle.std.proofs.Common.{arith}
use Rattle.std.proofs.lemmas.Grind.{common_steps}
use Rattle.item_limits.specs.Limits.{adjustment_of}
use Rattle.item_limits.proofs.Held.{limits_ordered}
use Rattle.item_limits.proofs.limits.Limits.of_style.Goals as goal

pub returns-clause-law : goal.returns-clause-law
returns-clause-law c =
    let p = c.args.padding_border in
    limits_ordered c.args.min c.args.max p (adjustment_of c.args.box_sizing p) _ (grind (arith, common_steps))
