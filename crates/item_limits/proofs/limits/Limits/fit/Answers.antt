use Rattle.std.proofs.Common.{arith}
use Rattle.std.proofs.lemmas.Grind.{common_steps}
use Rattle.item_limits.proofs.Held.{clamped_fits}
use Rattle.item_limits.proofs.limits.Limits.fit.Goals as goal

pub returns-clause-law : goal.returns-clause-law
returns-clause-law c = clamped_fits c.args.self c.args.length _ (grind (arith, common_steps))
