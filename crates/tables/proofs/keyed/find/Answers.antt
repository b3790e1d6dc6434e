use Rattle.std.proofs.Common.{arith, rules}
use Rattle.std.proofs.lemmas.Grind.{common_steps}
use Rattle.std.proofs.lemmas.Iterator.{YieldsList-from_slice}
use Rattle.std.proofs.lemmas.Iterator.Search.{find_from_yields_List}
use borrow.Author.Tests.{tests}
use Rattle.tables.proofs.keyed.find.Goals as goal

pub returns : goal.returns
returns g c =
    let first = find_from_yields_List (λ r. g.R.Keyed.fits r c.args.key.now) _ _ c.find.result c.find.ensures.ran (YieldsList-from_slice c.args.records.now cc) (λ x b q k. search (rules, tests)) in
    grind (arith, common_steps)
