use Rattle.std.proofs.Common.{rules}
use Rattle.item_sizing.proofs.Raises.{raise_raise}
use Rattle.item_sizing.proofs.Finals.{sized}
use Rattle.item_sizing.proofs.sizing_item.SizingItem.lay_out.Goals as goal

pub returns-clause-finds : goal.returns-clause-finds
returns-clause-finds g c = record { reply = search rules; asked = record { order = search rules; same = search rules; counts = search (rules, raise_raise) } }

pub returns-clause-law : goal.returns-clause-law
returns-clause-law g c = sized (g.H.LayoutPartialTree.meaning c.args.host.now).means c.args.self _ (search rules)
