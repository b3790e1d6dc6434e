-- What the definition of the place keeps, the place keeps.
use Rattle.std.proofs.Common.{rules}
use Rattle.item_placing.proofs.Laws.{laws}
use Rattle.item_placing.proofs.place.align_item_within_area.Goals as goal

pub returns-clause-laws : goal.returns-clause-laws
returns-clause-laws c = laws _ _ (search rules)
