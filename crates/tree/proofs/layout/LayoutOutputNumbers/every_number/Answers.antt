use Rattle.std.proofs.Common.{rules}
use Rattle.tree.proofs.layout.LayoutOutputNumbers.every_number.Goals as goal
use Rattle.tree.proofs.layout.LayoutOutputNumbers.every_number.Goals.{then-every_number, else-every_number}

pub returns-then-every_number-2 : goal.returns-then-every_number-2
returns-then-every_number-2 g c = λ test h.
    let size = c.every_number.ensures test h in
    let baseline = c.every_number-then-every_number-2.ensures test h in
    elim c.if-every_number.branch [
      | then-every_number w ↦ let overflow = w.every_number-then-every_number.ensures test h in search rules
      | else-every_number w ↦ search rules
    ]
