use Rattle.std.proofs.Common.{refl}
use Rattle.tables.proofs.Meant.{meant_stored}
use Rattle.recorded_host.specs.Recorded.{tables_of, recorded_by}
use Rattle.recorded_host.proofs.host.RecordedHostLayoutPartialTree.store.Goals as goal

-- no record changes, so what the host means beside the stored layouts stays
pub returns-clause-change : goal.returns-clause-change
returns-clause-change c = rw (← c.self.view_is) (meant_stored (λ r. r.node) (recorded_by (tables_of c.self.inside)) (λ _ _. refl) c.self.inside.nodes c.store.new.self c.args.node c.args.layout.now c.store.ensures.records c.store.ensures.layouts)
