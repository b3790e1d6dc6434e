use Rattle.std.proofs.Common.{refl}
use Rattle.tables.proofs.Meant.{meant_stored}
use Rattle.text_host.specs.Computed.{computed_by}
use Rattle.text_host.proofs.host.TextHostLayoutPartialTree.store.Goals as goal

-- no text changes, so what the host means beside the stored layouts stays
pub returns-clause-change : goal.returns-clause-change
returns-clause-change c = rw (← c.self.view_is) (meant_stored (λ t. t.node) computed_by (λ _ _. refl) c.self.inside.texts c.store.new.self c.args.node c.args.layout.now c.store.ensures.records c.store.ensures.layouts)
