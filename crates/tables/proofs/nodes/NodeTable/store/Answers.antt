use Rattle.std.proofs.Common.{◌≡◌, None, Err, Result, sym, ap, ◌∙◌}
use Rattle.std.proofs.lemmas.Result.{err_from_is_err_and}
use Rattle.std.specs.Option.{ok_or}
use Rattle.std.specs.Result.{result_ok}
use Rattle.tree.specs.Faults.{unknown_node}
use Rattle.tables.proofs.Stored.{first_at, stored, missed}
use Rattle.tables.proofs.nodes.NodeTable.store.Goals as goal

same_err : {A E : Type 0} (e f : E) → ◌≡◌ {A = Result A E} (Err e) (Err f) → e ≡ f
same_err e f same = cc

pub returns : goal.returns
returns g c =
    let at = rw c.deref.ensures.value at (sym c.first_place.ensures ∙ c.ok_or.ensures.ok_part ∙ ap result_ok c.in_ok-place.was) in
    let s = stored g.R.OfNode.names c.self.inside.slots.items c.args.node c.in_ok-place.place c.index_mut.result.now c.args.layout.now (first_at _ _ _ at) c.index_mut.ensures.value (unknown_node c.args.node None) in
    rw (← c.self.view_is) (record { answer = s.answer; records = s.records; layouts = s.layouts })

pub returns-in_err-place : goal.returns-in_err-place
returns-in_err-place g c =
    let nowhere = c.ok_or.ensures.ok_part ∙ ap result_ok c.in_err-place.was in
    let at = rw (c.deref.ensures.value, c.self.view_is) at (sym c.first_place.ensures ∙ nowhere) in
    let s = missed g.R.OfNode.names c.args.self.now c.args.node c.args.layout.now (unknown_node c.args.node None) at in
    let p = err_from_is_err_and c.from_residual.result c.from_residual.ensures.1 in
    let fault = same_err _ _ (sym c.in_err-place.was ∙ c.ok_or.ensures.value ∙ ap (λ o. ok_or o c.about-unknown.result) nowhere ∙ ap (λ f. Err f) c.about-unknown.ensures) in
    record { answer = rw (p.1, p.2) (ap (λ f. Err f) fault ∙ s.answer); records = s.records; layouts = s.layouts }
