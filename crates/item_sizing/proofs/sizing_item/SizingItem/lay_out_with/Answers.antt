use Rattle.std.proofs.Common.{◌≡◌, ℕ, ap, sym, ◌∙◌, rules}
use Rattle.tree.specs.Meaning.{raise}
use Rattle.item_sizing.specs.LaidOut.{laid_out_with}
use Rattle.item_sizing.proofs.Raises.{raise_raise}
use Rattle.item_sizing.proofs.sizing_item.SizingItem.lay_out_with.Goals as goal

pub returns-in_err-output : goal.returns-in_err-output
returns-in_err-output g c =
    let t = g.H.LayoutPartialTree.tallied c.args.host.now in
    let f = laid_out_with (g.H.LayoutPartialTree.meaning c.args.host.now).means c.args.self c.args.known in
    let one : f.measurements ≡ 1 = search rules in
    let layout : f.layouts ≡ 1 = search rules in
    record {
      reply = search rules;
      asked = record {
        order = search rules;
        same = search rules;
        counts =
            c.perform_layout.ensures.asked.counts ∙ ap (raise 0 1) c.measure.ensures.asked.counts ∙ raise_raise 1 0 0 1 t
            ∙ ap (λ (n : ℕ). raise n 1 t) (sym one) ∙ ap (λ (n : ℕ). raise f.measurements n t) (sym layout);
      };
    }
