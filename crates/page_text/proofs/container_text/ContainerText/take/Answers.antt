use Rattle.page_text.proofs.Places.{still}
use Rattle.page_text.proofs.container_text.ContainerText.take.Goals as goal

pub invariant_of-self-in-Padding-clause-padding_said : goal.invariant_of-self-in-Padding-clause-padding_said
invariant_of-self-in-Padding-clause-padding_said c = still _ _ _ _ c.fill-in-Padding.ensures.place c.args.self.now.padding_said c.read_sides.ensures

pub invariant_of-self-in-Border-clause-border_said : goal.invariant_of-self-in-Border-clause-border_said
invariant_of-self-in-Border-clause-border_said c = still _ _ _ _ c.fill-in-Border.ensures.place c.args.self.now.border_said c.read_sides-in-Border.ensures

pub invariant_of-self-in-JustifyContent-clause-columns_said : goal.invariant_of-self-in-JustifyContent-clause-columns_said
invariant_of-self-in-JustifyContent-clause-columns_said c =
    still _ _ _ _ c.fill-in-JustifyContent.ensures.place c.args.self.now.columns_said c.read_track_alignment.ensures

pub invariant_of-self-in-AlignContent-clause-rows_said : goal.invariant_of-self-in-AlignContent-clause-rows_said
invariant_of-self-in-AlignContent-clause-rows_said c =
    still _ _ _ _ c.fill-in-AlignContent.ensures.place c.args.self.now.rows_said c.read_track_alignment-in-AlignContent.ensures
