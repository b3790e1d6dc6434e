use Rattle.std.proofs.Common.{◌≡◌, sym, ◌∙◌, subst, rules}
use Rattle.tracks.specs.Tracks.{plus, aligned}
use Rattle.tracks.specs.Aligned.{Aligned}
use Rattle.tracks.specs.Laws.{WellPlaced}
use Rattle.tracks.proofs.Laws.{aligned_law, only_aligned}
use Rattle.tracks.proofs.Finite.{well_placed}
use Rattle.tracks.proofs.walk.align_tracks.Goals as goal

pub returns : goal.returns
returns c =
    let content = c.args.grid_container_content_box_size in
    let padding = c.args.padding in
    let border = c.args.border in
    let origin = plus padding.start border.start in
    let style = c.args.track_alignment_style in
    let rev = c.args.axis_is_reversed in
    let ts = c.args.tracks.now in
    let value : c.walk_tracks.new.tracks ≡ aligned content origin style rev ts = search rules in
    record {
      value = value;
      laws = record {
        aligned = λ few. subst (Aligned content origin style rev ts) (sym value) (aligned_law content origin style rev ts few);
        no_other = λ us a. only_aligned content origin style rev ts us a ∙ sym value;
        placed = λ r. subst (WellPlaced rev) (sym value) (well_placed content padding border style rev ts r);
      };
    }
