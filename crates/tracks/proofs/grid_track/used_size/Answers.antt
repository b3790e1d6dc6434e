use Rattle.std.proofs.Common.{◌≡◌, List, [], ◌∷◌, refl, ◌∙◌, rules}
use lib.Ieee.{Float}
use Rattle.std.specs.List.{fold}
use Rattle.std.proofs.lemmas.Iterator.{YieldsList-from_slice}
use Rattle.std.proofs.lemmas.Iterator.Consumers.{fold_from_yields_List}
use Rattle.number.specs.Sizes.{total_from}
use Rattle.tracks.specs.Distribution.{zero}
use Rattle.tracks.specs.Tracks.{plus, base_sizes}
use Rattle.tracks.specs.declared.grid_track.GridTrack.{GridTrack}
use Rattle.tracks.proofs.grid_track.used_size.Goals as goal

abbrev with_next : Float → GridTrack → Float
with_next used t = plus used t.base_size

total_by_fold : (used : Float) (ts : List GridTrack) → fold with_next used ts ≡ total_from used (base_sizes ts)
total_by_fold used [] = refl
total_by_fold used (t ∷ ts) = total_by_fold (with_next used t) ts

pub returns : goal.returns
returns c =
    let ts = c.args.tracks.now in
    fold_from_yields_List _ with_next zero c.fold.result c.fold.ensures.ran (YieldsList-from_slice ts (search rules)) (λ a x b q d. search rules) ∙ total_by_fold zero ts
