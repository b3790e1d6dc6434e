-- The list that align_tracks leaves keeps the law of aligned tracks, and no other does.
use Rattle.std.proofs.Common.{◌≡◌, ◌≤◌, Bool, true, false, List, map, reverse, length, sym, ap, ◌∙◌, subst, arith}
use lib.Ieee.{Float}
use Rattle.style.specs.Alignment.{AlignContent}
use Rattle.tracks.specs.Tracks.{live_count, free_space_of, track_alignment, start_place, starts_odd, start_walk, in_order, walked, aligned}
use Rattle.tracks.specs.Aligned.{Chain, Aligned, mark_and_size}
use Rattle.tracks.specs.declared.grid_track.GridTrack.{GridTrack}
use Rattle.tracks.specs.declared.track_alignment.TrackAlignment.{TrackAlignment}
use Rattle.tracks.proofs.Chains.{chain, same_along, map_reverse, only_walk}
use Rattle.tracks.proofs.Counts.{count_bound}
use Rattle.tracks.proofs.Walks.{twice_in_order}
use Rattle.tracks.proofs.Shares.{axis_gaps, gap_sign}

-- marks and sizes in the order of the walk
marks_in_order : (rev : Bool) (ts us : List GridTrack) → map mark_and_size us ≡ map mark_and_size ts → map mark_and_size (in_order rev us) ≡ map mark_and_size (in_order rev ts)
marks_in_order false ts us e = e
marks_in_order true ts us e = map_reverse mark_and_size us ∙ ap reverse e ∙ sym (map_reverse mark_and_size ts)

module _ (content origin : Float) (style : AlignContent) (rev : Bool) (ts : List GridTrack) where
  abbrev alignment : TrackAlignment
  alignment = track_alignment content style rev ts

  abbrev odd : Bool
  odd = starts_odd rev (length ts)

  abbrev walk : List GridTrack
  walk = walked odd (start_walk origin alignment) (in_order rev ts)

  pub aligned_law : length ts ≤ 513 → Aligned content origin style rev ts (aligned content origin style rev ts)
  aligned_law few = record {
    only_offsets_change =
        marks_in_order rev (in_order rev ts) walk (same_along odd (start_walk origin alignment) (in_order rev ts))
        ∙ ap (map mark_and_size) (twice_in_order rev ts);
    in_a_chain = subst (Chain alignment (start_place origin alignment) odd) (sym (twice_in_order rev walk)) (chain origin alignment odd (in_order rev ts));
    gap_not_negative =
        gap_sign (free_space_of content ts) (live_count false ts) alignment.keyword (omega (arith, count_bound ts))
        (axis_gaps (free_space_of content ts) (live_count false ts) style rev);
  }

  pub only_aligned : (us : List GridTrack) → Aligned content origin style rev ts us → us ≡ aligned content origin style rev ts
  only_aligned us a =
      sym (twice_in_order rev us) ∙ ap (in_order rev) (only_walk origin alignment odd (in_order rev ts) (in_order rev us) (marks_in_order rev ts us a.only_offsets_change) a.in_a_chain)
