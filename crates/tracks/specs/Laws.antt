-- What is promised of the tracks that alignment leaves, and within which range of numbers.
use Rattle.std.specs.Prelude.{◌≡◌, ◌≤◌, Bool, T, List, map, length, Float}
use Rattle.geometry.specs.declared.Line.{Line}
use Rattle.number.specs.Limits.{in_limits}
use Rattle.number.specs.Sizes.{Bounded, Each}
use Rattle.style.specs.Alignment.{AlignContent}
use Rattle.tracks.specs.Tracks.{plus, base_sizes, starts_odd, in_order}
use Rattle.tracks.specs.Aligned.{Aligned, Apart}
use Rattle.tracks.specs.declared.grid_track.GridTrack.{GridTrack}

-- at most 513 tracks, each number in limits
pub record InRange (content : Float) (padding border : Line Float) (ts : List GridTrack) : Type 0 where
  pub few : length ts ≤ 513
  pub content_size : T (in_limits content)
  pub padding_start : T (in_limits padding.start)
  pub border_start : T (in_limits border.start)
  pub sizes : Each (λ x. T (in_limits x)) (base_sizes ts)

-- us, along an axis that is reversed or not: every offset is finite, and tracks do not overlap
pub record WellPlaced (rev : Bool) (us : List GridTrack) : Type 0 where
  pub offsets_finite : Each (Bounded 39) (map (λ t. t.offset) us)
  pub tracks_apart : Apart (starts_odd rev (length us)) (in_order rev us)

-- ts became us: aligned, as no other list is, and well placed where the numbers are in range
pub record Laws (content : Float) (padding border : Line Float) (style : AlignContent) (rev : Bool) (ts us : List GridTrack) : Type 0 where
  pub aligned : length ts ≤ 513 → Aligned content (plus padding.start border.start) style rev ts us
  pub no_other : (vs : List GridTrack) → Aligned content (plus padding.start border.start) style rev ts vs → vs ≡ us
  pub placed : InRange content padding border ts → WellPlaced rev us
