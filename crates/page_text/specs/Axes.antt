-- The two axes of a described container: its columns lie along the horizontal one, its rows along the vertical one.
use Rattle.std.specs.Prelude.{Bool, false, List, Float}
use Rattle.geometry.specs.Shapes.{extent, sides}
use Rattle.geometry.specs.declared.AbsoluteAxis.{AbsoluteAxis}
use Rattle.geometry.specs.declared.AbsoluteAxis.TheVariants.{Horizontal, Vertical}
use Rattle.style.specs.Alignment.{is_rtl}
use Rattle.style.specs.Alignment.{AlignContent}
use Rattle.tracks.specs.Laws.{InRange}
use Rattle.tracks.specs.Tracks.{plus, track_alignment, aligned}
use Rattle.tracks.specs.declared.grid_track.GridTrack.{GridTrack}
use Rattle.tracks.specs.declared.track_alignment.TrackAlignment.{TrackAlignment}
use Rattle.page_text.specs.declared.page_description.ContainerDescription.{ContainerDescription}

-- `justify-content` aligns columns, `align-content` rows
abbrev pub track_style : AbsoluteAxis → ContainerDescription → AlignContent
track_style Horizontal c = c.justify_content
track_style Vertical c = c.align_content

-- columns run from right to left where text does
abbrev pub runs_back : AbsoluteAxis → ContainerDescription → Bool
runs_back Horizontal c = is_rtl c.direction
runs_back Vertical c = false

-- the content box begins at the left or top, after border and padding
abbrev pub origin : AbsoluteAxis → ContainerDescription → Float
origin axis c = plus (sides axis c.padding).start (sides axis c.border).start

abbrev pub shares : AbsoluteAxis → ContainerDescription → List GridTrack → TrackAlignment
shares axis c ts = track_alignment (extent axis c.content_size) (track_style axis c) (runs_back axis c) ts

abbrev pub aligned_along : AbsoluteAxis → ContainerDescription → List GridTrack → List GridTrack
aligned_along axis c ts = aligned (extent axis c.content_size) (origin axis c) (track_style axis c) (runs_back axis c) ts

-- at most 513 tracks, and each number of the axis in limits
abbrev pub AxisInRange : AbsoluteAxis → ContainerDescription → List GridTrack → Type 0
AxisInRange axis c ts = InRange (extent axis c.content_size) (sides axis c.padding) (sides axis c.border) ts
