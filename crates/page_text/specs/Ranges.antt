-- The range of what a container says: its sizes, its sides and its alignments.
use Rattle.std.specs.Prelude.{Bool, true, false, T, Float}
use Rattle.geometry.specs.declared.Rect.{Rect}
use Rattle.style.specs.Alignment.{AlignContent}
use Rattle.style.specs.declared.alignment.AlignContentKeyword.{AlignContentKeyword}
use Rattle.style.specs.declared.alignment.AlignContentKeyword.TheVariants.{Normal, Start, End, FlexStart, FlexEnd, Center, Stretch, SpaceBetween, SpaceEvenly, SpaceAround}
use Rattle.page_words.specs.WrittenSizes.{size_in_range}

abbrev pub SizeInRange : Float → Type 0
SizeInRange x = T (size_in_range x)

pub record SidesInRange (r : Rect Float) : Type 0 where
  pub left_side : SizeInRange r.left
  pub right_side : SizeInRange r.right
  pub top_side : SizeInRange r.top
  pub bottom_side : SizeInRange r.bottom

-- `normal` says nothing of how tracks are aligned
abbrev pub aligns : AlignContentKeyword → Bool
aligns Normal = false
aligns Start = true
aligns End = true
aligns FlexStart = true
aligns FlexEnd = true
aligns Center = true
aligns Stretch = true
aligns SpaceBetween = true
aligns SpaceEvenly = true
aligns SpaceAround = true

abbrev pub Aligns : AlignContent → Type 0
Aligns a = T (aligns a.keyword)
