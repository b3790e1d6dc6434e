-- What the alignment keywords of CSS Box Alignment 3 mean, for each keyword.
use Rattle.std.specs.Prelude.{Bool, true, false, cond, ◌&&◌}
use Rattle.style.specs.declared.alignment.Direction.{Direction}
use Rattle.style.specs.declared.alignment.Direction.TheVariants.{Ltr, Rtl}
use Rattle.style.specs.declared.alignment.AlignmentSafety.{AlignmentSafety}
use Rattle.style.specs.declared.alignment.AlignmentSafety.TheVariants.{Default, Unsafe, Safe}
use Rattle.style.specs.declared.alignment.Alignment.{Alignment}
use Rattle.style.specs.declared.alignment.AlignItemsKeyword.{AlignItemsKeyword}
use Rattle.style.specs.declared.alignment.AlignItemsKeyword.TheVariants as item
use Rattle.style.specs.declared.alignment.AlignContentKeyword.{AlignContentKeyword}
use Rattle.style.specs.declared.alignment.AlignContentKeyword.TheVariants as content

-- the alignment of an item
abbrev pub AlignItems : Type 0
AlignItems = Alignment AlignItemsKeyword

-- the alignment of tracks
abbrev pub AlignContent : Type 0
AlignContent = Alignment AlignContentKeyword

abbrev pub is_rtl : Direction → Bool
is_rtl Ltr = false
is_rtl Rtl = true

abbrev pub same_direction : Direction → Direction → Bool
same_direction Ltr Ltr = true
same_direction Ltr Rtl = false
same_direction Rtl Ltr = false
same_direction Rtl Rtl = true

abbrev pub safe : AlignmentSafety → Bool
safe Default = false
safe Unsafe = false
safe Safe = true

abbrev pub no_safety : AlignmentSafety → Bool
no_safety Default = true
no_safety Unsafe = false
no_safety Safe = false

abbrev pub stretches : AlignItemsKeyword → Bool
stretches item.Normal = false
stretches item.Start = false
stretches item.End = false
stretches item.FlexStart = false
stretches item.FlexEnd = false
stretches item.SelfStart = false
stretches item.SelfEnd = false
stretches item.Center = false
stretches item.Baseline = false
stretches item.Stretch = true

-- `stretch` with no overflow position
abbrev pub default_stretch : AlignItems → Bool
default_stretch a = stretches a.keyword && no_safety a.safety

-- a keyword for a line that runs the other way
abbrev pub reversed : AlignContentKeyword → AlignContentKeyword
reversed content.Normal = content.Normal
reversed content.Start = content.End
reversed content.End = content.Start
reversed content.FlexStart = content.FlexEnd
reversed content.FlexEnd = content.FlexStart
reversed content.Center = content.Center
reversed content.Stretch = content.End
reversed content.SpaceBetween = content.SpaceBetween
reversed content.SpaceEvenly = content.SpaceEvenly
reversed content.SpaceAround = content.SpaceAround

-- `self-start` and `self-end` in the words of the container, whose line runs as the item's own does, or not
abbrev pub keyword_along : (along : Bool) → AlignItemsKeyword → AlignItemsKeyword
keyword_along along item.Normal = item.Normal
keyword_along along item.Start = item.Start
keyword_along along item.End = item.End
keyword_along along item.FlexStart = item.FlexStart
keyword_along along item.FlexEnd = item.FlexEnd
keyword_along along item.SelfStart = cond along item.Start item.End
keyword_along along item.SelfEnd = cond along item.End item.Start
keyword_along along item.Center = item.Center
keyword_along along item.Baseline = item.Baseline
keyword_along along item.Stretch = item.Stretch

-- in the block axis every line runs downward
abbrev pub runs_along : Direction → Direction → (inline : Bool) → Bool
runs_along own container true = same_direction own container
runs_along own container false = true

abbrev pub self_relative : AlignItems → (own container : Direction) → (inline : Bool) → AlignItems
self_relative a own container inline = record { keyword = keyword_along (runs_along own container inline) a.keyword; safety = a.safety }
