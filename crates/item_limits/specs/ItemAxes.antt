-- The space that a side may fill, and what the side is to be.
use Rattle.std.specs.Prelude.{Bool, cond, ◌&&◌, is_some, Some, Option, from_bits, Float}
use Rattle.std.specs.Float.Ieee.{sub}
use Rattle.std.specs.Float.{float_max, binary32}
use Rattle.std.specs.Option.{unwrap_or, option_map, option_or}
use Rattle.geometry.specs.declared.Line.{Line}
use Rattle.maybe_math.specs.MaybeMath.{maybe_sub}
use Rattle.style.specs.declared.alignment.AlignItemsKeyword.{AlignItemsKeyword}
use Rattle.style.specs.declared.alignment.AlignItemsKeyword.TheVariants as item
use Rattle.style.specs.declared.alignment.AlignmentSafety.{AlignmentSafety}
use Rattle.style.specs.Alignment.{no_safety}
use Rattle.item_limits.specs.declared.limits.SideLength.{SideLength}
use Rattle.item_limits.specs.declared.sizing_keyword.SizingKeywordResolution.{SizingKeywordResolution}
use Rattle.item_limits.specs.declared.sizing_keyword.SizingKeywordResolution.TheVariants.{Measure, Exact}
use Rattle.item_limits.specs.declared.item_axis.ItemAxis.{ItemAxis}
use Rattle.item_limits.specs.declared.item_axis.PreferredSize.{PreferredSize}
use Rattle.item_limits.specs.declared.item_axis.SideSizing.{SideSizing}
use Rattle.item_limits.specs.declared.item_axis.SideSizing.TheVariants.{Given, Content, Stretched, Filled, Free}
use Rattle.item_limits.specs.Limits.{named_length, border_length}
use Rattle.item_limits.specs.SelfAlignment.{normal_fills}
use Rattle.item_limits.specs.SizingKeywords.{sizing_keyword_resolution}

abbrev pub zero : Float
zero = from_bits binary32 0

-- x less what is set at the two ends; what is auto takes nothing
abbrev pub less : Float → Option Float → Float
less x o = unwrap_or (maybe_sub (Some x) o) x

abbrev pub within : Float → Line (Option Float) → Float
within x ends = less (less x ends.start) ends.end

-- the area less the margins and the baseline shim
abbrev pub within_margins : ItemAxis → Float
within_margins a = sub binary32 (within a.area a.margin) a.baseline_shim

-- and, out of flow, less the insets; never below zero
abbrev pub stretch_fit_size : ItemAxis → Float
stretch_fit_size a = float_max (cond a.is_out_of_flow (within (within_margins a) a.inset) (within_margins a)) zero

abbrev pub stretch_fit_side : ItemAxis → SideLength
stretch_fit_side a = border_length a.adjustment (stretch_fit_size a)

abbrev pub both_set : Line (Option Float) → Bool
both_set ends = is_some ends.start && is_some ends.end

-- in flow both margins are set, out of flow both insets
abbrev pub can_fill : ItemAxis → Bool
can_fill a = cond a.is_out_of_flow (both_set a.inset) (both_set a.margin)

-- `stretch`: out of flow with any overflow position, in flow with none
abbrev pub stretch_sizing : ItemAxis → AlignmentSafety → SideSizing
stretch_sizing a safety =
    cond a.is_out_of_flow
    (Filled (stretch_fit_side a))
    (cond (no_safety safety) (Stretched (stretch_fit_side a)) Free)

abbrev pub normal_sizing : ItemAxis → SideSizing
normal_sizing a = cond (normal_fills a.axis a.is_out_of_flow a.is_replaced a.has_ratio) (Filled (stretch_fit_side a)) Free

abbrev pub sizing_by_alignment : ItemAxis → AlignItemsKeyword → SideSizing
sizing_by_alignment a item.Normal = normal_sizing a
sizing_by_alignment a item.Start = Free
sizing_by_alignment a item.End = Free
sizing_by_alignment a item.FlexStart = Free
sizing_by_alignment a item.FlexEnd = Free
sizing_by_alignment a item.SelfStart = Free
sizing_by_alignment a item.SelfEnd = Free
sizing_by_alignment a item.Center = Free
sizing_by_alignment a item.Baseline = Free
sizing_by_alignment a item.Stretch = stretch_sizing a a.alignment.safety

-- an automatic size
abbrev pub auto_sizing : ItemAxis → SideSizing
auto_sizing a = cond (can_fill a) (sizing_by_alignment a a.alignment.keyword) Free

abbrev pub sizing_of_keyword : ItemAxis → SizingKeywordResolution → SideSizing
sizing_of_keyword a (Exact x) = Given (border_length a.adjustment x)
sizing_of_keyword a (Measure space) = Content space

-- by a sizing keyword, where the size is one
abbrev pub keyword_sizing : ItemAxis → PreferredSize → Option SideSizing
keyword_sizing a size = option_map (sizing_of_keyword a) (sizing_keyword_resolution size.style (Some (stretch_fit_size a)) size.fit_content_limit)

-- by a length, where the size is one
abbrev pub length_sizing : ItemAxis → PreferredSize → Option SideSizing
length_sizing a size = option_map (λ x. Given (named_length a.adjustment x)) size.length

-- a length first, then a sizing keyword, then the alignment
abbrev pub side_sizing : ItemAxis → PreferredSize → SideSizing
side_sizing a size = unwrap_or (option_or (length_sizing a size) (keyword_sizing a size)) (auto_sizing a)
