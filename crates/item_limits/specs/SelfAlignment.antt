-- The alignment of an item along one axis, and where `normal` behaves as `stretch`.
use Rattle.std.specs.Prelude.{◌≡◌, Bool, true, false, not, ◌&&◌, ◌||◌, T, Option}
use Rattle.std.specs.Option.{unwrap_or}
use Rattle.geometry.specs.declared.AbsoluteAxis.{AbsoluteAxis}
use Rattle.geometry.specs.declared.AbsoluteAxis.TheVariants.{Horizontal, Vertical}
use Rattle.style.specs.Alignment.{AlignItems}
use Rattle.style.specs.declared.alignment.AlignItemsKeyword.{AlignItemsKeyword}
use Rattle.style.specs.declared.alignment.AlignItemsKeyword.TheVariants as item
use Rattle.style.specs.declared.alignment.Direction.{Direction}
use Rattle.style.specs.Alignment.{self_relative}

-- text runs in the inline axis
abbrev pub inline_axis : AbsoluteAxis → Bool
inline_axis Horizontal = true
inline_axis Vertical = false

-- the item's own, else the container's, in the words of the container
abbrev pub self_alignment : Option AlignItems → AlignItems → (item container : Direction) → AbsoluteAxis → AlignItems
self_alignment own of_container item container axis = self_relative (unwrap_or own of_container) item container (inline_axis axis)

abbrev pub self_relative_keyword : AlignItemsKeyword → Bool
self_relative_keyword item.Normal = false
self_relative_keyword item.Start = false
self_relative_keyword item.End = false
self_relative_keyword item.FlexStart = false
self_relative_keyword item.FlexEnd = false
self_relative_keyword item.SelfStart = true
self_relative_keyword item.SelfEnd = true
self_relative_keyword item.Center = false
self_relative_keyword item.Baseline = false
self_relative_keyword item.Stretch = false

-- r is a, in the words of the container: `self-start` and `self-end` are gone, all else is as it was
pub record ContainerRelative (a r : AlignItems) : Type 0 where
  pub not_self_relative : T (not (self_relative_keyword r.keyword))
  pub keyword_kept : T (not (self_relative_keyword a.keyword)) → r.keyword ≡ a.keyword
  pub overflow_position_kept : r.safety ≡ a.safety

-- no replaced box is filled; in flow the height of a box with a ratio is not
abbrev pub normal_fills : AbsoluteAxis → (out_of_flow replaced ratio : Bool) → Bool
normal_fills Horizontal out_of_flow replaced ratio = not replaced
normal_fills Vertical out_of_flow replaced ratio = not replaced && (out_of_flow || not ratio)
