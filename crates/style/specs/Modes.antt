-- Which boxes are out of flow, and which are scroll containers; the axis that a request names.
use Rattle.std.specs.Prelude.{Bool, true, false}
use Rattle.geometry.specs.declared.AbsoluteAxis.{AbsoluteAxis}
use Rattle.geometry.specs.declared.AbsoluteAxis.TheVariants as axis
use Rattle.style.specs.declared.modes.Position.{Position}
use Rattle.style.specs.declared.modes.Position.TheVariants.{Static, Relative, Absolute, Fixed, Sticky}
use Rattle.style.specs.declared.modes.Overflow.{Overflow}
use Rattle.style.specs.declared.modes.Overflow.TheVariants.{Visible, Clip, Hidden, Scroll}
use Rattle.style.specs.declared.modes.RequestedAxis.{RequestedAxis}
use Rattle.style.specs.declared.modes.RequestedAxis.TheVariants as request

abbrev pub out_of_flow : Position → Bool
out_of_flow Static = false
out_of_flow Relative = false
out_of_flow Absolute = true
out_of_flow Fixed = true
out_of_flow Sticky = false

abbrev pub scroll_container : Overflow → Bool
scroll_container Visible = false
scroll_container Clip = false
scroll_container Hidden = true
scroll_container Scroll = true

abbrev pub requested : AbsoluteAxis → RequestedAxis
requested axis.Horizontal = request.Horizontal
requested axis.Vertical = request.Vertical
