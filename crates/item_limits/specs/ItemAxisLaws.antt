-- What is promised of a side that fills the space around it.
use Rattle.std.specs.Prelude.{◌≡◌, false, T}
use Rattle.std.specs.Float.Ieee.{le}
use Rattle.item_limits.specs.declared.limits.SideLength.{SideLength}
use Rattle.item_limits.specs.declared.item_axis.ItemAxis.{ItemAxis}
use Rattle.item_limits.specs.declared.item_axis.SideSizing.{SideSizing}
use Rattle.item_limits.specs.declared.item_axis.SideSizing.TheVariants.{Given, Content, Stretched, Filled, Free}
use Rattle.item_limits.specs.ItemAxes.{zero, stretch_fit_size, can_fill}

-- its border box is the stretch-fit size, and nothing else along the axis is auto
pub record Fills (a : ItemAxis) (s : SideLength) : Type 0 where
  pub stretch_fit : s.border ≡ stretch_fit_size a
  pub not_negative : T (le zero s.border)
  pub nothing_auto : T (can_fill a)

-- only an item in flow is stretched
abbrev pub Sized : ItemAxis → SideSizing → Type 0
Sized a (Given s) = Unit {0}
Sized a (Content space) = Unit {0}
Sized a (Stretched s) = Fills a s × (a.is_out_of_flow ≡ false)
Sized a (Filled s) = Fills a s
Sized a Free = Unit {0}
