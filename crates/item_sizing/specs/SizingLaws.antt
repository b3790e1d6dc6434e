-- What is promised of the sizes of an item that is laid out.
use Rattle.std.specs.Prelude.{◌≤◌, T, IfOk, Result, Float}
use Rattle.std.specs.Float.Ieee.{le}
use Rattle.geometry.specs.declared.Size.{Size}
use Rattle.tree.specs.Meaning.{Means}
use Rattle.item_limits.specs.Limits.{least}
use Rattle.item_questions.specs.declared.fault.ItemFault.{ItemFault}
use Rattle.item_sizing.specs.LaidOut.{laid_out_item}
use Rattle.item_sizing.specs.declared.sizing_item.SizingItem.{SizingItem}
use Rattle.item_sizing.specs.declared.laid_out.LaidOutItem.{LaidOutItem}

-- neither side is below f
pub record NotBelow (f z : Size Float) : Type 0 where
  pub width : T (le f.width z.width)
  pub height : T (le f.height z.height)

-- f is at most what the minimum of each side comes to, as padding plus border is
pub record Floor (i : SizingItem) (f : Size Float) : Type 0 where
  pub width : T (le f.width (least i.limits.width).border)
  pub height : T (le f.height (least i.limits.height).border)

pub record Sized (m : Means) (i : SizingItem) (r : Result LaidOutItem ItemFault) : Type 0 where
  pub at_most_two_measurements : (laid_out_item m i).measurements ≤ 2
  pub at_most_one_layout : (laid_out_item m i).layouts ≤ 1
  pub never_below_the_minimum : (f : Size Float) → Floor i f → IfOk r (λ l. NotBelow f l.size)
