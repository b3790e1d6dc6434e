-- What follows for a page that was read.
use Rattle.std.specs.Prelude.{vec_items}
use Rattle.geometry.specs.declared.AbsoluteAxis.TheVariants.{Horizontal, Vertical}
use Rattle.page_text.specs.Axes.{AxisInRange}
use Rattle.page_text.specs.Pages.{PageInRange}
use Rattle.page_text.specs.declared.page_description.PageDescription.{PageDescription}

-- the range of an axis that alignment asks for
pub record AxesInRange : Type 0 where
  pub columns : (p : PageDescription) → PageInRange p → AxisInRange Horizontal p.container (vec_items p.columns)
  pub rows : (p : PageDescription) → PageInRange p → AxisInRange Vertical p.container (vec_items p.rows)
