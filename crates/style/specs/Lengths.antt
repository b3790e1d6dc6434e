-- Which lengths are automatic, and which size a box by a keyword.
use Rattle.std.specs.Prelude.{Bool, true, false}
use Rattle.style.specs.declared.length.LengthPercentageAuto.{LengthPercentageAuto}
use Rattle.style.specs.declared.length.LengthPercentageAuto.TheVariants as auto
use Rattle.style.specs.declared.length.Dimension.{Dimension}
use Rattle.style.specs.declared.length.Dimension.TheVariants as size

abbrev pub auto_length : LengthPercentageAuto → Bool
auto_length auto.Auto = true
auto_length (auto.Length length) = false

abbrev pub auto_dimension : Dimension → Bool
auto_dimension size.Auto = true
auto_dimension size.Content = false
auto_dimension (size.Length length) = false
auto_dimension size.MinContent = false
auto_dimension size.MaxContent = false
auto_dimension size.Stretch = false
auto_dimension size.FitContent = false
auto_dimension (size.FitContentFunction length) = false

-- min-content, max-content, stretch, fit-content and fit-content(..)
abbrev pub sizing_keyword : Dimension → Bool
sizing_keyword size.Auto = false
sizing_keyword size.Content = false
sizing_keyword (size.Length length) = false
sizing_keyword size.MinContent = true
sizing_keyword size.MaxContent = true
sizing_keyword size.Stretch = true
sizing_keyword size.FitContent = true
sizing_keyword (size.FitContentFunction length) = true
