-- Boxes whose sides stand in a ratio, and the limits that one side transfers to the other.
use Rattle.std.specs.Prelude.{Some, None, Option}
use Rattle.std.specs.Float.{binary32}
use Rattle.std.specs.Float.Ieee.{mul, div}
use Rattle.geometry.specs.declared.Size.{Size}
use Rattle.geometry.specs.Shapes.{zip_size}
use Rattle.item_limits.specs.declared.limits.SideLength.{SideLength}
use Rattle.item_limits.specs.declared.ratio_box.AspectRatio.{AspectRatio}
use Rattle.item_limits.specs.Limits.{at_most, at_least, named_length, least}

-- the height is the width over the ratio, in the box that box-sizing names
abbrev pub box_of_width : AspectRatio → SideLength → Size SideLength
box_of_width a w = record { width = w; height = named_length a.limits.height.adjustment (div binary32 w.named a.ratio) }

-- the width is the height times the ratio
abbrev pub box_of_height : AspectRatio → SideLength → Size SideLength
box_of_height a h = record { width = named_length a.limits.width.adjustment (mul binary32 h.named a.ratio); height = h }

-- boxes are bounded side by side
abbrev pub box_at_most : Size SideLength → Size SideLength → Size SideLength
box_at_most = zip_size at_most

abbrev pub box_at_least : Size SideLength → Size SideLength → Size SideLength
box_at_least = zip_size at_least

-- at most the box of a maximum, where there is one
abbrev pub under_box : (SideLength → Size SideLength) → Option SideLength → Size SideLength → Size SideLength
under_box box_of (Some max) b = box_at_most b (box_of max)
under_box box_of None b = b

-- at least the box of a minimum, where there is one
abbrev pub over_box : (SideLength → Size SideLength) → Option SideLength → Size SideLength → Size SideLength
over_box box_of (Some min) b = box_at_least b (box_of min)
over_box box_of None b = b

-- the minimum height counts where the style has one
abbrev pub limited_by_height : AspectRatio → Size SideLength → Size SideLength
limited_by_height a b = over_box (box_of_height a) a.limits.height.min (under_box (box_of_height a) a.limits.height.max b)

abbrev pub limited_by_width : AspectRatio → Size SideLength → Size SideLength
limited_by_width a b = box_at_least (under_box (box_of_width a) a.limits.width.max b) (box_of_width a (least a.limits.width))

-- the limits of the height first, those of the width last
abbrev pub limited_box : AspectRatio → Size SideLength → Size SideLength
limited_box a b = limited_by_width a (limited_by_height a b)
