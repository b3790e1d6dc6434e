-- The used sizes of an item before it is laid out, and the measurements that they take. A side that is absent is left to the layout.
use Rattle.std.specs.Prelude.{cond, ◌&&◌, is_some, Some, None, Option, Float}
use Rattle.std.specs.Float.Ieee.{eq}
use Rattle.std.specs.Option.{unwrap_or, option_map}
use Rattle.geometry.specs.declared.Size.{Size}
use Rattle.style.specs.declared.length.AvailableSpace.{AvailableSpace}
use Rattle.style.specs.declared.length.AvailableSpace.TheVariants.{Definite}
use Rattle.style.specs.declared.modes.RequestedAxis.{RequestedAxis}
use Rattle.style.specs.declared.modes.RequestedAxis.TheVariants.{Horizontal, Vertical, Both}
use Rattle.style.specs.declared.modes.SizingMode.TheVariants.{InherentSize}
use Rattle.tree.specs.Meaning.{Means}
use Rattle.tree.specs.declared.question.Question.{Question}
use Rattle.item_limits.specs.Limits.{border_length, clamped}
use Rattle.item_limits.specs.RatioBoxes.{box_of_width, box_of_height, limited_box}
use Rattle.item_limits.specs.declared.limits.Limits.{Limits}
use Rattle.item_limits.specs.declared.limits.SideLength.{SideLength}
use Rattle.item_limits.specs.declared.ratio_box.AspectRatio.{AspectRatio}
use Rattle.item_limits.specs.declared.item_axis.SideSizing.{SideSizing}
use Rattle.item_limits.specs.declared.item_axis.SideSizing.TheVariants.{Given, Content, Stretched, Filled, Free}
use Rattle.item_sizing.specs.Found.{Found, known, by_measuring, map_found, then_found}
use Rattle.item_sizing.specs.declared.sizing_item.SizingItem.{SizingItem}
use Rattle.item_sizing.specs.declared.used_sizes.UsedWidth.{UsedWidth}

-- ---- questions

abbrev pub question : SizingItem → Size (Option Float) → Size AvailableSpace → RequestedAxis → Question
question i known space axis = record {
  node = i.node;
  known_dimensions = known;
  parent_size = record { width = Some i.basis.width; height = Some i.basis.height };
  available_space = space;
  sizing_mode = InherentSize;
  axis = axis;
}

abbrev pub nothing_known : Size (Option Float)
nothing_known = record { width = None; height = None }

abbrev pub content_space : SideSizing → Option AvailableSpace
content_space (Given s) = None
content_space (Content a) = Some a
content_space (Stretched s) = None
content_space (Filled s) = None
content_space Free = None

-- in flow, a content height is measured along with a content width
abbrev pub height_along_of : SizingItem → Option AvailableSpace
height_along_of i = cond i.is_out_of_flow None (content_space i.sizing.height)

abbrev pub width_question_with : SizingItem → AvailableSpace → Option AvailableSpace → Question
width_question_with i a (Some h) = question i nothing_known (record { width = a; height = h }) Both
width_question_with i a None = question i nothing_known (record { width = a; height = Definite i.space.height }) Horizontal

abbrev pub width_question : SizingItem → AvailableSpace → Question
width_question i a = width_question_with i a (height_along_of i)

-- a content height, at the used width if there is one
abbrev pub height_question : SizingItem → Option Float → AvailableSpace → Question
height_question i w a =
    question i (record { width = w; height = None }) (record { width = Definite (unwrap_or w i.space.width); height = a }) Vertical

-- ---- without an aspect ratio: the width first, then the height at the used width

abbrev pub used_length : Limits → SideLength → Float
used_length l s = (clamped l s).border

abbrev pub measured_length : Limits → Float → Float
measured_length l x = used_length l (border_length l.adjustment x)

abbrev pub plain_width : Option Float → UsedWidth
plain_width w = record { width = w; height_along = None }

-- the height measured along holds only if fitting left the width as it was measured
abbrev pub width_by_size : SizingItem → Size Float → UsedWidth
width_by_size i z = record {
  width = Some (measured_length i.limits.width z.width);
  height_along = cond (is_some (height_along_of i) && eq z.width (measured_length i.limits.width z.width)) (Some z.height) None;
}

abbrev pub used_width_by : Means → SizingItem → SideSizing → Found UsedWidth
used_width_by m i (Given w) = known (plain_width (Some (used_length i.limits.width w)))
used_width_by m i (Stretched w) = known (plain_width (Some (used_length i.limits.width w)))
used_width_by m i (Filled w) = known (plain_width (Some (used_length i.limits.width w)))
used_width_by m i (Content a) = map_found (width_by_size i) (by_measuring m (width_question i a))
used_width_by m i Free = known (plain_width None)

abbrev pub used_width : Means → SizingItem → Found UsedWidth
used_width m i = used_width_by m i i.sizing.width

abbrev pub content_height : Means → SizingItem → Option Float → AvailableSpace → Option Float → Found (Option Float)
content_height m i w a (Some h) = known (Some (measured_length i.limits.height h))
content_height m i w a None = map_found (λ z. Some (measured_length i.limits.height z.height)) (by_measuring m (height_question i w a))

abbrev pub used_height_by : Means → SizingItem → UsedWidth → SideSizing → Found (Option Float)
used_height_by m i w (Given h) = known (Some (used_length i.limits.height h))
used_height_by m i w (Stretched h) = known (Some (used_length i.limits.height h))
used_height_by m i w (Filled h) = known (Some (used_length i.limits.height h))
used_height_by m i w (Content a) = content_height m i w.width a w.height_along
used_height_by m i w Free = known None

abbrev pub used_height : Means → SizingItem → UsedWidth → Found (Option Float)
used_height m i w = used_height_by m i w i.sizing.height

abbrev pub sizes_by_axis : Means → SizingItem → Found (Size (Option Float))
sizes_by_axis m i =
    then_found (used_width m i) (λ w.
    map_found (λ h. record { width = w.width; height = h }) (used_height m i w))

-- ---- with an aspect ratio: a box, and then each side within its own limits

abbrev pub ratio_of : SizingItem → Float → AspectRatio
ratio_of i ratio = record { ratio = ratio; limits = i.limits }

-- a given height goes before what the width would say
abbrev pub given_height_first : SizingItem → AspectRatio → SideSizing → Found (Option (Size SideLength)) → Found (Option (Size SideLength))
given_height_first i r (Given h) other = known (Some (box_of_height r (clamped i.limits.height h)))
given_height_first i r (Content a) other = other
given_height_first i r (Stretched h) other = other
given_height_first i r (Filled h) other = other
given_height_first i r Free other = other

-- a measured side makes a box that is held in the limits of both sides
abbrev pub box_by_measured_width : Means → SizingItem → AspectRatio → AvailableSpace → Found (Option (Size SideLength))
box_by_measured_width m i r a =
    map_found (λ z. Some (limited_box r (box_of_width r (border_length i.limits.width.adjustment z.width)))) (by_measuring m (width_question i a))

abbrev pub box_by_measured_height : Means → SizingItem → AspectRatio → AvailableSpace → Found (Option (Size SideLength))
box_by_measured_height m i r a =
    map_found (λ z. Some (limited_box r (box_of_height r (border_length i.limits.height.adjustment z.height)))) (by_measuring m (height_question i None a))

abbrev pub box_by_height : Means → SizingItem → AspectRatio → SideSizing → Found (Option (Size SideLength))
box_by_height m i r (Given h) = known (Some (box_of_height r (clamped i.limits.height h)))
box_by_height m i r (Stretched h) = known (Some (box_of_height r (clamped i.limits.height h)))
box_by_height m i r (Filled h) = known (Some (limited_box r (box_of_height r h)))
box_by_height m i r (Content a) = box_by_measured_height m i r a
box_by_height m i r Free = known None

abbrev pub box_by_sides : Means → SizingItem → AspectRatio → (width height : SideSizing) → Found (Option (Size SideLength))
box_by_sides m i r (Given w) h = known (Some (box_of_width r (clamped i.limits.width w)))
box_by_sides m i r (Stretched w) h = known (Some (box_of_width r (clamped i.limits.width w)))
box_by_sides m i r (Content a) h = given_height_first i r h (box_by_measured_width m i r a)
box_by_sides m i r (Filled w) h = given_height_first i r h (known (Some (limited_box r (box_of_width r w))))
box_by_sides m i r Free h = box_by_height m i r h

abbrev pub ratio_box : Means → SizingItem → AspectRatio → Found (Option (Size SideLength))
ratio_box m i r = box_by_sides m i r i.sizing.width i.sizing.height

-- a given or stretched height, else the box's
abbrev pub own_height : SideSizing → Option SideLength → Option SideLength
own_height (Given h) boxed = Some h
own_height (Stretched h) boxed = Some h
own_height (Content a) boxed = boxed
own_height (Filled h) boxed = boxed
own_height Free boxed = boxed

-- each side of the box within its own limits
abbrev pub sizes_of_box : SizingItem → Option (Size SideLength) → Size (Option Float)
sizes_of_box i b = record {
  width = option_map (λ z. used_length i.limits.width z.width) b;
  height = option_map (used_length i.limits.height) (own_height i.sizing.height (option_map (λ z. z.height) b));
}

abbrev pub sizes_by_ratio : Means → SizingItem → AspectRatio → Found (Size (Option Float))
sizes_by_ratio m i r = map_found (sizes_of_box i) (ratio_box m i r)

abbrev pub used_sizes_by : Means → SizingItem → Option Float → Found (Size (Option Float))
used_sizes_by m i None = sizes_by_axis m i
used_sizes_by m i (Some ratio) = sizes_by_ratio m i (ratio_of i ratio)

abbrev pub used_sizes : Means → SizingItem → Found (Size (Option Float))
used_sizes m i = used_sizes_by m i i.aspect_ratio
