-- The final sizes of an item: used where they are settled, else answered by the layout, or out of flow by a measurement, and held in their limits.
use Rattle.std.specs.Prelude.{Bool, cond, not, ◌&&◌, is_some, Some, None, Option, Float}
use Rattle.std.specs.Float.{float_max, float_min}
use Rattle.std.specs.Option.{unwrap_or}
use Rattle.geometry.specs.declared.Size.{Size}
use Rattle.geometry.specs.Shapes.{zip_size}
use Rattle.style.specs.declared.length.AvailableSpace.TheVariants.{Definite}
use Rattle.style.specs.declared.modes.RequestedAxis.TheVariants.{Both}
use Rattle.tree.specs.Meaning.{Means}
use Rattle.tree.specs.declared.question.Question.{Question}
use Rattle.item_limits.specs.Limits.{least}
use Rattle.item_limits.specs.RatioBoxes.{box_of_width, box_of_height}
use Rattle.item_limits.specs.declared.limits.SideLength.{SideLength}
use Rattle.item_limits.specs.declared.ratio_box.AspectRatio.{AspectRatio}
use Rattle.item_sizing.specs.Found.{Found, by_measuring, by_laying_out, map_found, then_found}
use Rattle.item_sizing.specs.UsedSizes.{question, ratio_of, used_sizes}
use Rattle.item_sizing.specs.declared.sizing_item.SizingItem.{SizingItem}
use Rattle.item_sizing.specs.declared.laid_out.LaidOutItem.{LaidOutItem}

-- both axes, in the stretch-fit space
abbrev pub whole_question : SizingItem → Size (Option Float) → Question
whole_question i known = question i known (record { width = Definite i.space.width; height = Definite i.space.height }) Both

-- ---- an answered side: at most its own maximum, else the other side's carried over by the ratio, and at least its minimum

abbrev pub carried : (AspectRatio → SideLength → SideLength) → SizingItem → Option SideLength → Option SideLength → Option Float → Option SideLength
carried across i (Some own) other ratio = Some own
carried across i None (Some other) (Some ratio) = Some (across (ratio_of i ratio) other)
carried across i None (Some other) None = None
carried across i None None ratio = None

abbrev pub max_width : SizingItem → Option SideLength
max_width i = carried (λ r h. (box_of_height r h).width) i i.limits.width.max i.limits.height.max i.aspect_ratio

abbrev pub max_height : SizingItem → Option SideLength
max_height i = carried (λ r w. (box_of_width r w).height) i i.limits.height.max i.limits.width.max i.aspect_ratio

abbrev pub under_max : Option SideLength → Float → Float
under_max (Some max) x = float_min x max.border
under_max None x = x

abbrev pub held : Option SideLength → Float → Float → Float
held max min x = float_max (under_max max x) min

abbrev pub answered : SizingItem → Size Float → Size Float
answered i z = record {
  width = held (max_width i) (least i.limits.width).border z.width;
  height = held (max_height i) (least i.limits.height).border z.height;
}

-- ---- the layout

-- out of flow, a missing side calls for one measurement of both
abbrev pub wants_measuring : SizingItem → Size (Option Float) → Bool
wants_measuring i sides = i.is_out_of_flow && not (is_some sides.width && is_some sides.height)

-- a side that is settled is final
abbrev pub filled : Size (Option Float) → Size Float → Size Float
filled = zip_size unwrap_or

abbrev pub both_known : Size Float → Size (Option Float)
both_known z = record { width = Some z.width; height = Some z.height }

-- laid out with these sides known, and of this final size
abbrev pub laid_out_at : Means → SizingItem → Size (Option Float) → (Size Float → Size Float) → Found LaidOutItem
laid_out_at m i sides size_of =
    let question : Question = whole_question i sides in
    map_found (λ l. record { size = size_of l.size; output = l; question = question }) (by_laying_out m question)

abbrev pub laid_out_with : Means → SizingItem → Size (Option Float) → Found LaidOutItem
laid_out_with m i sides =
    cond (wants_measuring i sides)
    (then_found (by_measuring m (whole_question i sides)) (λ z. laid_out_at m i (both_known z) (λ _. answered i z)))
    (laid_out_at m i sides (λ z. filled sides (answered i z)))

abbrev pub laid_out_item : Means → SizingItem → Found LaidOutItem
laid_out_item m i = then_found (used_sizes m i) (laid_out_with m i)
