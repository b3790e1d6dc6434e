-- A length of a side of a box, said in two boxes, and the limits that the side is held in.
use Rattle.std.specs.Prelude.{Some, None, Option, from_bits, Float}
use Rattle.std.specs.Float.Ieee.{add, sub}
use Rattle.std.specs.Float.{float_max, float_min, binary32}
use Rattle.std.specs.Option.{option_map, unwrap_or}
use Rattle.style.specs.declared.modes.BoxSizing.{BoxSizing}
use Rattle.style.specs.declared.modes.BoxSizing.TheVariants.{BorderBox, ContentBox}
use Rattle.item_limits.specs.declared.limits.SideLength.{SideLength}
use Rattle.item_limits.specs.declared.limits.Limits.{Limits}

-- the border box less the box that box-sizing names
abbrev pub adjustment_of : BoxSizing → (padding_border : Float) → Float
adjustment_of BorderBox padding_border = from_bits binary32 0
adjustment_of ContentBox padding_border = padding_border

-- a length of the box that box-sizing names
abbrev pub named_length : (adjustment length : Float) → SideLength
named_length adjustment length = record { named = length; border = add binary32 length adjustment }

-- a length of the border box
abbrev pub border_length : (adjustment length : Float) → SideLength
border_length adjustment length = record { named = sub binary32 length adjustment; border = length }

-- the smaller and the larger of two, box by box
abbrev pub at_most : SideLength → SideLength → SideLength
at_most s t = record { named = float_min s.named t.named; border = float_min s.border t.border }

abbrev pub at_least : SideLength → SideLength → SideLength
at_least s t = record { named = float_max s.named t.named; border = float_max s.border t.border }

-- a limit of the style, and at least the bound
abbrev pub limit : (bound : SideLength) (adjustment : Float) → Option Float → Option SideLength
limit bound adjustment length = option_map (λ v. at_least (named_length adjustment v) bound) length

-- what the minimum comes to: the style's own, else what padding and border take
abbrev pub least : Limits → SideLength
least l = unwrap_or l.min l.padding_border

-- the minimum is at least padding and border, the maximum at least the minimum
abbrev pub limits_of : (min max : Option Float) (padding_border adjustment : Float) → Limits
limits_of min max padding_border adjustment =
    let floor : SideLength = border_length adjustment padding_border in
    let own : Option SideLength = limit floor adjustment min in
    record {
      adjustment = adjustment;
      padding_border = floor;
      min = own;
      max = limit (unwrap_or own floor) adjustment max;
    }

-- at most the maximum, where there is one
abbrev pub under : Option SideLength → SideLength → SideLength
under (Some max) s = at_most s max
under None s = s

-- the maximum first, the minimum last
abbrev pub clamped : Limits → SideLength → SideLength
clamped l s = at_least (under l.max s) (least l)
