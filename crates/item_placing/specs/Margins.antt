-- The margins that an item uses along one axis.
use Rattle.std.specs.Prelude.{Bool, cond, Some, None, Option, from_bits, Float}
use Rattle.std.specs.Float.Ieee.{add, sub, div, lt}
use Rattle.std.specs.Float.{float_max, binary32}
use Rattle.geometry.specs.declared.AbsoluteAxis.{AbsoluteAxis}
use Rattle.geometry.specs.declared.AbsoluteAxis.TheVariants.{Horizontal, Vertical}
use Rattle.geometry.specs.declared.Line.{Line}
use Rattle.style.specs.Modes.{out_of_flow}
use Rattle.style.specs.declared.alignment.Direction.{Direction}
use Rattle.style.specs.declared.alignment.Direction.TheVariants.{Ltr, Rtl}
use Rattle.item_placing.specs.Blocks.{zero, line, or_zero, length_of, both_set, block_of}
use Rattle.item_placing.specs.declared.area_item.AreaItem.{AreaItem}

abbrev pub two : Float
two = from_bits binary32 0x4000_0000

-- the margins that are set, an automatic one as 0, the baseline shim on top of the start
abbrev pub set_margins : AreaItem → Line Float
set_margins item = line (add binary32 (or_zero item.margin.start) item.baseline_shim) (or_zero item.margin.end)

abbrev pub set_size : AreaItem → Float
set_size item = add binary32 (set_margins item).start (set_margins item).end

-- what the item and those margins leave of the block, below 0 where they overflow it
abbrev pub rest_of : AreaItem → Float
rest_of item = sub binary32 (sub binary32 (length_of (block_of item)) item.size) (set_size item)

-- what automatic margins take: in flow never less than nothing, out of flow exactly what two insets leave, and nothing beside an automatic inset
abbrev pub taken : (out between_insets : Bool) → (rest : Float) → Float
taken out between_insets rest = cond out (cond between_insets rest zero) (float_max rest zero)

abbrev pub auto_space : AreaItem → Float
auto_space item = taken (out_of_flow item.position) (both_set item.inset) (rest_of item)

abbrev pub halves : Float → Line Float
halves space = line (div binary32 space two) (div binary32 space two)

-- all of a space at the end of the line
abbrev pub at_line_end : Direction → Float → Line Float
at_line_end Ltr space = line zero space
at_line_end Rtl space = line space zero

-- two automatic margins are equal, but horizontally they do not push an item out over the start of the line
abbrev pub two_auto_margins : Float → AbsoluteAxis → Direction → Line Float
two_auto_margins space Horizontal direction = cond (lt space zero) (at_line_end direction space) (halves space)
two_auto_margins space Vertical direction = halves space

abbrev pub filled_margins : Float → AbsoluteAxis → Direction → (start end : Option Float) → Line Float
filled_margins space axis direction (Some start) (Some end) = line start end
filled_margins space axis direction (Some start) None = line start space
filled_margins space axis direction None (Some end) = line space end
filled_margins space axis direction None None = two_auto_margins space axis direction

abbrev pub with_shim : Float → Line Float → Line Float
with_shim shim margins = line (add binary32 margins.start shim) margins.end

abbrev pub used_margins : AreaItem → Line Float
used_margins item = with_shim item.baseline_shim (filled_margins (auto_space item) item.axis item.direction item.margin.start item.margin.end)
