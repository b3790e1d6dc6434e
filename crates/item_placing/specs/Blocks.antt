-- The alignment container of an item along one axis: the block that it is aligned in, measured from the start of its area.
use Rattle.std.specs.Prelude.{Bool, cond, ◌&&◌, is_some, Some, None, Option, from_bits, Float}
use Rattle.std.specs.Float.Ieee.{sub, lt}
use Rattle.std.specs.Float.{float_max, binary32}
use Rattle.geometry.specs.declared.Line.{Line}
use Rattle.style.specs.Modes.{out_of_flow}
use Rattle.style.specs.declared.alignment.Direction.{Direction}
use Rattle.style.specs.declared.alignment.Direction.TheVariants.{Ltr, Rtl}
use Rattle.item_placing.specs.Edges.{axis_direction}
use Rattle.item_placing.specs.declared.area_item.AreaItem.{AreaItem}

abbrev pub zero : Float
zero = from_bits binary32 0

abbrev pub line : {A : Type 0} → A → A → Line A
line start end = record { start = start; end = end }

abbrev pub neither : Line (Option Float)
neither = line None None

-- left and right as start and end of a line that runs so, and start and end as left and right
abbrev pub flow_relative : {A : Type 0} → Direction → Line A → Line A
flow_relative Ltr sides = sides
flow_relative Rtl sides = line sides.end sides.start

abbrev pub or_zero : Option Float → Float
or_zero (Some x) = x
or_zero None = zero

abbrev pub less : Float → Option Float → Float
less x (Some y) = sub binary32 x y
less x None = x

abbrev pub length_of : Line Float → Float
length_of block = sub binary32 block.end block.start

-- an area whose end comes before its start is empty
abbrev pub area_size : Line Float → Float
area_size area = float_max (length_of area) zero

abbrev pub both_set : Line (Option Float) → Bool
both_set inset = is_some inset.start && is_some inset.end

-- what the insets leave of a size
abbrev pub inset_block : Float → Line (Option Float) → Line Float
inset_block size inset = line (or_zero inset.start) (less size inset.end)

-- an empty block at the edge where the axis starts
abbrev pub shrunk : Direction → Line Float → Line Float
shrunk Ltr block = line block.start block.start
shrunk Rtl block = line block.end block.end

-- two insets that cross leave an empty block
abbrev pub block_within : Float → Line (Option Float) → Direction → Line Float
block_within size inset direction =
    cond (both_set inset && lt (inset_block size inset).end (inset_block size inset).start) (shrunk direction (inset_block size inset)) (inset_block size inset)

-- ---- of an item

abbrev pub direction_of : AreaItem → Direction
direction_of item = axis_direction item.axis item.direction

-- in flow no inset counts
abbrev pub counted_insets : (out : Bool) → Line (Option Float) → Line (Option Float)
counted_insets out inset = cond out inset neither

abbrev pub insets_of : AreaItem → Line (Option Float)
insets_of item = counted_insets (out_of_flow item.position) item.inset

abbrev pub block_of : AreaItem → Line Float
block_of item = block_within (area_size item.area) (insets_of item) (direction_of item)
