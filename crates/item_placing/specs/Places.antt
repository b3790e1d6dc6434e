-- Where an item stands within its area along one axis, and the margins that it uses.
use Rattle.std.specs.Prelude.{Bool, Some, None, Option, Float}
use Rattle.std.specs.Float.{binary32}
use Rattle.std.specs.Float.Ieee.{add, sub, div, lt}
use Rattle.geometry.specs.declared.Line.{Line}
use Rattle.style.specs.Alignment.{AlignItems}
use Rattle.item_placing.specs.Edges.{aligned_edge, overflow_position, keyword_on_overflow}
use Rattle.item_placing.specs.Blocks.{length_of, both_set, direction_of, insets_of, block_of}
use Rattle.item_placing.specs.Margins.{two, set_size, used_margins}
use Rattle.item_placing.specs.declared.area_item.AreaItem.{AreaItem}
use Rattle.item_placing.specs.declared.edge.Edge.{Edge}
use Rattle.item_placing.specs.declared.edge.Edge.TheVariants.{First, Last, Middle}

-- the item and the margins that are set are longer than the block
abbrev pub overflows : AreaItem → Bool
overflows item = lt (length_of (block_of item)) (add binary32 item.size (set_size item))

-- the alignment of an item, with the overflow position that counts for it
abbrev pub alignment_of : AreaItem → AlignItems
alignment_of item = record { keyword = item.alignment.keyword; safety = overflow_position item.alignment.safety (both_set (insets_of item)) }

abbrev pub edge_by_alignment : AreaItem → Edge
edge_by_alignment item = aligned_edge (keyword_on_overflow (alignment_of item) (overflows item)) (direction_of item)

-- a lone inset holds the item at its own edge
abbrev pub held_edge : (start end : Option Float) → (otherwise : Edge) → Edge
held_edge (Some start) (Some end) otherwise = otherwise
held_edge (Some start) None otherwise = First
held_edge None (Some end) otherwise = Last
held_edge None None otherwise = otherwise

abbrev pub edge_of : AreaItem → Edge
edge_of item = held_edge (insets_of item).start (insets_of item).end (edge_by_alignment item)

-- where a border box of a size begins whose margin box meets an edge of the block, or is centred in it
abbrev pub offset_at : Edge → (block : Line Float) → (size : Float) → (margin : Line Float) → Float
offset_at First block size margin = add binary32 block.start margin.start
offset_at Last block size margin = sub binary32 (sub binary32 block.end size) margin.end
offset_at Middle block size margin =
    div binary32 (add binary32 (sub binary32 (add binary32 (sub binary32 block.end size) margin.start) margin.end) block.start) two

abbrev pub placed : AreaItem → Float × Line Float
placed item = (add binary32 item.area.start (offset_at (edge_of item) (block_of item) item.size (used_margins item)), used_margins item)
