-- What is promised of an item that was placed: a law for each reader's question, above the definition of its place.
use Rattle.std.specs.Prelude.{◌≡◌, true, false, ◌&&◌, T, Some, None, Option, Float}
use Rattle.std.specs.Float.Ieee.{add, sub, le, lt}
use Rattle.std.specs.Float.{float_max, binary32}
use Rattle.geometry.specs.declared.AbsoluteAxis.TheVariants.{Horizontal, Vertical}
use Rattle.geometry.specs.declared.Line.{Line}
use Rattle.style.specs.Alignment.{safe}
use Rattle.style.specs.Modes.{out_of_flow}
use Rattle.style.specs.declared.alignment.AlignItemsKeyword.TheVariants.{Start, End, Center}
use Rattle.style.specs.declared.alignment.AlignmentSafety.TheVariants.{Safe, Unsafe, Default}
use Rattle.style.specs.declared.alignment.Direction.{Direction}
use Rattle.style.specs.declared.alignment.Direction.TheVariants.{Ltr, Rtl}
use Rattle.item_placing.specs.Edges.{start_edge, end_edge}
use Rattle.item_placing.specs.Blocks.{zero, line, neither, area_size, both_set, direction_of}
use Rattle.item_placing.specs.Margins.{rest_of, halves, at_line_end, with_shim, used_margins}
use Rattle.item_placing.specs.Places.{overflows, edge_of, offset_at, placed}
use Rattle.item_placing.specs.declared.area_item.AreaItem.{AreaItem}
use Rattle.item_placing.specs.declared.edge.Edge.{Edge}
use Rattle.item_placing.specs.declared.edge.Edge.TheVariants.{First, Last, Middle}

-- the margin box meets an edge of the block, or is centred in it
abbrev pub Meets : Edge → (block : Line Float) → AreaItem → Float × Line Float → Type 0
Meets edge block item r = r.0 ≡ add binary32 item.area.start (offset_at edge block item.size r.1)

abbrev pub Uses : Line Float → AreaItem → Float × Line Float → Type 0
Uses margins item r = r.1 ≡ with_shim item.baseline_shim margins

abbrev pub whole_area : AreaItem → Line Float
whole_area item = line zero (area_size item.area)

-- what automatic margins take in flow
abbrev pub left_over : AreaItem → Float
left_over item = float_max (rest_of item) zero

abbrev pub with_insets : Line (Option Float) → AreaItem → AreaItem
with_insets inset item = record { area = item.area; alignment = item.alignment; size = item.size; position = item.position; inset = inset; margin = item.margin; baseline_shim = item.baseline_shim; axis = item.axis; direction = item.direction }

abbrev pub toward : Direction → AreaItem → AreaItem
toward direction item = record { area = item.area; alignment = item.alignment; size = item.size; position = item.position; inset = item.inset; margin = item.margin; baseline_shim = item.baseline_shim; axis = item.axis; direction = direction }

abbrev pub turned : Direction → Direction
turned Ltr = Rtl
turned Rtl = Ltr

abbrev pub opposite : Edge → Edge
opposite First = Last
opposite Last = First
opposite Middle = Middle

-- ---- anywhere

pub record Anywhere (item : AreaItem) (r : Float × Line Float) : Type 0 where
  pub set_margins_are_kept : (start end : Float) → item.margin ≡ line (Some start) (Some end) → Uses (line start end) item r
  pub no_direction_counts_vertically : item.axis ≡ Vertical → (direction : Direction) → placed (toward direction item) ≡ r

-- ---- in flow

pub record InFlow (item : AreaItem) (r : Float × Line Float) : Type 0 where
  pub start_stands_at_the_start : item.alignment.keyword ≡ Start → Meets (start_edge (direction_of item)) (whole_area item) item r
  pub end_stands_at_the_end : item.alignment.keyword ≡ End → (safe item.alignment.safety && overflows item) ≡ false → Meets (end_edge (direction_of item)) (whole_area item) item r
  pub center_stands_in_the_middle : item.alignment.keyword ≡ Center → (safe item.alignment.safety && overflows item) ≡ false → Meets Middle (whole_area item) item r
  pub safe_overflow_stands_at_the_start : item.alignment.safety ≡ Safe → T (overflows item) → Meets (start_edge (direction_of item)) (whole_area item) item r
  pub two_auto_margins_halve_what_is_left : item.margin ≡ neither → Uses (halves (left_over item)) item r
  pub an_auto_start_margin_takes_what_is_left : (end : Float) → item.margin ≡ line None (Some end) → Uses (line (left_over item) end) item r
  pub an_auto_end_margin_takes_what_is_left : (start : Float) → item.margin ≡ line (Some start) None → Uses (line start (left_over item)) item r
  pub no_inset_counts : (inset : Line (Option Float)) → placed (with_insets inset item) ≡ r
  -- a line that runs the other way has the item at the other edge, with the same margins. (The two places need not add up to the room: sums are rounded.)
  pub the_other_direction_has_the_same_margins : used_margins (toward (turned item.direction) item) ≡ r.1
  pub the_other_direction_has_the_opposite_edge : item.axis ≡ Horizontal → edge_of (toward (turned item.direction) item) ≡ opposite (edge_of item)

-- ---- out of flow

-- with an inset that is automatic
pub record BesideAutoInset (item : AreaItem) (r : Float × Line Float) : Type 0 where
  pub a_start_inset_holds_the_start : (start : Float) → item.inset ≡ line (Some start) None → Meets First (line start (area_size item.area)) item r
  pub an_end_inset_holds_the_end : (end : Float) → item.inset ≡ line None (Some end) → Meets Last (line zero (sub binary32 (area_size item.area) end)) item r
  pub auto_margins_take_nothing : both_set item.inset ≡ false → item.margin ≡ neither → Uses (line zero zero) item r

-- between two insets that do not cross
pub record BetweenInsets (item : AreaItem) (start end : Float) (r : Float × Line Float) : Type 0 where
  pub start_stands_at_the_start : item.alignment.keyword ≡ Start → Meets (start_edge (direction_of item)) (line start end) item r
  pub end_stands_at_the_end : item.alignment.keyword ≡ End → overflows item ≡ false → Meets (end_edge (direction_of item)) (line start end) item r
  pub unsafe_end_stands_at_the_end : item.alignment.keyword ≡ End → item.alignment.safety ≡ Unsafe → Meets (end_edge (direction_of item)) (line start end) item r
  pub overflow_stands_at_the_start_by_default : item.alignment.safety ≡ Default → T (overflows item) → Meets (start_edge (direction_of item)) (line start end) item r
  pub two_auto_margins_halve_what_is_left : item.margin ≡ neither → T (le zero (rest_of item)) → Uses (halves (rest_of item)) item r
  pub vertically_they_halve_an_overflow_too : item.margin ≡ neither → item.axis ≡ Vertical → Uses (halves (rest_of item)) item r
  pub horizontally_an_overflow_is_at_the_line_end : item.margin ≡ neither → item.axis ≡ Horizontal → T (lt (rest_of item) zero) → Uses (at_line_end item.direction (rest_of item)) item r

pub record Placed (item : AreaItem) (r : Float × Line Float) : Type 0 where
  pub anywhere : Anywhere item r
  pub in_flow : out_of_flow item.position ≡ false → InFlow item r
  pub beside_an_auto_inset : out_of_flow item.position ≡ true → BesideAutoInset item r
  pub between_two_insets : out_of_flow item.position ≡ true → (start end : Float) → item.inset ≡ line (Some start) (Some end) → lt (sub binary32 (area_size item.area) end) start ≡ false → BetweenInsets item start (sub binary32 (area_size item.area) end) r
