-- The edge of its alignment container that an item is aligned to, for each keyword of CSS Box Alignment 3.
use Rattle.std.specs.Prelude.{Bool, cond, ◌&&◌}
use Rattle.geometry.specs.declared.AbsoluteAxis.{AbsoluteAxis}
use Rattle.geometry.specs.declared.AbsoluteAxis.TheVariants.{Horizontal, Vertical}
use Rattle.style.specs.Alignment.{AlignItems}
use Rattle.style.specs.declared.alignment.AlignItemsKeyword.{AlignItemsKeyword}
use Rattle.style.specs.declared.alignment.AlignItemsKeyword.TheVariants.{Normal, Start, End, FlexStart, FlexEnd, SelfStart, SelfEnd, Center, Baseline, Stretch}
use Rattle.style.specs.declared.alignment.AlignmentSafety.{AlignmentSafety}
use Rattle.style.specs.declared.alignment.AlignmentSafety.TheVariants.{Default, Unsafe, Safe}
use Rattle.style.specs.declared.alignment.Direction.{Direction}
use Rattle.style.specs.declared.alignment.Direction.TheVariants.{Ltr, Rtl}
use Rattle.style.specs.Alignment.{safe}
use Rattle.item_placing.specs.declared.edge.Edge.{Edge}
use Rattle.item_placing.specs.declared.edge.Edge.TheVariants.{First, Last, Middle}

-- vertically an axis always runs onward from the top
abbrev pub axis_direction : AbsoluteAxis → Direction → Direction
axis_direction Horizontal direction = direction
axis_direction Vertical direction = Ltr

abbrev pub start_edge : Direction → Edge
start_edge Ltr = First
start_edge Rtl = Last

abbrev pub end_edge : Direction → Edge
end_edge Ltr = Last
end_edge Rtl = First

abbrev pub aligned_edge : AlignItemsKeyword → Direction → Edge
aligned_edge Normal direction = start_edge direction
aligned_edge Start direction = start_edge direction
aligned_edge End direction = end_edge direction
aligned_edge FlexStart direction = start_edge direction
aligned_edge FlexEnd direction = end_edge direction
aligned_edge SelfStart direction = start_edge direction
aligned_edge SelfEnd direction = end_edge direction
aligned_edge Center direction = Middle
aligned_edge Baseline direction = start_edge direction
aligned_edge Stretch direction = start_edge direction

-- between two insets an alignment is safe unless it says otherwise
abbrev pub overflow_position : AlignmentSafety → (between_insets : Bool) → AlignmentSafety
overflow_position Default between_insets = cond between_insets Safe Default
overflow_position Unsafe between_insets = Unsafe
overflow_position Safe between_insets = Safe

-- a safe alignment whose subject overflows its container gives way to start
abbrev pub keyword_on_overflow : AlignItems → (overflows : Bool) → AlignItemsKeyword
keyword_on_overflow alignment overflows = cond (safe alignment.safety && overflows) Start alignment.keyword
