-- The first baseline of an item: a scroll container's lies in its border box, and is its bottom edge where it has none.
use Rattle.std.specs.Prelude.{cond, Some, None, Option, from_bits, Float}
use Rattle.std.specs.Float.{float_max, float_min, binary32}
use Rattle.style.specs.declared.modes.Overflow.{Overflow}
use Rattle.style.specs.Modes.{scroll_container}

abbrev pub baseline_or : Float → Option Float → Float
baseline_or height (Some baseline) = baseline
baseline_or height None = height

-- not below the bottom edge, and not above the top edge
abbrev pub in_box : Float → Float → Float
in_box height baseline = float_max (float_min baseline height) (from_bits binary32 0)

abbrev pub child_first_baseline : Option Float → Float → Overflow → Option Float
child_first_baseline baseline height overflow = cond (scroll_container overflow) (Some (in_box height (baseline_or height baseline))) baseline
