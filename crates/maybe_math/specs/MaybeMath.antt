-- Limits and sums of numbers that may be missing: a missing first operand stays missing, a missing second one changes nothing.
use Rattle.std.specs.Float.Ieee.{add, sub}
use Rattle.std.specs.Float.{float_max, float_min, binary32}
use Rattle.std.specs.Prelude.{Some, None, Option, Float}

-- f of two numbers that may be missing
abbrev pub maybe_with : (Float → Float → Float) → Option Float → Option Float → Option Float
maybe_with f None second = None
maybe_with f (Some x) None = Some x
maybe_with f (Some x) (Some y) = Some (f x y)

abbrev pub maybe_min : Option Float → Option Float → Option Float
maybe_min = maybe_with float_min

abbrev pub maybe_max : Option Float → Option Float → Option Float
maybe_max = maybe_with float_max

abbrev pub maybe_add : Option Float → Option Float → Option Float
maybe_add = maybe_with (add binary32)

abbrev pub maybe_sub : Option Float → Option Float → Option Float
maybe_sub = maybe_with (sub binary32)

-- the maximum first, and the minimum last: where they cross, the minimum stands
abbrev pub maybe_clamp : Option Float → Option Float → Option Float → Option Float
maybe_clamp x lower upper = maybe_max (maybe_min x upper) lower
