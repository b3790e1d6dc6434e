-- The limits that every number of a page keeps.
use Rattle.std.specs.Prelude.{Bool, ◌&&◌, from_bits, Float}
use Rattle.std.specs.Float.{binary32}
use Rattle.std.specs.Float.Ieee.{le, neg}

-- at most the bound in magnitude: no comparison with a NaN holds
abbrev pub within : (bound : Float) → Float → Bool
within bound x = le x bound && le (neg bound) x

-- 1,048,576, which is 2 ^ 20
abbrev pub limit : Float
limit = from_bits binary32 0x4980_0000

-- finite, and at most the limit in magnitude
abbrev pub in_limits : Float → Bool
in_limits x = within limit x
