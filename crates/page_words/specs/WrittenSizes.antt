-- The sizes of a page description: numbers from 0 to the limit.
use Rattle.std.specs.Prelude.{ℕ, Bool, cond, ◌&&◌, List, Some, None, Option, from_bits, Float}
use Rattle.std.specs.Float.{binary32}
use Rattle.std.specs.Float.Ieee.{le}
use Rattle.number.specs.Limits.{in_limits}
use Rattle.page_words.specs.Decimals.{and_then, decimal}

abbrev pub size_in_range : Float → Bool
size_in_range x = le (from_bits binary32 0) x && in_limits x

abbrev pub size_read : List ℕ → Option Float
size_read text = and_then (decimal text) (λ x. cond (size_in_range x) (Some x) None)
