-- A zero without its sign: two zeros count as equal, and what goes down to a host carries none.
use Rattle.std.specs.Prelude.{cond, from_bits, Float}
use Rattle.std.specs.Float.{binary32}
use Rattle.std.specs.Float.Ieee.{eq}

abbrev pub without_zero_sign : Float → Float
without_zero_sign x = cond (eq x (from_bits binary32 0)) (from_bits binary32 0) x
