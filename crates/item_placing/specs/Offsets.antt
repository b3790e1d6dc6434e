-- How far its insets move an item that is positioned relatively, along one axis.
use Rattle.std.specs.Float.{binary32}
use Rattle.std.specs.Float.Ieee.{neg}
use Rattle.std.specs.Prelude.{Some, None, Option, from_bits, Float}
use Rattle.geometry.specs.declared.Line.{Line}
use Rattle.style.specs.declared.alignment.Direction.{Direction}
use Rattle.style.specs.declared.alignment.Direction.TheVariants.{Ltr, Rtl}
use Rattle.style.specs.declared.modes.Position.{Position}
use Rattle.style.specs.declared.modes.Position.TheVariants.{Static, Relative, Absolute, Fixed, Sticky}

-- the inset at the start of the axis moves onward by itself, one at the end alone moves back; no inset moves nothing
abbrev pub inset_offset : Direction → (start end : Option Float) → Float
inset_offset Ltr (Some start) end = start
inset_offset Ltr None (Some end) = neg end
inset_offset Ltr None None = from_bits binary32 0
inset_offset Rtl start (Some end) = neg end
inset_offset Rtl (Some start) None = start
inset_offset Rtl None None = from_bits binary32 0

abbrev pub relative_offset : Position → Line (Option Float) → Direction → Float
relative_offset Static inset direction = from_bits binary32 0
relative_offset Relative inset direction = inset_offset direction inset.start inset.end
relative_offset Absolute inset direction = from_bits binary32 0
relative_offset Fixed inset direction = from_bits binary32 0
relative_offset Sticky inset direction = from_bits binary32 0
