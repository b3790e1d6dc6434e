-- How a text breaks into lines: its columns, its lines, and the width and height that they take.
use Rattle.std.specs.Prelude.{ℕ, ◌*◌, min, max, Bool, cond, ◌&&◌, pos, Some, None, Option, ◌==◌, from_bits, nat_le, Float}
use Rattle.std.specs.Float.{binary32}
use Rattle.std.specs.Float.Ieee.{div, of_int, to_unsigned}
use Rattle.std.specs.Float.Ieee.Scale.{finite}
use Rattle.std.specs.Int.{div_ceil}
use Rattle.std.specs.Option.{unwrap_or}
use Rattle.geometry.specs.Shapes.{zip_size}
use Rattle.geometry.specs.declared.Size.{Size}
use Rattle.style.specs.declared.length.AvailableSpace.{AvailableSpace}
use Rattle.style.specs.declared.length.AvailableSpace.TheVariants.{Definite, MinContent, MaxContent}
use Rattle.tree.specs.Questions.{every_number}
use Rattle.tree.specs.declared.question.Question.{Question}
use Rattle.text_host.specs.declared.text.TextRecord.{TextRecord}

abbrev pub float_of : ℕ → Float
float_of n = of_int binary32 (pos n)

abbrev pub between : ℕ → ℕ → ℕ → Bool
between low high n = nat_le low n && nat_le n high

-- up to 8192 letters; a longest word of 1 to all of them, and of 0 where there are none; cells and lines of 1 to 128
abbrev pub in_bounds : TextRecord → Bool
in_bounds t =
    between 0 8192 t.letters
    && (between (min 1 t.letters) t.letters t.longest_word
    && (between 1 128 t.cell_width
    && between 1 128 t.line_height))

-- the quotient of a width by the cell's, its fraction dropped, held between the longest word and all letters
abbrev pub columns_in : TextRecord → Float → ℕ
columns_in t width = max (min (to_unsigned 32 (div binary32 width (float_of t.cell_width))) t.letters) t.longest_word

-- a known width counts, or else the available one
abbrev pub columns_for : TextRecord → Option Float → AvailableSpace → ℕ
columns_for t (Some known) available = columns_in t known
columns_for t None (Definite available) = columns_in t available
columns_for t None MinContent = t.longest_word
columns_for t None MaxContent = t.letters

-- the letters over the columns, rounded up
abbrev pub lines_in : ℕ → ℕ → ℕ
lines_in letters columns = div_ceil letters columns

abbrev pub no_size : Size Float
no_size = record { width = from_bits binary32 0; height = from_bits binary32 0 }

-- a text of no letters is 0 by 0; any other is as wide as its columns and as high as its lines
abbrev pub size_in : TextRecord → ℕ → Size Float
size_in t columns = cond (t.letters == 0) no_size (record {
  width = float_of (columns * t.cell_width);
  height = float_of (lines_in t.letters columns * t.line_height);
})

-- a known side is answered as known
abbrev pub size_for : TextRecord → Question → Size Float
size_for t q = zip_size unwrap_or q.known_dimensions (size_in t (columns_for t q.known_dimensions.width q.available_space.width))

-- there is an answer for a text within its bounds and a question of finite numbers
unfoldable pub text_size : TextRecord → Question → Option (Size Float)
text_size t q = cond (in_bounds t && every_number finite q) (Some (size_for t q)) None
