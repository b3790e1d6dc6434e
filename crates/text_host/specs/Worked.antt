-- A worked text: 10 letters, 4 in the longest word, in cells of 8 by 16.
use Rattle.std.specs.Prelude.{◌≡◌, ℕ, false, Some, None, Option, Float}
use Rattle.std.specs.Float.Ieee.{neg}
use Rattle.std.specs.Float.{inf}
use Rattle.geometry.specs.declared.Size.{Size}
use Rattle.style.specs.declared.length.AvailableSpace.{AvailableSpace}
use Rattle.style.specs.declared.length.AvailableSpace.TheVariants.{Definite, MinContent, MaxContent}
use Rattle.style.specs.declared.modes.RequestedAxis.TheVariants.{Both}
use Rattle.style.specs.declared.modes.SizingMode.TheVariants.{InherentSize}
use Rattle.style.specs.declared.style.Style.{Style}
use Rattle.tree.specs.declared.question.Question.{Question}
use Rattle.text_host.specs.declared.text.TextRecord.{TextRecord}
use Rattle.text_host.specs.Texts.{float_of, text_size}

abbrev pub text_of : Style → ℕ → ℕ → TextRecord
text_of s letters longest = record { node = 1; style = s; letters = letters; longest_word = longest; cell_width = 8; line_height = 16 }

abbrev pub asked : Option Float → Option Float → AvailableSpace → Question
asked width height available = record {
  node = 1;
  known_dimensions = record { width = width; height = height };
  parent_size = record { width = None; height = None };
  available_space = record { width = available; height = MaxContent };
  sizing_mode = InherentSize;
  axis = Both;
}

infixl 50 ◌by◌
abbrev pub ◌by◌ : ℕ → ℕ → Option (Size Float)
width by height = Some (record { width = float_of width; height = float_of height })

-- 50 has 6 whole cells of 8, and 10 letters take 2 lines of 6
pub record Worked (s : Style) : Type 0 where
  pub definite : text_size (text_of s 10 4) (asked None None (Definite (float_of 50))) ≡ 48 by 32
  pub negative : text_size (text_of s 10 4) (asked None None (Definite (neg (float_of 50)))) ≡ 32 by 48
  pub min_content : text_size (text_of s 10 4) (asked None None MinContent) ≡ 32 by 48
  pub max_content : text_size (text_of s 10 4) (asked None None MaxContent) ≡ 80 by 16
  pub known_width : text_size (text_of s 10 4) (asked (Some (float_of 50)) None MaxContent) ≡ 50 by 32
  pub both_known : text_size (text_of s 10 4) (asked (Some (float_of 50)) (Some (float_of 20)) MinContent) ≡ 50 by 20
  pub no_letters : text_size (text_of s 0 0) (asked None None (Definite (float_of 50))) ≡ 0 by 0
  pub infinite : text_size (text_of s 10 4) (asked None None (Definite (inf false))) ≡ None
  pub out_of_bounds : text_size (text_of s 10 0) (asked None None MaxContent) ≡ None
