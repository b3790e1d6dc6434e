-- A container as it is said: what stands where nothing was said, the range of its numbers, and what a declaration changes.
use Rattle.std.specs.Prelude.{◌≡◌, ℕ, List, IfSome, Some, None, Ok, Err, Option, Result, from_bits, Float}
use Rattle.std.specs.Float.{binary32}
use Rattle.std.specs.Option.{unwrap_or}
use Rattle.geometry.specs.declared.Rect.{Rect}
use Rattle.style.specs.declared.alignment.Direction.{Direction}
use Rattle.style.specs.declared.alignment.Direction.TheVariants.{Ltr}
use Rattle.style.specs.declared.alignment.AlignmentSafety.TheVariants.{Default}
use Rattle.style.specs.Alignment.{AlignContent}
use Rattle.style.specs.declared.alignment.AlignContentKeyword.TheVariants.{Stretch}
use Rattle.page_words.specs.WrittenSizes.{size_read}
use Rattle.page_words.specs.Keywords.{meaning_of, directions}
use Rattle.page_words.specs.declared.keyword.Property.{Property}
use Rattle.page_words.specs.declared.keyword.Property.TheVariants as property
use Rattle.page_text.specs.Places.{filled, filling}
use Rattle.page_text.specs.Ranges.{SizeInRange, SidesInRange, Aligns}
use Rattle.page_text.specs.declared.container_text.ContainerText.{ContainerText}
use Rattle.page_text.specs.declared.page_description.ContainerDescription.{ContainerDescription}
use Rattle.page_text.specs.declared.read_error.Expected.{Expected}
use Rattle.page_text.specs.declared.read_error.Expected.TheVariants as expected

-- ---- what was not said

abbrev pub no_sides : Rect Float
no_sides = record { left = from_bits binary32 0; right = from_bits binary32 0; top = from_bits binary32 0; bottom = from_bits binary32 0 }

-- `normal` behaves as `stretch` on a grid
abbrev pub stretched : AlignContent
stretched = record { keyword = Stretch; safety = Default }

abbrev pub with_size : ContainerText → Float → Float → ContainerDescription
with_size t width height = record {
  content_size = record { width = width; height = height };
  padding = unwrap_or t.padding no_sides;
  border = unwrap_or t.border no_sides;
  direction = unwrap_or t.direction Ltr;
  justify_content = unwrap_or t.justify_content stretched;
  align_content = unwrap_or t.align_content stretched;
}

abbrev pub with_height : ContainerText → Float → Option Float → Result ContainerDescription Expected
with_height t width None = Err expected.Height
with_height t width (Some height) = Ok (with_size t width height)

abbrev pub with_width : ContainerText → Option Float → Option Float → Result ContainerDescription Expected
with_width t None height = Err expected.Width
with_width t (Some width) height = with_height t width height

-- the size is asked for, the width first
abbrev pub container_finished : ContainerText → Result ContainerDescription Expected
container_finished t = with_width t t.width t.height

-- ---- ranges

pub record ContainerInRange (c : ContainerDescription) : Type 0 where
  pub content_width : SizeInRange c.content_size.width
  pub content_height : SizeInRange c.content_size.height
  pub padding_sides : SidesInRange c.padding
  pub border_sides : SidesInRange c.border
  pub columns_align : Aligns c.justify_content
  pub rows_align : Aligns c.align_content

-- ---- declarations

-- what fills each place of a container
pub record Said : Type 0 where
  pub width : Option Float
  pub height : Option Float
  pub padding : Option (Rect Float)
  pub border : Option (Rect Float)
  pub direction : Option Direction
  pub justify_content : Option AlignContent
  pub align_content : Option AlignContent

abbrev pub said : ContainerText → Said
said t = record { width = t.width; height = t.height; padding = t.padding; border = t.border; direction = t.direction; justify_content = t.justify_content; align_content = t.align_content }

-- the value v of a property was taken: t became u, and r is the answer. Of sides and alignments it says the range, not how they are read
abbrev pub Takes : Property → List ℕ → ContainerText → ContainerText → Result (Unit {0}) Expected → Type 0
Takes property.Width v t u r = (said u ≡ record (said t) { width = filled t.width (size_read v) }) × (r ≡ filling t.width (size_read v) expected.Size)
Takes property.Height v t u r = (said u ≡ record (said t) { height = filled t.height (size_read v) }) × (r ≡ filling t.height (size_read v) expected.Size)
Takes property.Padding v t u r = (s : Option (Rect Float)) × IfSome s SidesInRange × (said u ≡ record (said t) { padding = filled t.padding s }) × (r ≡ filling t.padding s expected.Sides)
Takes property.Border v t u r = (s : Option (Rect Float)) × IfSome s SidesInRange × (said u ≡ record (said t) { border = filled t.border s }) × (r ≡ filling t.border s expected.Sides)
Takes property.Direction v t u r = (said u ≡ record (said t) { direction = filled t.direction (meaning_of v directions) }) × (r ≡ filling t.direction (meaning_of v directions) expected.Direction)
Takes property.JustifyContent v t u r = (a : Option AlignContent) × IfSome a Aligns × (said u ≡ record (said t) { justify_content = filled t.justify_content a }) × (r ≡ filling t.justify_content a expected.TrackAlignment)
Takes property.AlignContent v t u r = (a : Option AlignContent) × IfSome a Aligns × (said u ≡ record (said t) { align_content = filled t.align_content a }) × (r ≡ filling t.align_content a expected.TrackAlignment)

-- a property of no name is refused, and changes nothing
abbrev pub Declares : Option Property → List ℕ → ContainerText → ContainerText → Result (Unit {0}) Expected → Type 0
Declares None v t u r = (u ≡ t) × (r ≡ Err expected.Property)
Declares (Some p) v t u r = Takes p v t u r
