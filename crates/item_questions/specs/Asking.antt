-- The questions that placing an item puts to its host: zeros go down without sign, and answers are taken if their numbers are in limits.
use Rattle.std.specs.Prelude.{◌≡◌, ℕ, Bool, cond, Some, None, Ok, Err, Option, Result, Float}
use Rattle.geometry.specs.declared.Size.{Size}
use Rattle.number.specs.Limits.{in_limits}
use Rattle.number.specs.Zeros.{without_zero_sign}
use Rattle.style.specs.Ranges.{first_out_of_range}
use Rattle.style.specs.declared.length.AvailableSpace.{AvailableSpace}
use Rattle.style.specs.declared.length.AvailableSpace.TheVariants.{Definite, MinContent, MaxContent}
use Rattle.style.specs.declared.range.StyleField.{StyleField}
use Rattle.style.specs.declared.style.Style.{Style}
use Rattle.tree.specs.Meaning.{Means, measures, lays_out, fetches, styles_at, Counts}
use Rattle.tree.specs.Numbers.{every_size, every_layout, every_candidate}
use Rattle.tree.specs.declared.fault.HostFault.{HostFault}
use Rattle.tree.specs.declared.layout.LayoutOutput.{LayoutOutput}
use Rattle.tree.specs.declared.layout.OofCandidate.{OofCandidate}
use Rattle.tree.specs.declared.question.Question.{Question}
use Rattle.tree.specs.declared.traits.LayoutPartialTree.{Ghosts}
use Rattle.item_questions.specs.declared.fault.ItemFault.{ItemFault}
use Rattle.item_questions.specs.declared.fault.ItemFault.TheVariants.{Host, StyleOutOfRange, SizeOutOfLimits, LayoutOutOfLimits, CandidateOutOfLimits}

-- ---- zeros without sign

abbrev pub unsigned_option : Option Float → Option Float
unsigned_option None = None
unsigned_option (Some x) = Some (without_zero_sign x)

abbrev pub unsigned_space : AvailableSpace → AvailableSpace
unsigned_space (Definite x) = Definite (without_zero_sign x)
unsigned_space MinContent = MinContent
unsigned_space MaxContent = MaxContent

abbrev pub both_sides : {A B : Type 0} → (A → B) → Size A → Size B
both_sides f s = record { width = f s.width; height = f s.height }

abbrev pub unsigned : Question → Question
unsigned q = record {
  node = q.node;
  known_dimensions = both_sides unsigned_option q.known_dimensions;
  parent_size = both_sides unsigned_option q.parent_size;
  available_space = both_sides unsigned_space q.available_space;
  sizing_mode = q.sizing_mode;
  axis = q.axis;
}

-- ---- answers in limits

abbrev pub taken : {A : Type 0} → (A → Bool) → ItemFault → Result A HostFault → Result A ItemFault
taken in_range fault (Err f) = Err (Host f)
taken in_range fault (Ok a) = cond (in_range a) (Ok a) (Err fault)

-- what is not there is in limits
abbrev pub layout_in_limits : LayoutOutput → Bool
layout_in_limits = every_layout in_limits

abbrev pub candidate_in_limits : OofCandidate → Bool
candidate_in_limits = every_candidate in_limits

-- both sides of a measured size count, whichever was wanted
abbrev pub measured : Means → Question → Result (Size Float) ItemFault
measured m q = taken (every_size in_limits) SizeOutOfLimits (measures m (unsigned q))

abbrev pub laid_out : Means → Question → Result LayoutOutput ItemFault
laid_out m q = taken layout_in_limits LayoutOutOfLimits (lays_out m (unsigned q))

abbrev pub fetched : Means → Question → ℕ → Result OofCandidate ItemFault
fetched m q i = taken candidate_in_limits (CandidateOutOfLimits i) (fetches m (unsigned q) i)

-- the style, if each of its numbers is in range
abbrev pub style_or_field : Style → Option StyleField → Result Style ItemFault
style_or_field s None = Ok s
style_or_field s (Some f) = Err (StyleOutOfRange f)

abbrev pub ranged : Result Style HostFault → Result Style ItemFault
ranged (Err f) = Err (Host f)
ranged (Ok s) = style_or_field s (first_out_of_range s)

abbrev pub styled : Means → ℕ → Result Style ItemFault
styled m n = ranged (styles_at m n)

-- ---- what a question leaves behind

-- the host is in order and means what it did, and a tally on top has counted this
pub record Asked {H : Type 0} (host : Ghosts H) (before after : H) (counted : Option Counts → Option Counts) : Type 0 where
  pub order : host.ordered after
  pub same : host.meaning after ≡ host.meaning before
  pub counts : host.tallied after ≡ counted (host.tallied before)
