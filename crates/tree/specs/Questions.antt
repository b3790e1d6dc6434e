-- Questions that are equal in every bit, and the one test by which an answer that was recorded is given again.
use Rattle.std.specs.Prelude.{Bool, true, false, ◌&&◌, ◌==◌, Float}
use Rattle.style.specs.declared.modes.SizingMode.{SizingMode}
use Rattle.style.specs.declared.modes.SizingMode.TheVariants.{ContentSize, InherentSize}
use Rattle.style.specs.declared.modes.RequestedAxis.{RequestedAxis}
use Rattle.style.specs.declared.modes.RequestedAxis.TheVariants.{Horizontal, Vertical, Both}
use Rattle.tree.specs.declared.question.Question.{Question}
use Rattle.tree.specs.Bits.{same_f32, same_option, same_space, same_size, is_number}
use Rattle.tree.specs.Numbers.{every_option, every_space, every_size}

abbrev pub same_mode : SizingMode → SizingMode → Bool
same_mode ContentSize ContentSize = true
same_mode ContentSize InherentSize = false
same_mode InherentSize ContentSize = false
same_mode InherentSize InherentSize = true

abbrev pub same_axis : RequestedAxis → RequestedAxis → Bool
same_axis Horizontal Horizontal = true
same_axis Horizontal Vertical = false
same_axis Horizontal Both = false
same_axis Vertical Horizontal = false
same_axis Vertical Vertical = true
same_axis Vertical Both = false
same_axis Both Horizontal = false
same_axis Both Vertical = false
same_axis Both Both = true

abbrev pub same_question : Question → Question → Bool
same_question a b =
    (a.node == b.node)
    && (same_size (same_option same_f32) a.known_dimensions b.known_dimensions
    && (same_size (same_option same_f32) a.parent_size b.parent_size
    && (same_size same_space a.available_space b.available_space
    && (same_mode a.sizing_mode b.sizing_mode
    && same_axis a.axis b.axis))))

-- every number of a question passes a test
abbrev pub every_number : (Float → Bool) → Question → Bool
every_number test q =
    every_size (every_option test) q.known_dimensions
    && (every_size (every_option test) q.parent_size
    && every_size (every_space test) q.available_space)

-- what was recorded for one question is the answer to another: equal in every bit, and without NaN
abbrev pub answers_for : Question → Question → Bool
answers_for recorded asked = same_question recorded asked && every_number is_number asked
