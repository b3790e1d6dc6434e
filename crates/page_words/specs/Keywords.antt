-- The words of CSS in a page description, and what each means.
use Rattle.std.specs.Prelude.{ℕ, Bool, true, false, cond, List, [], ◌∷◌, Some, None, codes, Option}
use Rattle.std.specs.Str.{bytes_eq}
use Rattle.style.specs.declared.alignment.Direction.{Direction}
use Rattle.style.specs.declared.alignment.Direction.TheVariants.{Ltr, Rtl}
use Rattle.style.specs.declared.alignment.AlignmentSafety.{AlignmentSafety}
use Rattle.style.specs.declared.alignment.AlignmentSafety.TheVariants.{Safe, Unsafe}
use Rattle.style.specs.declared.alignment.AlignContentKeyword.{AlignContentKeyword}
use Rattle.style.specs.declared.alignment.AlignContentKeyword.TheVariants.{Normal, Start, End, FlexStart, FlexEnd, Center, Stretch, SpaceBetween, SpaceEvenly, SpaceAround}
use Rattle.page_words.specs.declared.keyword.Property.{Property}
use Rattle.page_words.specs.declared.keyword.Property.TheVariants as property

-- what the first name that a word is stands for
abbrev pub meaning_of : {X : Type 0} → List ℕ → List (List ℕ × X) → Option X
meaning_of word [] = None
meaning_of word (n ∷ ns) = cond (bytes_eq word n.0) (Some n.1) (meaning_of word ns)

-- the properties of the container
abbrev pub properties : List (List ℕ × Property)
properties =
    (codes "width", property.Width)
    ∷ (codes "height", property.Height)
    ∷ (codes "padding", property.Padding)
    ∷ (codes "border", property.Border)
    ∷ (codes "direction", property.Direction)
    ∷ (codes "justify-content", property.JustifyContent)
    ∷ (codes "align-content", property.AlignContent)
    ∷ []

abbrev pub directions : List (List ℕ × Direction)
directions = (codes "ltr", Ltr) ∷ (codes "rtl", Rtl) ∷ []

abbrev pub overflow_positions : List (List ℕ × AlignmentSafety)
overflow_positions = (codes "safe", Safe) ∷ (codes "unsafe", Unsafe) ∷ []

-- the values of `align-content` and `justify-content`
abbrev pub content_keywords : List (List ℕ × AlignContentKeyword)
content_keywords =
    (codes "normal", Normal)
    ∷ (codes "start", Start)
    ∷ (codes "end", End)
    ∷ (codes "flex-start", FlexStart)
    ∷ (codes "flex-end", FlexEnd)
    ∷ (codes "center", Center)
    ∷ (codes "stretch", Stretch)
    ∷ (codes "space-between", SpaceBetween)
    ∷ (codes "space-evenly", SpaceEvenly)
    ∷ (codes "space-around", SpaceAround)
    ∷ []

-- an overflow position goes with a positional keyword alone
abbrev pub positional : AlignContentKeyword → Bool
positional Normal = false
positional Start = true
positional End = true
positional FlexStart = true
positional FlexEnd = true
positional Center = true
positional Stretch = false
positional SpaceBetween = false
positional SpaceEvenly = false
positional SpaceAround = false
