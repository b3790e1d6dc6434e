-- How alignment subjects share the free space of their container: distribution, fallback alignment and overflow position of CSS Box Alignment 3.
use Rattle.std.specs.Prelude.{ℕ, ◌+◌, ◌-◌, Bool, cond, ◌&&◌, ◌||◌, pos, from_bits, nat_le, Float}
use Rattle.std.specs.Float.Ieee.{div, le, of_int}
use Rattle.std.specs.Float.{float_max, binary32}
use Rattle.style.specs.Alignment.{safe}
use Rattle.style.specs.declared.alignment.AlignContentKeyword.{AlignContentKeyword}
use Rattle.style.specs.declared.alignment.AlignContentKeyword.TheVariants.{Normal, Start, End, FlexStart, FlexEnd, Center, Stretch, SpaceBetween, SpaceEvenly, SpaceAround}
use Rattle.style.specs.declared.alignment.AlignmentSafety.TheVariants.{Safe}
use Rattle.style.specs.Alignment.{AlignContent}

abbrev pub zero : Float
zero = from_bits binary32 0

abbrev pub two : Float
two = from_bits binary32 0x4000_0000

-- a count as a number
abbrev pub count : ℕ → Float
count n = of_int binary32 (pos n)

abbrev pub per : Float → Float → Float
per = div binary32

-- ---- which alignment is used

-- on a grid container `normal` behaves as `stretch`
abbrev pub behaves_as : AlignContentKeyword → AlignContentKeyword
behaves_as Normal = Stretch
behaves_as Start = Start
behaves_as End = End
behaves_as FlexStart = FlexStart
behaves_as FlexEnd = FlexEnd
behaves_as Center = Center
behaves_as Stretch = Stretch
behaves_as SpaceBetween = SpaceBetween
behaves_as SpaceEvenly = SpaceEvenly
behaves_as SpaceAround = SpaceAround

abbrev pub safely : AlignContentKeyword → AlignContent
safely keyword = record { keyword = keyword; safety = Safe }

-- a distribution's fallback alignment, which is safe; a positional alignment stays
abbrev pub fallback : AlignContentKeyword → AlignContent → AlignContent
fallback Normal a = safely FlexStart
fallback Start a = a
fallback End a = a
fallback FlexStart a = a
fallback FlexEnd a = a
fallback Center a = a
fallback Stretch a = safely FlexStart
fallback SpaceBetween a = safely FlexStart
fallback SpaceEvenly a = safely Center
fallback SpaceAround a = safely Center

-- there is nothing to distribute to a single subject, or without space
abbrev pub cannot_distribute : Float → ℕ → Bool
cannot_distribute free subjects = nat_le subjects 1 || le free zero

-- a safe alignment of what leaves no space becomes start
abbrev pub overflow_position : Float → AlignContent → AlignContentKeyword
overflow_position free a = cond (le free zero && safe a.safety) Start (behaves_as a.keyword)

abbrev pub used_alignment : Float → ℕ → AlignContent → AlignContentKeyword
used_alignment free subjects a = overflow_position free (cond (cannot_distribute free subjects) (fallback a.keyword a) a)

-- ---- how much space stands where

-- before the first subject
abbrev pub first_share_of : Float → ℕ → AlignContentKeyword → Float
first_share_of free subjects Normal = zero
first_share_of free subjects Start = zero
first_share_of free subjects End = free
first_share_of free subjects FlexStart = zero
first_share_of free subjects FlexEnd = free
first_share_of free subjects Center = per free two
first_share_of free subjects Stretch = zero
first_share_of free subjects SpaceBetween = zero
first_share_of free subjects SpaceEvenly = per free (count (subjects + 1))
first_share_of free subjects SpaceAround = per (per free (count subjects)) two

-- between each two of them, free space below zero counting as none
abbrev pub gap : Float → ℕ → AlignContentKeyword → Float
gap free subjects Normal = zero
gap free subjects Start = zero
gap free subjects End = zero
gap free subjects FlexStart = zero
gap free subjects FlexEnd = zero
gap free subjects Center = zero
gap free subjects Stretch = zero
gap free subjects SpaceBetween = per (float_max free zero) (count (subjects - 1))
gap free subjects SpaceEvenly = per (float_max free zero) (count (subjects + 1))
gap free subjects SpaceAround = per (float_max free zero) (count subjects)
