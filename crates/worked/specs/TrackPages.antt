-- Worked rows of tracks: for each, the offsets of its tracks in storage order.
use Rattle.std.specs.Prelude.{ℕ, Bool, true, false, ◌&&◌, T, List, [], ◌∷◌, ℤ, pos, negsuc, Float}
use Rattle.std.specs.Float.{binary32}
use Rattle.std.specs.Float.Ieee.{eq, of_int}
use Rattle.style.specs.Alignment.{AlignContent}
use Rattle.style.specs.declared.alignment.AlignContentKeyword.{AlignContentKeyword}
use Rattle.style.specs.declared.alignment.AlignContentKeyword.TheVariants.{End, Center, Stretch, SpaceBetween, SpaceEvenly, SpaceAround}
use Rattle.style.specs.declared.alignment.AlignmentSafety.TheVariants.{Default, Safe}
use Rattle.tracks.specs.Distribution.{zero}
use Rattle.tracks.specs.Tracks.{aligned}
use Rattle.tracks.specs.declared.grid_track.GridTrack.{GridTrack}

abbrev pub whole : ℤ → Float
whole = of_int binary32

-- a track of a whole base size, live or collapsed
abbrev pub track : ℕ → GridTrack
track size = record { is_collapsed = false; offset = zero; base_size = whole (pos size) }

abbrev pub collapsed_track : GridTrack
collapsed_track = record { is_collapsed = true; offset = zero; base_size = zero }

abbrev pub plain : AlignContentKeyword → AlignContent
plain keyword = record { keyword = keyword; safety = Default }

abbrev pub safe : AlignContentKeyword → AlignContent
safe keyword = record { keyword = keyword; safety = Safe }

-- two columns between gutters
abbrev pub two_columns : List GridTrack
two_columns = track 0 ∷ track 20 ∷ track 10 ∷ track 30 ∷ track 0 ∷ []

abbrev pub one_column : List GridTrack
one_column = track 0 ∷ track 20 ∷ track 0 ∷ []

abbrev pub all_collapsed : List GridTrack
all_collapsed = track 0 ∷ collapsed_track ∷ track 0 ∷ []

pub record Page : Type 0 where
  pub content : ℕ
  pub alignment : AlignContent
  pub reversed : Bool
  pub tracks : List GridTrack
  pub offsets : List ℤ

abbrev pub page : ℕ → AlignContent → Bool → List GridTrack → List ℤ → Page
page content alignment reversed tracks offsets = record { content = content; alignment = alignment; reversed = reversed; tracks = tracks; offsets = offsets }

-- the origin is 0 throughout
abbrev pub pages : List Page
pages =
    page 100 (plain SpaceBetween) false two_columns (pos 0 ∷ pos 0 ∷ pos 20 ∷ pos 70 ∷ pos 100 ∷ [])
    ∷ page 100 (plain Stretch) true two_columns (pos 100 ∷ pos 80 ∷ pos 70 ∷ pos 40 ∷ pos 0 ∷ [])
    ∷ page 50 (plain Center) false two_columns (pos 0 ∷ negsuc 4 ∷ pos 15 ∷ pos 25 ∷ pos 55 ∷ [])
    ∷ page 50 (safe Center) false two_columns (pos 0 ∷ pos 0 ∷ pos 20 ∷ pos 30 ∷ pos 60 ∷ [])
    ∷ page 100 (plain SpaceAround) false two_columns (pos 0 ∷ pos 10 ∷ pos 30 ∷ pos 60 ∷ pos 90 ∷ [])
    ∷ page 63 (plain SpaceEvenly) false two_columns (pos 0 ∷ pos 1 ∷ pos 21 ∷ pos 32 ∷ pos 62 ∷ [])
    ∷ page 100 (plain SpaceAround) false one_column (pos 0 ∷ pos 40 ∷ pos 60 ∷ [])
    ∷ page 100 (plain End) false all_collapsed (pos 100 ∷ pos 100 ∷ pos 100 ∷ [])
    ∷ []

-- one offset for each number, and equal to it as a number, so that the sign of a zero is free
abbrev pub stands_at : List GridTrack → List ℤ → Bool
stands_at [] [] = true
stands_at [] (z ∷ zs) = false
stands_at (t ∷ ts) [] = false
stands_at (t ∷ ts) (z ∷ zs) = eq t.offset (whole z) && stands_at ts zs

abbrev pub holds : Page → Bool
holds p = stands_at (aligned (whole (pos p.content)) zero p.alignment p.reversed p.tracks) p.offsets

abbrev pub all_hold : List Page → Bool
all_hold [] = true
all_hold (p ∷ ps) = holds p && all_hold ps

abbrev pub PagesHold : Type 0
PagesHold = T (all_hold pages)
