-- The tracks and gutters of a page description: a size each, or a size in `collapsed(..)`.
use Rattle.std.specs.Prelude.{◌≡◌, ℕ, ◌<◌, ◌≤◌, Bool, true, false, T, List, [], ◌∷◌, ◌++◌, length, Some, None, codes, Option, from_bits, Float}
use Rattle.std.specs.Float.{binary32}
use Rattle.std.specs.Option.{option_map}
use Rattle.std.specs.Char.{is_whitespace, is_not_whitespace}
use Rattle.std.specs.Str.{NoCharPasses, EmptyOrStartsWithPassing}
use Rattle.std.specs.List.{AllByRecursion}
use Rattle.tracks.specs.declared.grid_track.GridTrack.{GridTrack}
use Rattle.page_words.specs.WrittenSizes.{size_in_range, size_read}

-- a track that has no place yet
abbrev pub unplaced : Bool → Float → GridTrack
unplaced collapsed size = record { is_collapsed = collapsed; offset = from_bits binary32 0; base_size = size }

-- what the word w is read as: in `collapsed(` and `)` a collapsed track, else a track
pub record TrackRead (w : List ℕ) (r : Option GridTrack) : Type 0 where
  pub plain : ((rest : List ℕ) → w ≡ codes "collapsed(" ++ rest → ⊥) → r ≡ option_map (unplaced false) (size_read w)
  pub enclosed : (inside : List ℕ) → w ≡ codes "collapsed(" ++ (inside ++ codes ")") → r ≡ option_map (unplaced true) (size_read inside)
  pub left_open : (rest : List ℕ) → w ≡ codes "collapsed(" ++ rest → ((inside : List ℕ) → rest ≡ inside ++ codes ")" → ⊥) → r ≡ None

pub record TrackInRange (t : GridTrack) : Type 0 where
  pub track_size : T (size_in_range t.base_size)
  pub no_place : t.offset ≡ from_bits binary32 0

-- the tracks of an axis so far
pub record TracksInRange (ts : List GridTrack) : Type 0 where
  pub few : length ts ≤ 513
  pub each : AllByRecursion TrackInRange ts

-- w is the first word of a text, and the rest follows it
pub record FirstWord (text w rest : List ℕ) : Type 0 where
  pub before : List ℕ
  pub stands : text ≡ before ++ (w ++ rest)
  pub only_white_before : NoCharPasses is_not_whitespace before
  pub no_white_inside : NoCharPasses is_whitespace w
  pub not_empty : 0 < length w
  pub white_after : (more : List ℕ) × EmptyOrStartsWithPassing is_whitespace rest more

-- ws are the words of a text: what stands between white space
abbrev pub Words : List ℕ → List (List ℕ) → Type 0
Words text [] = NoCharPasses is_not_whitespace text
Words text (w ∷ ws) = (rest : List ℕ) × FirstWord text w rest × Words rest ws

-- each word is a track
abbrev pub TracksRead : List (List ℕ) → List GridTrack → Type 0
TracksRead [] [] = Unit {0}
TracksRead [] (t ∷ ts) = ⊥
TracksRead (w ∷ ws) [] = ⊥
TracksRead (w ∷ ws) (t ∷ ts) = TrackRead w (Some t) × TracksRead ws ts

-- the tracks of a line go on after those before it
pub record GoesOn (text : List ℕ) (was is : List GridTrack) : Type 0 where
  pub words : List (List ℕ)
  pub more : List GridTrack
  pub of_text : Words text words
  pub of_words : TracksRead words more
  pub after : is ≡ was ++ more
