-- What it is for tracks to be aligned, track by track in the order of the walk, with no word on how offsets are found.
use Rattle.std.specs.Prelude.{◌≡◌, ℕ, zero, suc, ◌<◌, Bool, false, not, ◌||◌, T, List, [], ◌∷◌, map, length, get_or, take, slice_index_or, Float}
use Rattle.std.specs.Float.Ieee.{le}
use Rattle.style.specs.Alignment.{AlignContent}
use Rattle.tracks.specs.Distribution as Distribution
use Rattle.tracks.specs.Tracks.{plus, live, begins, track_alignment, start_place, starts_odd, in_order}
use Rattle.tracks.specs.declared.grid_track.GridTrack.{GridTrack}
use Rattle.tracks.specs.declared.track_alignment.TrackAlignment.{TrackAlignment}

-- where a track ends
abbrev pub end : GridTrack → Float
end t = plus t.offset t.base_size

-- whether the track that comes k places later has an odd index
abbrev pub odd_at : Bool → ℕ → Bool
odd_at odd zero = odd
odd_at odd (suc k) = odd_at (not odd) k

abbrev pub any_live : (odd : Bool) → List GridTrack → Bool
any_live odd [] = false
any_live odd (t ∷ ts) = live odd t || any_live (not odd) ts

-- ws, in the order of the walk: the first track begins at the start, each later one where the one before it ends; before the first live
-- one stands the first share, before each later live one the gap
pub record Chain (a : TrackAlignment) (start : Float) (odd : Bool) (ws : List GridTrack) : Type 0 where
  pub first : (d : GridTrack) → 0 < length ws → (get_or ws 0 d).offset ≡ begins a false (live odd (slice_index_or ws 0 d)) start
  pub next : (k : ℕ) (d : GridTrack) → suc k < length ws
      → (get_or ws (suc k) d).offset ≡ begins a (any_live odd (take (suc k) ws)) (live (odd_at odd (suc k)) (slice_index_or ws (suc k) d)) (end (slice_index_or ws k d))

-- a track but for its offset
abbrev pub mark_and_size : GridTrack → Bool × Float
mark_and_size t = (t.is_collapsed, t.base_size)

-- us is ts, its tracks aligned along an axis that begins at the origin
pub record Aligned (content origin : Float) (style : AlignContent) (rev : Bool) (ts us : List GridTrack) : Type 0 where
  pub only_offsets_change : map mark_and_size us ≡ map mark_and_size ts
  pub in_a_chain : (let a = track_alignment content style rev ts in Chain a (start_place origin a) (starts_odd rev (length ts)) (in_order rev us))
  pub gap_not_negative : T (le Distribution.zero (track_alignment content style rev ts).gap)

-- from the first live track on, no track begins before the one walked before it ends
abbrev pub Apart : (odd : Bool) → List GridTrack → Type 0
Apart odd ws = (k : ℕ) (d : GridTrack) → suc k < length ws → T (any_live odd (take (suc k) ws)) → T (le (end (slice_index_or ws k d)) (get_or ws (suc k) d).offset)
