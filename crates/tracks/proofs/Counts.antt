-- The count of live tracks: by their indices, and how large it can be.
use Rattle.std.proofs.Common.{◌≡◌, ℕ, ◌+◌, ◌-◌, ◌^◌, ◌<◌, min, ◌*◌, ◌%◌, ◌≤◌, Bool, true, false, cond, not, eqb, List, [], ◌∷◌, length, ap, ◌∙◌, arith}
use Rattle.std.specs.List.{fold, enumerate_from}
use Rattle.std.proofs.lemmas.Bool.Decides.{nat_tests}
use Rattle.tracks.specs.Tracks.{live, live_count}
use Rattle.tracks.specs.declared.grid_track.GridTrack.{GridTrack}

-- the index after an odd one is even, and the one after an even one odd
pub odd_next : (n : ℕ) → eqb ((n + 1) % 2) 1 ≡ not (eqb (n % 2) 1)
odd_next n = grind (arith, nat_tests)

-- one step of a sum that saturates: a track and its index
abbrev pub counted : ℕ → ℕ × GridTrack → ℕ
counted n p = min (n + cond (live (eqb (p.0 % 2) 1) p.1) 1 0) (2 ^ 64 - 1)

-- it counts the live tracks, where it has room for all
pub live_by_fold : (n k : ℕ) (ts : List GridTrack) → k + length ts < 2 ^ 64 → fold counted k (enumerate_from n ts) ≡ k + live_count (eqb (n % 2) 1) ts
live_by_fold n k [] room = omega arith
live_by_fold n k (t ∷ ts) room =
    go (live (eqb (n % 2) 1) t) (λ m h. live_by_fold (n + 1) m ts (omega (arith, room, h)) ∙ ap {B = ℕ} (λ b. m + live_count b ts) (odd_next n))
  where
    go : (b : Bool) → ((m : ℕ) → m ≤ k + 1 → fold counted m (enumerate_from (n + 1) ts) ≡ m + live_count (not (eqb (n % 2) 1)) ts)
        → fold counted (min (k + cond b 1 0) (2 ^ 64 - 1)) (enumerate_from (n + 1) ts) ≡ k + (cond b 1 0 + live_count (not (eqb (n % 2) 1)) ts)
    go true next = let m : min (k + 1) (2 ^ 64 - 1) ≡ k + 1 = omega (arith, room) in rw m (next (k + 1) (omega arith) ∙ omega arith)
    go false next = let m : min (k + 0) (2 ^ 64 - 1) ≡ k = omega (arith, room) in rw m (next k (omega arith) ∙ omega arith)

-- only every second track can be live
halves : (odd : Bool) (ts : List GridTrack) → 2 * live_count odd ts ≤ length ts + cond odd 1 0
halves odd [] = omega arith
halves true (t ∷ ts) = omega (arith, one (not t.is_collapsed), halves false ts)
  where
    one : (b : Bool) → cond b 1 0 ≤ 1
    one true = omega arith
    one false = omega arith
halves false (t ∷ ts) = omega (arith, halves true ts)

pub count_bound : (ts : List GridTrack) → 2 * live_count false ts ≤ length ts
count_bound ts = omega (arith, halves false ts)
