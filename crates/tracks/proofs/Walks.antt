-- One turn and the end of the walk along an axis that is reversed or not.
use Rattle.std.proofs.Common.{◌≡◌, ℕ, zero, suc, ◌+◌, ◌-◌, ◌%◌, ◌<◌, Bool, true, false, not, eqb, List, [], ◌∷◌, ◌++◌, reverse, length, get_or, take, drop, set, sym, refl, ap, ◌∙◌, append_assoc, arith}
use Rattle.std.proofs.lemmas.Bool.Decides.{nat_tests}
use Rattle.std.proofs.lemmas.List.{take_more_set, drop-set-lt, at_drop_more, reverse-append, reverse-reverse, length-reverse, length-set, get_or-reverse, set_at, set-append_left}
use Rattle.tracks.specs.Tracks.{positioned, onward, walked, in_order}
use Rattle.tracks.specs.declared.grid_track.GridTrack.{GridTrack}
use Rattle.tracks.specs.declared.walk.TrackWalk.{TrackWalk}
use Rattle.tracks.proofs.Counts.{odd_next}

-- where the track is stored that comes k places later in the walk along n tracks
abbrev pub stored_at : (rev : Bool) (n k : ℕ) → ℕ
stored_at false n k = k
stored_at true n k = n - 1 - k

-- whether that index is odd, and so on past the end
abbrev pub is_odd : (rev : Bool) (n k : ℕ) → Bool
is_odd false n k = eqb (k % 2) 1
is_odd true n k = eqb ((n + k) % 2) 0

pub odd_there : (rev : Bool) (n k : ℕ) → k < n → eqb (stored_at rev n k % 2) 1 ≡ is_odd rev n k
odd_there false n k h = refl
odd_there true n k h = grind (arith, nat_tests)

odd_later : (rev : Bool) (n k : ℕ) → is_odd rev n (k + 1) ≡ not (is_odd rev n k)
odd_later false n k = odd_next k
odd_later true n k = grind (arith, nat_tests)

-- ---- tracks in the order of the walk

reverse_set : {X : Type 0} (xs : List X) (j k : ℕ) (y : X) → j + k + 1 ≡ length xs → reverse (set xs j y) ≡ set (reverse xs) k y
reverse_set [] j k y h = absurd (omega arith)
reverse_set (x ∷ xs) zero k y h =
    let n : length (reverse xs) ≡ k = omega (arith, length-reverse xs) in
    reverse-append (y ∷ []) xs ∙ sym (ap (λ l. set l k y) (reverse-append (x ∷ []) xs) ∙ set_at (reverse xs) x [] y k n)
reverse_set (x ∷ xs) (suc j) k y h =
    let n : k < length (reverse xs) = omega (arith, length-reverse xs) in
    reverse-append (x ∷ []) (set xs j y) ∙ ap (λ l. l ++ x ∷ []) (reverse_set xs j k y (omega arith)) ∙ sym (ap (λ l. set l k y) (reverse-append (x ∷ []) xs) ∙ set-append_left (reverse xs) (x ∷ []) k y n)

set_in_order : (rev : Bool) (ts : List GridTrack) (k : ℕ) (u : GridTrack) → k < length ts → in_order rev (set ts (stored_at rev (length ts) k) u) ≡ set (in_order rev ts) k u
set_in_order false ts k u h = refl
set_in_order true ts k u h = reverse_set ts (length ts - 1 - k) k u (omega arith)

get_in_order : (rev : Bool) (ts : List GridTrack) (k : ℕ) (d : GridTrack) → k < length ts → get_or (in_order rev ts) k d ≡ get_or ts (stored_at rev (length ts) k) d
get_in_order false ts k d h = refl
get_in_order true ts k d h = get_or-reverse ts k d h

pub length_in_order : (rev : Bool) (ts : List GridTrack) → length (in_order rev ts) ≡ length ts
length_in_order false ts = refl
length_in_order true ts = length-reverse ts

pub twice_in_order : (rev : Bool) (ts : List GridTrack) → in_order rev (in_order rev ts) ≡ ts
twice_in_order false ts = refl
twice_in_order true ts = reverse-reverse ts

-- ---- the walk from place k on, tracks in its order

abbrev pub Onward : (odd : Bool) → List GridTrack → ℕ → TrackWalk → List GridTrack
Onward odd ws k w = take k ws ++ walked odd w (drop k ws)

onward_more : (odd : Bool) (ws : List GridTrack) (k : ℕ) (w v : TrackWalk) (u d : GridTrack) → k < length ws → u ≡ positioned odd w (get_or ws k d) → v ≡ onward odd w (get_or ws k d)
    → Onward (not odd) (set ws k u) (k + 1) v ≡ Onward odd ws k w
onward_more odd ws k w v u d l hu hv =
    let below : k < k + 1 = omega arith in
    let a = take_more_set ws k u l in
    let b = drop-set-lt (k + 1) ws k u below in
    let e : walked odd w (drop k ws) ≡ positioned odd w (get_or ws k d) ∷ walked (not odd) (onward odd w (get_or ws k d)) (drop (k + 1) ws) = at_drop_more (walked odd w) ws k d l in
    let j = append_assoc (take k ws) (u ∷ []) (walked (not odd) v (drop (k + 1) ws)) in
    cc

-- what the walk leaves, in its order, once it went k places and stands at w
abbrev pub Left : (rev : Bool) → List GridTrack → ℕ → TrackWalk → List GridTrack
Left rev ts k w = Onward (is_odd rev (length ts) k) (in_order rev ts) k w

pub left_more : (rev : Bool) (ts all : List GridTrack) (k i : ℕ) (w v : TrackWalk) (u d : GridTrack) → k < length ts → i ≡ stored_at rev (length ts) k
    → u ≡ positioned (eqb (i % 2) 1) w (get_or ts i d) → v ≡ onward (eqb (i % 2) 1) w (get_or ts i d) → Left rev ts k w ≡ all → Left rev (set ts i u) (k + 1) v ≡ all
left_more rev ts all k i w v u d l at hu hv inv =
    let n = length ts in
    let ws = in_order rev ts in
    let o : eqb (i % 2) 1 ≡ is_odd rev n k = ap (λ j. eqb (j % 2) 1) at ∙ odd_there rev n k l in
    let g : get_or ws k d ≡ get_or ts i d = get_in_order rev ts k d l ∙ ap (λ j. get_or ts j d) (sym at) in
    let s : in_order rev (set ts i u) ≡ set ws k u = ap (λ j. in_order rev (set ts j u)) at ∙ set_in_order rev ts k u l in
    let m : length (set ts i u) ≡ n = length-set ts i u in
    let p : is_odd rev n (k + 1) ≡ not (is_odd rev n k) = odd_later rev n k in
    let h : k < length ws = omega (arith, length_in_order rev ts) in
    let hu' : u ≡ positioned (is_odd rev n k) w (get_or ws k d) = cc in
    let hv' : v ≡ onward (is_odd rev n k) w (get_or ws k d) = cc in
    let one = onward_more (is_odd rev n k) ws k w v u d h hu' hv' in
    ap (λ q. Onward (is_odd rev q (k + 1)) (in_order rev (set ts i u)) (k + 1) v) m ∙ ap (λ xs. Onward (is_odd rev n (k + 1)) xs (k + 1) v) s ∙ ap (λ odd. Onward odd (set ws k u) (k + 1) v) p ∙ one ∙ inv
