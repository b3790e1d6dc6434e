-- A walk keeps the law of aligned tracks, and only the walk does.
use Rattle.std.proofs.Common.{◌≡◌, ℕ, zero, suc, ◌<◌, Bool, true, false, not, ◌&&◌, ◌||◌, List, [], ◌∷◌, ◌++◌, map, reverse, length, get_or, take, cond, sym, refl, ap, ◌∙◌, subst, suc-le-suc, zero-le, le_of_suc-le-suc, not-suc-le-zero}
use lib.Ieee.{Float}
use Rattle.std.proofs.lemmas.List.{reverse-append, map-append}
use Rattle.tracks.specs.Tracks.{plus, live, begins, begin, positioned, onward, walked, start_place, start_walk}
use Rattle.tracks.specs.Aligned.{Chain, end, odd_at, any_live, mark_and_size}
use Rattle.tracks.specs.declared.grid_track.GridTrack.{GridTrack}
use Rattle.tracks.specs.declared.track_alignment.TrackAlignment.{TrackAlignment}
use Rattle.tracks.specs.declared.walk.TrackWalk.{TrackWalk}

-- the share that is left, once a live track was seen, and then perhaps another
share_left : (a b : Bool) (first gap : Float) → cond b gap (cond a gap first) ≡ cond (a || b) gap first
share_left true true first gap = refl
share_left true false first gap = refl
share_left false b first gap = refl

-- what a live track adds before it, along a walk that stands at w, where none or some of the tracks since then was live
abbrev spaced : TrackWalk → (seen live : Bool) → Float → Float
spaced w seen live place = cond live (plus place (cond seen w.gap w.share)) place

-- the chain of a walk that stands at w
record ChainFrom (odd : Bool) (w : TrackWalk) (ws : List GridTrack) : Type 0 where
  pub first : (d : GridTrack) → 0 < length ws → (get_or ws 0 d).offset ≡ spaced w false (live odd (get_or ws 0 d)) w.place
  pub next : (k : ℕ) (d : GridTrack) → suc k < length ws
      → (get_or ws (suc k) d).offset ≡ spaced w (any_live odd (take (suc k) ws)) (live (odd_at odd (suc k)) (get_or ws (suc k) d)) (end (get_or ws k d))

-- the walk one track on leaves what the walk left
one_on : (odd : Bool) (w : TrackWalk) (t : GridTrack) (seen l : Bool) (place : Float) → spaced (onward odd w t) seen l place ≡ spaced w (live odd t || seen) l place
one_on odd w t seen l place = ap (λ (s : Float). cond l (plus place s) place) (share_left (live odd t) seen w.share w.gap)

more : (odd : Bool) (w : TrackWalk) (t : GridTrack) (us : List GridTrack) → ChainFrom (not odd) (onward odd w t) us → ChainFrom odd w (positioned odd w t ∷ us)
more odd w t us c = record {
  first = λ d h. refl;
  next = λ k d h. go k d (le_of_suc-le-suc h);
}
  where
    go : (k : ℕ) (d : GridTrack) → k < length us → (let ws = positioned odd w t ∷ us in (get_or ws (suc k) d).offset ≡ spaced w (any_live odd (take (suc k) ws)) (live (odd_at odd (suc k)) (get_or ws (suc k) d)) (end (get_or ws k d)))
    go zero d h = c.first d h ∙ one_on odd w t false (live (not odd) (get_or us 0 d)) (end (positioned odd w t))
    go (suc k) d h = c.next k d h ∙ one_on odd w t (any_live (not odd) (take (suc k) us)) (live (odd_at (not odd) (suc k)) (get_or us (suc k) d)) (end (get_or us k d))

chain_from : (odd : Bool) (w : TrackWalk) (ts : List GridTrack) → ChainFrom odd w (walked odd w ts)
chain_from odd w [] = record { first = λ d h. absurd (not-suc-le-zero h); next = λ k d h. absurd (not-suc-le-zero h) }
chain_from odd w (t ∷ ts) = more odd w t (walked (not odd) (onward odd w t) ts) (chain_from (not odd) (onward odd w t) ts)

-- at its start the walk leaves what the alignment says
at_start : (origin : Float) (a : TrackAlignment) (seen l : Bool) (place : Float) → spaced (start_walk origin a) seen l place ≡ begins a seen l place
at_start origin a seen true place = refl
at_start origin a seen false place = refl

pub chain : (origin : Float) (a : TrackAlignment) (odd : Bool) (ts : List GridTrack) → Chain a (start_place origin a) odd (walked odd (start_walk origin a) ts)
chain origin a odd ts =
    let ws = walked odd (start_walk origin a) ts in
    let c = chain_from odd (start_walk origin a) ts in
    record {
      first = λ d h. c.first d h ∙ at_start origin a false (live odd (get_or ws 0 d)) (start_place origin a);
      next = λ k d h. c.next k d h ∙ at_start origin a (any_live odd (take (suc k) ws)) (live (odd_at odd (suc k)) (get_or ws (suc k) d)) (end (get_or ws k d));
    }

-- ---- marks and sizes

pub same_along : (odd : Bool) (w : TrackWalk) (ts : List GridTrack) → map mark_and_size (walked odd w ts) ≡ map mark_and_size ts
same_along odd w [] = refl
same_along odd w (t ∷ ts) = ap (λ us. mark_and_size t ∷ us) (same_along (not odd) (onward odd w t) ts)

pub map_reverse : {X Y : Type 0} (f : X → Y) (xs : List X) → map f (reverse xs) ≡ reverse (map f xs)
map_reverse f [] = refl
map_reverse f (x ∷ xs) =
    ap (map f) (reverse-append (x ∷ []) xs) ∙ map-append f (reverse xs) (x ∷ []) ∙ ap (λ ys. ys ++ f x ∷ []) (map_reverse f xs) ∙ sym (reverse-append (f x ∷ []) (map f xs))

-- ---- the converse

rest : (odd : Bool) (w : TrackWalk) (t : GridTrack) (us : List GridTrack) → ChainFrom odd w (positioned odd w t ∷ us) → ChainFrom (not odd) (onward odd w t) us
rest odd w t us c = record {
  first = λ d h. c.next 0 d (suc-le-suc h) ∙ sym (one_on odd w t false (live (not odd) (get_or us 0 d)) (end (positioned odd w t)));
  next = λ k d h. c.next (suc k) d (suc-le-suc h) ∙ sym (one_on odd w t (any_live (not odd) (take (suc k) us)) (live (odd_at (not odd) (suc k)) (get_or us (suc k) d)) (end (get_or us k d)));
}

same_head : (odd : Bool) (w : TrackWalk) (t u : GridTrack) → mark_and_size u ≡ mark_and_size t → u.offset ≡ spaced w false (live odd u) w.place → u ≡ positioned odd w t
same_head odd w t u e h =
    let c : u.is_collapsed ≡ t.is_collapsed = ap (λ (x : Bool × Float). x.0) e in
    let b : u.base_size ≡ t.base_size = ap (λ (x : Bool × Float). x.1) e in
    let o : u.offset ≡ begin odd w t = h ∙ ap (λ z. spaced w false (odd && not z) w.place) c in
    ap (λ z. made z u.offset u.base_size) c ∙ ap (λ z. made t.is_collapsed z u.base_size) o ∙ ap (λ z. made t.is_collapsed (begin odd w t) z) b
  where
    made : Bool → Float → Float → GridTrack
    made c o b = record { is_collapsed = c; offset = o; base_size = b }

walks : (odd : Bool) (w : TrackWalk) (ts us : List GridTrack) → map mark_and_size us ≡ map mark_and_size ts → ChainFrom odd w us → us ≡ walked odd w ts
walks odd w [] [] e c = refl
walks odd w [] (u ∷ us) e c = cc
walks odd w (t ∷ ts) [] e c = cc
walks odd w (t ∷ ts) (u ∷ us) e c =
    let a : mark_and_size u ≡ mark_and_size t = cc in
    let b : map mark_and_size us ≡ map mark_and_size ts = cc in
    let h : u ≡ positioned odd w t = same_head odd w t u a (c.first u (suc-le-suc zero-le)) in
    let d = subst (λ (v : GridTrack). ChainFrom odd w (v ∷ us)) h c in
    let r = walks (not odd) (onward odd w t) ts us b (rest odd w t us d) in
    cc

pub only_walk : (origin : Float) (a : TrackAlignment) (odd : Bool) (ts us : List GridTrack) → map mark_and_size us ≡ map mark_and_size ts → Chain a (start_place origin a) odd us → us ≡ walked odd (start_walk origin a) ts
only_walk origin a odd ts us e c =
    walks odd (start_walk origin a) ts us e
    record {
      first = λ d h. c.first d h ∙ sym (at_start origin a false (live odd (get_or us 0 d)) (start_place origin a));
      next = λ k d h. c.next k d h ∙ sym (at_start origin a (any_live odd (take (suc k) us)) (live (odd_at odd (suc k)) (get_or us (suc k) d)) (end (get_or us k d)));
    }
