-- The words of a text that were read as tracks, one after another.
use Rattle.std.proofs.Common.{◌≡◌, ℕ, ◌<◌, List, [], ◌∷◌, ◌++◌, length, Some, sym, ap, ◌∙◌, subst, arith}
use Rattle.std.proofs.ByRecursion.{All-push}
use Rattle.std.specs.Char.{is_not_whitespace}
use Rattle.std.specs.Str.{NoCharPasses}
use Rattle.std.proofs.lemmas.List.{append_assoc, append-nil, length_push}
use Rattle.tracks.specs.declared.grid_track.GridTrack.{GridTrack}
use Rattle.page_text.specs.WrittenTracks.{TrackRead, TrackInRange, TracksInRange, FirstWord, Words, TracksRead, GoesOn}

-- one track more
pub one_more : (ts us : List GridTrack) (t : GridTrack) → TracksInRange ts → length ts < 513 → TrackInRange t → us ≡ ts ++ t ∷ [] → TracksInRange us
one_more ts us t h few k e = rw e (record {
  few = rw length_push (omega arith);
  each = All-push TrackInRange ts t h.each k;
})

-- the words read so far, with the words of the rest, are those of the text
pub record SoFar (text rest : List ℕ) (was is : List GridTrack) : Type 0 where
  pub words : List (List ℕ)
  pub more : List GridTrack
  pub of_text : (ws : List (List ℕ)) → Words rest ws → Words text (words ++ ws)
  pub of_words : TracksRead words more
  pub after : is ≡ was ++ more

pub none_so_far : (text rest : List ℕ) (ts : List GridTrack) → rest ≡ text → SoFar text rest ts ts
none_so_far text rest ts e = record {
  words = [];
  more = [];
  of_text = λ ws h. subst (λ s. Words s ws) e h;
  of_words = tt;
  after = sym (append-nil ts);
}

read_push : (ws : List (List ℕ)) (ts : List GridTrack) (w : List ℕ) (t : GridTrack) → TracksRead ws ts → TrackRead w (Some t) → TracksRead (ws ++ w ∷ []) (ts ++ t ∷ [])
read_push [] [] w t h k = (k, tt)
read_push [] (u ∷ ts) w t h k = absurd h
read_push (v ∷ ws) [] w t h k = absurd h
read_push (v ∷ ws) (u ∷ ts) w t h k = (h.0, read_push ws ts w t h.1 k)

-- one word more
pub more_so_far : (text rest rest' w : List ℕ) (was is is' : List GridTrack) (t : GridTrack)
    → SoFar text rest was is → FirstWord rest w rest' → TrackRead w (Some t) → is' ≡ is ++ t ∷ [] → SoFar text rest' was is'
more_so_far text rest rest' w was is is' t h f k e = record {
  words = h.words ++ w ∷ [];
  more = h.more ++ t ∷ [];
  of_text = λ ws g. subst (Words text) (sym (append_assoc h.words (w ∷ []) ws)) (h.of_text (w ∷ ws) (rest', f, g));
  of_words = read_push h.words h.more w t h.of_words k;
  after = e ∙ ap (λ ts. ts ++ t ∷ []) h.after ∙ append_assoc was h.more (t ∷ []);
}

-- no word is left
pub all_so_far : (text rest : List ℕ) (was is : List GridTrack) → SoFar text rest was is → NoCharPasses is_not_whitespace rest → GoesOn text was is
all_so_far text rest was is h none = record {
  words = h.words;
  more = h.more;
  of_text = subst (Words text) (append-nil h.words) (h.of_text [] none);
  of_words = h.of_words;
  after = h.after;
}
