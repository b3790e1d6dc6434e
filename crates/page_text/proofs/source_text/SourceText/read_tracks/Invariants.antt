use Rattle.std.proofs.Common.{vec_items}
use Rattle.std.specs.Str.Iter.{split_whitespace_rest}
use Rattle.page_text.specs.WrittenTracks.{TracksInRange}
use Rattle.page_text.proofs.WordsOfTracks.{SoFar}
use Rattle.page_text.proofs.source_text.SourceText.read_tracks.Given as goal

abbrev pub invariant-loop-word : goal.invariant-loop-word
invariant-loop-word l = TracksInRange (vec_items l.tracks) × SoFar l.self.text.now (split_whitespace_rest l.word-iterator) (vec_items l.initial.tracks) (vec_items l.tracks)
