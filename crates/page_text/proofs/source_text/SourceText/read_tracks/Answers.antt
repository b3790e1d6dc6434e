use Rattle.std.proofs.Common.{◌≡◌, ◌<◌, [], ◌∷◌, ◌++◌, length, IfSome, Some, vec_items, refl, ap, ◌∙◌, subst, arith}
use Rattle.std.specs.Str.Iter.{split_whitespace_rest}
use Rattle.std.proofs.lemmas.Slice.{pushed}
use Rattle.page_text.specs.WrittenTracks.{TrackRead, TrackInRange}
use Rattle.page_text.proofs.WordsOfTracks.{one_more, none_so_far, more_so_far, all_so_far}
use Rattle.page_text.proofs.source_text.SourceText.read_tracks.Goals as goal

pub loop-word-init : goal.loop-word-init
loop-word-init c =
    (c.requires, none_so_far c.args.self.text.now _ (vec_items c.args.tracks.now) (ap split_whitespace_rest c.into_iter-word-iterator.ensures.into_iter_gives ∙ c.split_whitespace-word-items.ensures.rest))

pub loop-word-preserved : goal.loop-word-preserved
loop-word-preserved c =
    let track = c.in_ok-track.track in
    let before = vec_items c.loop-word.tracks in
    let after = vec_items c.push.new.self in
    let few : length before < 513 = omega (arith, c.if-len-ge-MAX_TRACKS.false, c.len.ensures) in
    let added : after ≡ before ++ track ∷ [] = pushed (track ∷ []) refl c.in_ok-push.was c.push.ensures.items in
    let found : c.read_track.result ≡ Some track = c.in_ok-track.ensures.ok_part in
    let step = c.in-Some.ensures.steps in (
      one_more before after track c.loop-word.invariant.0 few (subst (λ r. IfSome r TrackInRange) found c.read_track.ensures.range) added,
      more_so_far _ _ _ c.in-Some.word.now _ before after track c.loop-word.invariant.1
          (record { before = step.0; stands = step.1; not_empty = step.2; only_white_before = step.3; no_white_inside = step.4; white_after = step.5 })
          (subst (TrackRead c.in-Some.word.now) found c.read_track.ensures.read) added,
    )

pub returns-clause-added : goal.returns-clause-added
returns-clause-added c = all_so_far _ _ _ _ c.loop-word.invariant.1 c.in-None.ensures.steps.1
