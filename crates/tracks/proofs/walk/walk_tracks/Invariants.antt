use Rattle.std.proofs.Common.{◌≡◌}
use Rattle.tracks.proofs.Walks.{Left}
use Rattle.tracks.proofs.walk.walk_tracks.Given as goal

abbrev pub invariant-loop-step : goal.invariant-loop-step
invariant-loop-step l = Left l.axis_is_reversed l.tracks l.step l.walk ≡ Left l.axis_is_reversed l.initial.tracks 0 l.initial.walk
