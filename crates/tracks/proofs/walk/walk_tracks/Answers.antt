use Rattle.std.proofs.Common.{◌≡◌, length, arith}
use Rattle.tracks.proofs.Walks.{stored_at, left_more}
use Rattle.tracks.proofs.walk.walk_tracks.Goals as goal
use Rattle.tracks.proofs.walk.walk_tracks.Goals.{then-axis_is_reversed, else-axis_is_reversed}

pub loop-step-preserved : goal.loop-step-preserved
loop-step-preserved c =
    let stored : c.if-axis_is_reversed.index ≡ stored_at c.args.axis_is_reversed (length c.loop-step.tracks) c.loop-step.step =
    elim c.if-axis_is_reversed.branch [ then-axis_is_reversed w ↦ rw w.if-axis_is_reversed.true (omega (arith, w.index-is)) | else-axis_is_reversed w ↦ rw w.if-axis_is_reversed.false (omega (arith, w.index-is)) ] in
    left_more c.args.axis_is_reversed c.loop-step.tracks _ c.loop-step.step c.if-axis_is_reversed.index c.loop-step.walk c.position_track.new.self c.position_track.new.track _ (omega arith) stored
    c.position_track.ensures.track c.position_track.ensures.walk c.loop-step.invariant
