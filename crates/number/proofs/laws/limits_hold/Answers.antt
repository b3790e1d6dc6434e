use Rattle.number.proofs.Limits.{limits_bounded, bounded_limits, limit_in, next_out}
use Rattle.number.proofs.laws.limits_hold.Goals as goal

pub returns : goal.returns
returns c = record { bounded = limits_bounded; passes = bounded_limits; at_the_limit = limit_in; past_the_limit = next_out }
