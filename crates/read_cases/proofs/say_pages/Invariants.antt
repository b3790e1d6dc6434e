use Rattle.std.proofs.Common.{length}
use Rattle.read_cases.proofs.say_pages.Given as goal

abbrev pub decreases-loop-rest : goal.decreases-loop-rest
decreases-loop-rest l = length l.rest
