use Rattle.piles.proofs.measure_round.Given as goal

abbrev pub invariant-loop-width : goal.invariant-loop-width
invariant-loop-width g l = g.H.LayoutPartialTree.ordered l.host
