use Rattle.state_space.proofs.number.+argument_of.Given as goal

abbrev pub decreases-argument_of : goal.decreases-argument_of
decreases-argument_of l = l.argument
