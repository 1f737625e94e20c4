use Rattle.mh_words.proofs.switching.+halve.Given as goal

abbrev pub decreases-halve : goal.decreases-halve
decreases-halve l = l.halvings
