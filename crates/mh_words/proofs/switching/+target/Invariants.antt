use Rattle.std.proofs.Common.{length}
use Rattle.mh_words.proofs.switching.+target.Given as goal

abbrev pub decreases-target : goal.decreases-target
decreases-target l = length l.keyed.now
