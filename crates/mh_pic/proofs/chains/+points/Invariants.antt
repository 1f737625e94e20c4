use Rattle.std.proofs.Common.{length}
use Rattle.mh_pic.proofs.chains.+points.Given as goal

abbrev pub decreases-points : goal.decreases-points
decreases-points l = length l.needs.now
