use Rattle.std.proofs.Common.{length}
use Rattle.mh_pic.proofs.chains.+link_all.Given as goal

abbrev pub decreases-link_all : goal.decreases-link_all
decreases-link_all l = length l.entries.now
