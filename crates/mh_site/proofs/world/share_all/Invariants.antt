use Rattle.std.proofs.Common.{◌≡◌, take}
use Rattle.mh_site.proofs.world.share_all.Given as goal

abbrev pub invariant-loop-change : goal.invariant-loop-change
invariant-loop-change l = l.incoming.items ≡ take l.change-index l.changes
