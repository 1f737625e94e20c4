use Rattle.std.proofs.Common.{◌≡◌, take}
use Rattle.mh_site.proofs.targets.copy_links.Given as goal

abbrev pub invariant-loop-link : goal.invariant-loop-link
invariant-loop-link l = l.copies.items ≡ take l.link-index l.links
