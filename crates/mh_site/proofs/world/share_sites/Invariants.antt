use Rattle.std.proofs.Common.{◌≡◌, map, take}
use Rattle.mh_site.specs.Worlds.{plain_site}
use Rattle.mh_site.proofs.world.share_sites.Given as goal

abbrev pub invariant-loop-site : goal.invariant-loop-site
invariant-loop-site l = map plain_site l.shared.items ≡ map plain_site (take l.site-index l.sites)
