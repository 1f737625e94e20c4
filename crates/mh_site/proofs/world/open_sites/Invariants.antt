use Rattle.std.proofs.Common.{◌≡◌, map, take, length}
use Rattle.mh_site.specs.Worlds.{site_states, AreTyped, opening}
use Rattle.mh_site.proofs.world.open_sites.Given as goal

abbrev pub invariant-loop-site : goal.invariant-loop-site
invariant-loop-site l = record {
  value : site_states l.opened.items l.linked.items ≡ map opening (take l.site-index l.sites);
  many : length l.linked.items ≡ length l.opened.items;
  typed : AreTyped (map opening (take l.site-index l.sites));
}
