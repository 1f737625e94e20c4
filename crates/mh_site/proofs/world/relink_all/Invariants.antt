use Rattle.std.proofs.Common.{◌≡◌, fold, length}
use Rattle.std.specs.List.{All}
use Rattle.mh_tree.specs.Typing.{IsTyped}
use Rattle.mh_site.specs.Worlds.{site_states, relink_site}
use Rattle.mh_site.proofs.world.relink_all.Given as goal

abbrev pub invariant-loop-change : goal.invariant-loop-change
invariant-loop-change l = record {
  value : site_states l.sites.items l.linked.items ≡ fold relink_site (site_states l.fn.sites.items l.fn.linked.items) l.yielded;
  many : length l.linked.items ≡ length l.sites.items;
  typed : All (λ c. IsTyped c.linked.tree c.linked.signature) l.yielded;
}
