use Rattle.std.proofs.Common.{◌≡◌, length, fold}
use Rattle.std.specs.List.{All}
use Rattle.mh_tree.specs.Typing.{IsTyped}
use Rattle.mh_site.specs.Worlds.{site_states, relink_site}
use Rattle.mh_site.proofs.world.relink_each.Given as goal

abbrev pub invariant-loop-next : goal.invariant-loop-next
invariant-loop-next l = record {
  value : fold relink_site (site_states l.sites.items l.linked.items) l.incoming.items ≡ fold relink_site (site_states l.fn.sites.items l.fn.linked.items) l.fn.incoming.items;
  many : length l.linked.items ≡ length l.sites.items;
  typed : All (λ c. IsTyped c.linked.tree c.linked.signature) l.incoming.items → All (λ c. IsTyped c.linked.tree c.linked.signature) l.fn.incoming.items;
}

abbrev pub decreases-loop-next : goal.decreases-loop-next
decreases-loop-next l = length l.incoming.items
