use Rattle.std.proofs.Common.{◌≡◌, take, drop, map, ◌++◌}
use Rattle.mh_site.specs.Definitions.{link_in_order}
use Rattle.mh_site.proofs.order.order_links.Given as goal

abbrev pub invariant-loop-index : goal.invariant-loop-index
invariant-loop-index l = l.links.items ≡ map link_in_order (take l.index l.fn.links.items) ++ drop l.index l.fn.links.items
