use Rattle.std.proofs.Common.{◌≡◌, take, drop, map, ◌++◌}
use Rattle.mh_site.specs.Definitions.{site_in_order}
use Rattle.mh_site.proofs.order.order_sites.Given as goal

abbrev pub invariant-loop-index : goal.invariant-loop-index
invariant-loop-index l = l.sites.items ≡ map site_in_order (take l.index l.fn.sites.items) ++ drop l.index l.fn.sites.items
