use Rattle.std.proofs.Common.{◌≡◌}
use Rattle.std.specs.List.{filter, range_with_len}
use Rattle.mh_network.specs.Blocks.{gaining_links}
use Rattle.mh_sweep.proofs.listing.gaining_links.Given as goal

abbrev pub invariant-loop-link : goal.invariant-loop-link
invariant-loop-link l = l.listed.items ≡ filter (gaining_links l.problem) (range_with_len 0 l.link)
