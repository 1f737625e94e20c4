use Rattle.std.proofs.Common.{◌≡◌, take}
use Rattle.std.specs.List.{sum_by}
use Rattle.mh_network.specs.Problems.{charge_of}
use Rattle.mh_cert.proofs.sums.charge_of_links.Given as goal

abbrev pub invariant-loop-link : goal.invariant-loop-link
invariant-loop-link l = l.sum ≡ sum_by (charge_of l.problem) (take l.link-index l.links)
