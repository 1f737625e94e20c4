use Rattle.std.proofs.Common.{◌≡◌, ◌++◌, map, take}
use Rattle.mh_plan.specs.Joined.{whole_link}
use Rattle.mh_plan.proofs.joining.push_links.Given as goal

abbrev pub invariant-loop-link : goal.invariant-loop-link
invariant-loop-link l = l.links.items ≡ l.fn.links.items ++ map (whole_link l.part) (take l.link-index l.reached)
