use Rattle.std.proofs.Common.{◌≡◌, fold, take}
use Rattle.mh_site.specs.NamesInOrder.{with_name}
use Rattle.mh_json.specs.Script.{point_names_of}
use Rattle.mhlink_c.proofs.further.names_of_all.Given as goal

abbrev pub invariant-loop-point : goal.invariant-loop-point
invariant-loop-point l = l.names ≡ fold (λ names p. with_name names p.name) (point_names_of l.own) (take l.point-index l.more)
