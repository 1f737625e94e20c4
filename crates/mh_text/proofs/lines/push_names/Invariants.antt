use Rattle.std.proofs.Common.{◌≡◌, ◌++◌, take, string_bytes, codes}
use Rattle.std.specs.List.{flat_map}
use Rattle.mh_site.specs.Defined.{point_at}
use Rattle.mh_text.proofs.lines.push_names.Given as goal

abbrev pub invariant-loop-point : goal.invariant-loop-point
invariant-loop-point l = string_bytes l.out ≡ string_bytes l.fn.out ++ flat_map (λ q. codes "," ++ (point_at l.definition q).name) (take l.point-index l.points)
