use Rattle.std.proofs.Common.{◌≡◌, ◌-◌, IfSome, length, map, take}
use Rattle.std.specs.List.{flat_map, range_with_len}
use Rattle.mh_base.specs.Listed.{first_failing}
use Rattle.mh_site.specs.declared.point.Point.{Point}
use Rattle.mh_site.specs.Places.{placed_at_point, placed_points}
use Rattle.mh_site.proofs.point_rules.test_points.Given as goal

abbrev pub invariant-loop-index : goal.invariant-loop-index
invariant-loop-index l = record {
  told : first_failing (flat_map (placed_at_point l.points) (range_with_len l.index (length l.points - l.index))) ≡
      first_failing (placed_points l.points);
  seen : IfSome l.seen (λ names. names ≡ map (λ (p : Point). p.name) (take l.index l.points));
}
