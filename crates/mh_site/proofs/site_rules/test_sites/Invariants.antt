use Rattle.std.proofs.Common.{◌≡◌, ◌-◌, IfSome, length, map, take}
use Rattle.std.specs.List.{flat_map, range_with_len}
use Rattle.mh_base.specs.Listed.{first_failing}
use Rattle.mh_site.specs.declared.site.Site.{Site}
use Rattle.mh_site.specs.Places.{placed_at_site, placed_sites}
use Rattle.mh_site.proofs.site_rules.test_sites.Given as goal

abbrev pub invariant-loop-index : goal.invariant-loop-index
invariant-loop-index l = record {
  told : first_failing (flat_map (placed_at_site l.points l.sites) (range_with_len l.index (length l.sites - l.index))) ≡
      first_failing (placed_sites l.points l.sites);
  seen : IfSome l.seen (λ names. names ≡ map (λ (s : Site). s.name) (take l.index l.sites));
}
