use Rattle.std.proofs.Common.{◌≡◌, map, slice_index_or}
use Rattle.std.specs.List.{range_with_len}
use Rattle.mh_site.specs.Defined.{no_site}
use Rattle.mh_site.specs.Targets.{target_at, with_target}
use Rattle.mh_site.proofs.targets.with_targets.Given as goal

abbrev pub invariant-loop-site : goal.invariant-loop-site
invariant-loop-site l = l.made.items ≡ map (λ s. with_target (slice_index_or l.sites s no_site) (target_at l.targets s)) (range_with_len 0 l.site)
