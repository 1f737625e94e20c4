use Rattle.std.proofs.Common.{◌≡◌, ◌==◌, drop}
use Rattle.mh_site.specs.Definitions.{all_differ}
use Rattle.mh_site.proofs.site_rules.needs_differ.Given as goal

abbrev pub invariant-loop-index : goal.invariant-loop-index
invariant-loop-index l = all_differ (λ p q. p == q) (drop l.index l.needs) ≡ all_differ (λ p q. p == q) l.needs
