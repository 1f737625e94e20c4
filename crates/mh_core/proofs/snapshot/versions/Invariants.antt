use Rattle.std.proofs.Common.{◌≡◌, map}
use Rattle.mh_site.specs.Worlds.{state_at}
use Rattle.mh_core.specs.Records.{numbers}
use Rattle.mh_core.proofs.snapshot.versions.Given as goal

abbrev pub invariant-loop-site : goal.invariant-loop-site
invariant-loop-site l = l.versions.items ≡ map (λ i. (state_at l.world i).version) (numbers l.site)
