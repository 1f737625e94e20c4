use Rattle.std.proofs.Common.{◌≡◌, take, false}
use Rattle.std.specs.List.{list_any}
use Rattle.mh_site.specs.Definitions.{names_site}
use Rattle.mh_site.proofs.site_rules.is_site_name.Given as goal

abbrev pub invariant-loop-site : goal.invariant-loop-site
invariant-loop-site l = list_any (names_site l.name) (take l.site-index l.sites) ≡ false
