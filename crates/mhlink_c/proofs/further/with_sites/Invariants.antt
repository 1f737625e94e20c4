use Rattle.std.proofs.Common.{◌≡◌, fold, take}
use Rattle.mh_json.specs.Script.{with_site}
use Rattle.mhlink_c.proofs.further.with_sites.Given as goal

abbrev pub invariant-loop-site : goal.invariant-loop-site
invariant-loop-site l = l.all ≡ fold with_site l.fn.scope (take l.site-index l.sites)
