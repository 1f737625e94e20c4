use Rattle.std.proofs.Common.{◌≡◌}
use Rattle.mh_site.specs.Links.{first_links, homes_before}
use Rattle.mh_site.proofs.numbering.number_links.Given as goal

abbrev pub invariant-loop-site : goal.invariant-loop-site
invariant-loop-site l = record {
  first : l.firsts.items ≡ first_links l.sites l.site;
  home : l.homes.items ≡ homes_before l.sites l.site;
}
