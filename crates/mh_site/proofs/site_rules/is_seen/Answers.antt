use Rattle.std.proofs.Common.{◌∙◌}
use Rattle.mh_site.specs.declared.site.Site.{Site}
use Rattle.mh_site.proofs.NameLemmas.{asked}
use Rattle.mh_site.proofs.site_rules.is_seen.Goals as goal

pub returns-in-Some : goal.returns-in-Some
returns-in-Some c =
    record { value = c.contains.ensures.value ∙ asked (λ (s : Site). s.name) c.args.name.now c.args.earlier.now c.args.seen c.in-Some.names c.in-Some.is c.requires.seen }
