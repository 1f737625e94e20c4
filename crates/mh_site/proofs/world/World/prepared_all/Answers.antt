use Rattle.std.proofs.Common.{ap, sym, ◌∙◌}
use Rattle.mh_site.specs.Worlds.{WorldState, linkeds}
use Rattle.mh_site.specs.Laws.Tables.{linkeds_are}
use Rattle.mh_site.proofs.world.World.prepared_all.Goals as goal

pub returns-clause-value : goal.returns-clause-value
returns-clause-value c =
    c.as_slice.ensures.value ∙ (sym (linkeds_are c.self.inside.sites.items c.self.inside.linked.items c.self.invariant.0) ∙ ap (λ (w : WorldState). linkeds w) c.self.view_is)
