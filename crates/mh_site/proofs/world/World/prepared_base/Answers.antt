use Rattle.std.proofs.Common.{ap, arith, ◌∙◌}
use Rattle.mh_site.specs.declared.world.SiteWorld.{SiteWorld}
use Rattle.mh_site.specs.Defined.{no_tree}
use Rattle.mh_site.specs.Worlds.{SiteState}
use Rattle.mh_site.specs.Laws.Tables.{inside_is, state_is}
use Rattle.mh_site.proofs.world.World.prepared_base.Goals as goal

pub index-requires : goal.index-requires
index-requires c = omega (arith, inside_is c.self.inside.sites.items c.self.inside.linked.items c.self.invariant.0 _ _ _ c.self.view_is c.args.site c.requires.inside)

pub returns : goal.returns
returns c = record { value = c.prepared.ensures.value ∙ (ap (λ (x : SiteWorld). x.base) c.index.ensures ∙ ap (λ (x : SiteState). x.base) (state_is c.self.inside.sites.items c.self.inside.linked.items c.self.invariant.0 _ _ _ c.self.view_is c.args.site c.requires.inside c.index.result.now no_tree)); declared = c.prepared.ensures.declared }
