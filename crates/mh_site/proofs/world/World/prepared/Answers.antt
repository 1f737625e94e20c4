use Rattle.std.proofs.Common.{arith, ◌∙◌}
use Rattle.mh_site.specs.Laws.Tables.{inside_is, linked_is}
use Rattle.mh_site.proofs.world.World.prepared.Goals as goal

pub index-requires : goal.index-requires
index-requires c = omega (arith, inside_is c.self.inside.sites.items c.self.inside.linked.items c.self.invariant.0 _ _ _ c.self.view_is c.args.site c.requires.inside, c.self.invariant.0)

pub returns : goal.returns
returns c = record { value = c.index.ensures ∙ linked_is c.self.inside.sites.items c.self.inside.linked.items c.self.invariant.0 _ _ _ c.self.view_is c.args.site c.requires.inside c.index.result.now }
