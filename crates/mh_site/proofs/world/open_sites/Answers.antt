use Rattle.std.proofs.Common.{arith}
use Rattle.std.proofs.lemmas.Grind.{common_steps}
use Rattle.mh_site.specs.Laws.Tables.{opening_typed, states_push}
use Rattle.mh_site.proofs.world.open_sites.Goals as goal

pub loop-site-preserved : goal.loop-site-preserved
loop-site-preserved c = record {
  value = grind (arith, common_steps, states_push c.loop-site.opened.items c.loop-site.linked.items c.in_ok-entry.entry c.in_ok-entry.tree c.loop-site.invariant.many);
  many = grind (arith, common_steps);
  typed = opening_typed c.args.sites.now c.loop-site.site-index c.site-item.result (omega arith) c.site-item.is c.loop-site.invariant.typed c.in_ok-entry.ensures.typed;
}
