use Rattle.std.proofs.Common.{subst, sym}
use Rattle.std.specs.List.{All}
use Rattle.mh_site.specs.Worlds.{AreTyped}
use Rattle.mh_site.specs.Laws.Tables.{opening_keeps, Early}
use Rattle.mh_site.proofs.world.open_over.Goals as goal

pub invariant_of-result : goal.invariant_of-result
invariant_of-result c = (
  c.in_ok-sites.ensures.many,
  record {
    early = subst (All (Early 0)) (sym c.in_ok-sites.ensures.value) (opening_keeps _);
    typed = subst AreTyped (sym c.in_ok-sites.ensures.value) c.in_ok-sites.ensures.typed;
  },
)
