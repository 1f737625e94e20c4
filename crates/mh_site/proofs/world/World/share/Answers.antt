use Rattle.std.proofs.Common.{◌∙◌, ap, arith, subst, sym, length, map}
use Rattle.std.proofs.lemmas.List.{length-map}
use Rattle.mh_site.specs.Worlds.{plain_site, IsWorld}
use Rattle.mh_site.specs.Laws.Tables.{shared_world}
use Rattle.mh_site.proofs.world.World.share.Goals as goal

pub invariant_of-result : goal.invariant_of-result
invariant_of-result c =
    let w = c.self.inside in
    let points = c.in_ok-valid.ensures.value ∙ c.as_slice.ensures.value in
    let sites = c.in_ok-sites.ensures.value ∙ ap (map plain_site) c.as_slice-2.ensures.value in
    let trees = c.in_ok-linked.ensures.value ∙ c.as_slice-3.ensures.value in (
      omega (arith, ap length trees, ap length sites, length-map w.sites.items plain_site, length-map c.in_ok-sites.sites.items plain_site, c.self.invariant.0),
      subst IsWorld (sym (shared_world _ _ _ _ _ _ w.front points sites trees)) c.self.invariant.1,
    )

pub returns : goal.returns
returns c = record {
  value = shared_world _ _ _ _ _ _ c.self.inside.front
      (c.in_ok-valid.ensures.value ∙ c.as_slice.ensures.value)
      (c.in_ok-sites.ensures.value ∙ ap (map plain_site) c.as_slice-2.ensures.value)
      (c.in_ok-linked.ensures.value ∙ c.as_slice-3.ensures.value)
      ∙ c.self.view_is;
}
