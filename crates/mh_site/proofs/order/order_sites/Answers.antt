use Rattle.std.proofs.Common.{◌≡◌, List, map, arith}
use Rattle.mh_site.specs.declared.link.Link.{Link}
use Rattle.mh_site.specs.declared.site.Site.{Site}
use Rattle.mh_site.specs.Definitions.{link_in_order, site_in_order}
use Rattle.mh_site.proofs.Mapped.{partly_more}
use Rattle.mh_site.proofs.order.order_sites.Goals as goal

abbrev with_links : Site → List Link → Site
with_links s links = record { name = s.name; method_type = s.method_type; level = s.level; key = s.key; target = s.target; links = links }

in_order : (s g : Site) (links : List Link) → links ≡ map link_in_order s.links → s ≡ g → with_links s links ≡ site_in_order g
in_order s g links e same = cc

pub loop-index-preserved : goal.loop-index-preserved
loop-index-preserved c =
    partly_more site_in_order _ _ c.loop-index.index _ c.index_mut-site.result.now (omega arith) c.loop-index.invariant
    (in_order c.index_mut-site.result.now _ _ c.order_all.ensures.value c.index_mut-site.ensures.value)
