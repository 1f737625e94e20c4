use Rattle.std.proofs.Common.{◌≡◌, ℕ, List, arith}
use Rattle.mh_site.specs.declared.link.Link.{Link}
use Rattle.mh_site.specs.Ascending.{ascending}
use Rattle.mh_site.specs.Definitions.{link_in_order}
use Rattle.mh_site.proofs.Mapped.{partly_more}
use Rattle.mh_site.proofs.order.order_links.Goals as goal

abbrev with_needs : Link → List ℕ → Link
with_needs l needs = record { when = l.when; weight = l.weight; charge = l.charge; needs = needs }

in_order : (l g : Link) (needs : List ℕ) → needs ≡ ascending l.needs → l ≡ g → with_needs l needs ≡ link_in_order g
in_order l g needs e same = cc

pub loop-index-preserved : goal.loop-index-preserved
loop-index-preserved c =
    partly_more link_in_order _ _ c.loop-index.index _ c.index_mut-link.result.now (omega arith) c.loop-index.invariant
    (in_order c.index_mut-link.result.now _ _ c.order_needs.ensures.value c.index_mut-link.ensures.value)
