use Rattle.std.proofs.Common.{ap, ◌∙◌}
use Rattle.mh_site.specs.Ascending.{ascending}
use Rattle.mh_site.proofs.Sorting.{sorted}
use Rattle.mh_site.proofs.order.order_needs.Goals as goal

pub returns : goal.returns
returns c = record { value = sorted _ _ c.sort_unstable.ensures.permutation c.sort_unstable.ensures.sorted ∙ ap ascending c.needs.view_is }
