use Rattle.mh_core.proofs.FlushedCalls.{total_is}
use Rattle.mh_core.proofs.laws.totals_are_sums.Goals as goal

pub returns : goal.returns
returns c = record { value = λ d h j inside. total_is d j h inside }
