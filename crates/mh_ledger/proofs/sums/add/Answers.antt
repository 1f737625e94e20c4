use Rattle.std.proofs.Common.{arith}
use Rattle.mh_ledger.specs.Laws.Added.{is_added}
use Rattle.mh_ledger.proofs.sums.add.Goals as goal

pub returns : goal.returns
returns c = record { value = is_added _ _ _ c.requires.lengths c.loop-place.invariant.same (λ j h. c.loop-place.invariant.before j (omega arith)) }
