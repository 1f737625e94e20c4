use Rattle.std.proofs.Common.{arith}
use Rattle.std.proofs.lemmas.List.FromFn.{sum_by-map-range_with_len_more}
use Rattle.mh_network.specs.Problems.{kept_gain}
use Rattle.mh_core.specs.inner.Tables.{row_in}
use Rattle.mh_core.proofs.problem.gains_fit.Goals as goal

pub loop-link-preserved : goal.loop-link-preserved
loop-link-preserved c =
    let row = row_in c.args.definition.now c.args.totals.now c.args.valid.now in
    omega (arith, sum_by-map-range_with_len_more kept_gain row 0 c.loop-link.link c.loop-link.link (omega arith), c.gain.ensures.value, c.saturating_add-sum.ensures, c.loop-link.invariant)
