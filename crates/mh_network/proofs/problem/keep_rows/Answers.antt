use Rattle.std.proofs.Common.{◌<◌, List, arith, length}
use Rattle.mh_network.specs.declared.link_row.LinkRow.{LinkRow}
use Rattle.mh_network.proofs.Keeping.{kept_more, kept_twice}
use Rattle.mh_network.proofs.problem.keep_rows.Goals as goal

pub loop-at-preserved : goal.loop-at-preserved
loop-at-preserved c =
    let rows : List LinkRow = c.args.rows.items in
    let inside : c.loop-at.at < length rows = omega (arith, c.loop-at-test.true, c.len-at-end.ensures) in
    kept_more rows c.loop-at.kept.items c.loop-at.at _ inside c.loop-at.invariant
    (kept_twice rows c.loop-at.kept.items c.loop-at.at c.index.result.now c.index_mut.result.now c.kept_gain.result inside c.loop-at.invariant c.index.ensures c.index_mut.ensures.value c.kept_gain.ensures.value)
