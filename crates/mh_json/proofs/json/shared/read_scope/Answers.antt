use Rattle.std.proofs.lemmas.Result.{err_from_is_err_and}
use Rattle.mh_json.proofs.SharedPairs.{pair_more, pair_stops}
use Rattle.mh_json.proofs.json.shared.read_scope.Goals as goal

pub returns-in_err-shared : goal.returns-in_err-shared
returns-in_err-shared c =
    let p = err_from_is_err_and c.from_residual-in_err-shared.result c.from_residual-in_err-shared.ensures.1 in
    let gives = c.in_err-shared.ensures.value _ c.read_shared.ensures.value in
    record {
      value = rw (p.1, p.2, c.in_ok-pairs.ensures.value) (pair_stops c.loop-i.scope c.in_ok-pairs.pairs.now c.loop-i.i c.index-pairs-i.result c.in_err-shared.field-0.0 _ c.loop-i-test.true c.index-pairs-i.is gives c.loop-i.invariant);
    }

pub loop-i-preserved : goal.loop-i-preserved
loop-i-preserved c =
    let gives = c.in_ok-shared.ensures.value _ c.read_shared.ensures.value in
    rw c.in_ok-add.ensures.value (pair_more c.loop-i.scope c.in_ok-pairs.pairs.now c.loop-i.i c.index-pairs-i.result c.in_ok-shared.shared _ c.loop-i-test.true c.index-pairs-i.is gives c.loop-i.invariant)
