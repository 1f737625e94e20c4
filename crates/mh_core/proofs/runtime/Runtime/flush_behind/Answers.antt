use Rattle.std.proofs.Common.{◌<◌, ◌∙◌, length, arith}
use Rattle.std.proofs.lemmas.List.{length-set}
use Rattle.std.proofs.lemmas.Result.{err_from_is_err_and}
use Rattle.mh_core.proofs.Runtimes.{refuses_flush, runtime_flushes}
use Rattle.mh_core.proofs.runtime.Runtime.flush_behind.Goals as goal

pub invariant_of-self-2 : goal.invariant_of-self-2
invariant_of-self-2 c =
    let r = c.self.inside in
    let taken = c.in_ok-flush_after.ensures.taken in
    let known : c.args.worker < length r.ledgers.items = omega (arith, c.if-worker-self.false, c.self.invariant.1) in (
      runtime_flushes r.book r.ledgers.items c.self.invariant.0 c.args.worker c.index_mut-ledger.result.now known c.index_mut-ledger.ensures.value
          c.flush_after.new.self c.flush_after.new.ledger c.in_ok-flush_after.ensures.ledger taken.definition taken.limits (c.in_ok-flush_after.ensures.all r.ledgers.items c.self.invariant.0.held),
      length-set r.ledgers.items c.args.worker c.flush_after.new.ledger ∙ c.self.invariant.1,
    )

pub returns-in_err-flush_after-clause-refused : goal.returns-in_err-flush_after-clause-refused
returns-in_err-flush_after-clause-refused c =
    let r = c.self.inside in
    let known : c.args.worker < length r.ledgers.items = omega (arith, c.if-worker-self.false, c.self.invariant.1) in
    let p = err_from_is_err_and c.from_residual.result c.from_residual.ensures.1 in
    rw (p.1, p.2)
    (refuses_flush r.book r.ledgers.items c.self.invariant.0 c.args.worker c.index_mut-ledger.result.now known c.index_mut-ledger.ensures.value c.args.self.now c.args.calls _ c.self.view_is c.in_err-flush_after.ensures.refused.refuses)
