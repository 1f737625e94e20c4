use Rattle.std.proofs.Common.{List, ap, sym, ◌∙◌, ◌++◌, ◌∷◌, [], map, arith}
use Rattle.std.specs.List.{range_with_len}
use Rattle.std.proofs.lemmas.List.FromFn.{map-range_with_len_more}
use Rattle.mh_ledger.specs.Ledgers.{LedgerState}
use Rattle.mh_ledger.specs.Resumptions.{resumed_ledger}
use Rattle.mh_ledger.proofs.totals.resume_ledgers.Goals as goal

pub loop-worker-preserved : goal.loop-worker-preserved
loop-worker-preserved c =
    c.in_ok-push.ensures.items ∙ (ap (λ (ls : List LedgerState). ls ++ c.in_ok-resume.field-0 ∷ []) c.loop-worker.invariant
    ∙ (ap (λ (l : LedgerState). map (resumed_ledger c.args.hits.now c.args.limit) (range_with_len 0 c.loop-worker.worker) ++ l ∷ []) c.in_ok-resume.ensures.value
    ∙ sym (map-range_with_len_more (resumed_ledger c.args.hits.now c.args.limit) 0 c.loop-worker.worker c.loop-worker.worker (omega arith))))
