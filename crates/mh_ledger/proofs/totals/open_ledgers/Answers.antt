use Rattle.std.proofs.Common.{List, ap, sym, ◌∙◌, ◌++◌, ◌∷◌, [], map, arith}
use Rattle.std.specs.List.{range_with_len}
use Rattle.std.proofs.lemmas.List.FromFn.{map-range_with_len_more}
use Rattle.mh_ledger.specs.Ledgers.{opened_ledger, LedgerState}
use Rattle.mh_ledger.proofs.totals.open_ledgers.Goals as goal

pub loop-worker-preserved : goal.loop-worker-preserved
loop-worker-preserved c =
    c.in_ok-push.ensures.items ∙ (ap (λ (ls : List LedgerState). ls ++ c.in_ok-open.field-0 ∷ []) c.loop-worker.invariant
    ∙ (ap (λ (l : LedgerState). map (opened_ledger c.args.links c.args.limit) (range_with_len 0 c.loop-worker.worker) ++ l ∷ []) c.in_ok-open.ensures.value
    ∙ sym (map-range_with_len_more (opened_ledger c.args.links c.args.limit) 0 c.loop-worker.worker c.loop-worker.worker (omega arith))))
