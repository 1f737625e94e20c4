use Rattle.std.proofs.Common.{List, ℕ, ap, sym, ◌∙◌, ◌++◌, ◌∷◌, [], map, arith}
use Rattle.std.specs.List.{range_with_len}
use Rattle.std.proofs.lemmas.List.{map-append}
use Rattle.std.proofs.lemmas.List.FromFn.{map-range_with_len_more}
use Rattle.mh_ledger.specs.Resumptions.{share_of_worker}
use Rattle.mh_ledger.proofs.Taken.{items_of}
use Rattle.mh_ledger.proofs.totals.resume_shares.Goals as goal

pub loop-worker-preserved : goal.loop-worker-preserved
loop-worker-preserved c =
    let share = share_of_worker c.args.hits.now in
    let w = c.loop-worker.worker in
    ap (map items_of) c.in_ok-push.ensures.items
    ∙ (map-append items_of c.loop-worker.shares.items (c.in_ok-resumed_share.field-0 ∷ [])
    ∙ (ap (λ (rows : List (List ℕ)). rows ++ c.in_ok-resumed_share.field-0.items ∷ []) c.loop-worker.invariant
    ∙ (ap (λ (row : List ℕ). map share (range_with_len 0 w) ++ row ∷ []) c.in_ok-resumed_share.ensures.value
    ∙ sym (map-range_with_len_more share 0 w w (omega arith)))))
