use Rattle.std.proofs.Common.{◌≡◌, ◌∙◌, ◌<◌, ◌≤◌, ℕ, List, ap, arith, length, slice_index_or, slice_set, sym, true}
use Rattle.std.proofs.lemmas.List.{get_or-set_other, get_or-set_same, get_or_default, length-map, length-set}
use Rattle.std.proofs.lemmas.List.Elements.{All-set}
use Rattle.mh_ledger.specs.Ledgers.{LedgerState, ledger_at, no_ledger}
use Rattle.mh_share.specs.Laws.{all_taken, all_with, one_more}
use Rattle.mhlink_c.specs.Callers.{HeldCallerState, with_ledger}
use Rattle.mhlink_c.specs.DeskRenewals.{callers_of}
use Rattle.mhlink_c.specs.declared.caller_handle.MhlinkCaller.{MhlinkCaller}
use Rattle.mhlink_c.proofs.NoHandle.{held_at, held_beside, held_of, held_of_handle, held_written, ledger_of, no_held}
use Rattle.mhlink_c.proofs.desk_renewing.exchange_all.Goals as goal

there : (ls : List LedgerState) (w : ℕ) (l : LedgerState) → w < length ls → l ≡ slice_index_or ls w l → l ≡ ledger_at ls w
there ls w l lt is = is ∙ get_or_default ls w l no_ledger lt

pub returns-clause-callers : goal.returns-clause-callers
returns-clause-callers c =
    let i = c.loop-worker.invariant in
    let old = length-map c.args.callers.now held_of in
    all_with ledger_of with_ledger no_held (callers_of c.args.callers.now) (callers_of c.loop-worker.callers) c.args.ledgers.now.items (c.requires.count ∙ sym old)
    (length-map c.loop-worker.callers held_of ∙ (i.callers ∙ sym old)) (λ w inside. i.given w (omega (arith, inside, old, i.callers)))

pub returns-clause-ledgers : goal.returns-clause-ledgers
returns-clause-ledgers c =
    let i = c.loop-worker.invariant in
    let old = length-map c.args.callers.now held_of in
    all_taken ledger_of with_ledger no_held (callers_of c.args.callers.now) c.loop-worker.ledgers.items (i.ledgers ∙ (c.requires.count ∙ sym old)) (λ w inside. i.taken w (omega (arith, inside, old, i.callers)))

pub loop-worker-preserved : goal.loop-worker-preserved
loop-worker-preserved c =
    let i = c.loop-worker.invariant in
    let w = c.loop-worker.worker in
    let hs = c.loop-worker.callers in
    let old = c.args.callers.now in
    let ls = c.loop-worker.ledgers.items in
    let lold = c.args.ledgers.now.items in
    let x = slice_index_or hs w c.index-callers-worker.result in
    let is = ap (λ (d : MhlinkCaller). slice_index_or hs w d) c.index-callers-worker.is in
    let y = c.exchange.new.caller in
    let l = c.index_mut.result.now in
    let m = c.exchange.new.ledger in
    let lt : w < length hs = omega (arith, c.loop-worker-test.true, i.callers) in
    let lt_ledgers : w < length ls = omega (arith, c.loop-worker-test.true, i.ledgers, c.requires.count) in
    let own : x.value ≡ held_at (callers_of old) w = sym (held_of_handle hs w x lt is) ∙ i.to_take w (omega arith) in
    let read : l ≡ ledger_at ls w = there ls w l lt_ledgers c.index_mut.ensures.value in
    let got : l ≡ ledger_at lold w = read ∙ i.to_give w (omega arith) in
    record {
      full = All-set (λ (h : MhlinkCaller). h.full ≡ true) hs w y c.exchange.ensures.full i.full;
      callers = length-set hs w y ∙ i.callers;
      ledgers = length-set ls w m ∙ i.ledgers;
      given = one_more (λ v. held_at (callers_of (slice_set hs w y)) v ≡ with_ledger (held_at (callers_of old) v) (ledger_at lold v)) w
          (λ v less. held_beside hs w v y (λ same. omega (arith, less, same)) ∙ i.given v less)
          (held_written hs w y lt ∙ (c.exchange.ensures.caller ∙ (ap (λ (h : HeldCallerState). with_ledger h l) own ∙ ap (with_ledger (held_at (callers_of old) w)) got)));
      taken = one_more (λ v. ledger_at (slice_set ls w m) v ≡ (held_at (callers_of old) v).caller.ledger) w
          (λ v less. get_or-set_other ls w v m no_ledger (λ same. omega (arith, less, same)) ∙ i.taken v less)
          (get_or-set_same ls w m no_ledger lt_ledgers ∙ (c.exchange.ensures.ledger ∙ ap ledger_of own));
      to_give = λ v more. get_or-set_other ls w v m no_ledger (λ same. omega (arith, more, same)) ∙ i.to_give v (omega (arith, more));
      to_take = λ v more. held_beside hs w v y (λ same. omega (arith, more, same)) ∙ i.to_take v (omega (arith, more));
    }
