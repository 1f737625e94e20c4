use Rattle.std.proofs.Common.{◌≡◌, ◌∙◌, ◌<◌, ℕ, List, ap, arith, length, refl, slice_index_or, subst, sym, true}
use Rattle.std.proofs.lemmas.Bool.{false≢true}
use Rattle.std.proofs.lemmas.List.{length-map, length-set}
use Rattle.std.proofs.lemmas.List.Elements.{All-set}
use Rattle.mh_ledger.specs.Ledgers.{LedgerState, ledger_at}
use Rattle.mh_share.specs.Laws.{one_more}
use Rattle.mh_share.specs.Renewals.{IsOf}
use Rattle.mhlink_c.specs.Callers.{HeldCallerState}
use Rattle.mhlink_c.specs.DeskRenewals.{callers_of, ledgers_of}
use Rattle.mhlink_c.specs.declared.caller_handle.MhlinkCaller.{MhlinkCaller}
use Rattle.mhlink_c.proofs.NoHandle.{held_of, ledger_of, ledger_of_handle, same_written}
use Rattle.mhlink_c.proofs.desk.HeldDesk.has_all.Goals as goal

pub returns-then-not-is_of-clause-decides : goal.returns-then-not-is_of-clause-decides
returns-then-not-is_of-clause-decides c =
    let b = c.args.self.now.desk.book in
    let w = c.loop-worker.worker in
    let i = c.loop-worker.invariant in
    let old = c.args.callers.now in
    let hs = c.loop-worker.callers in
    let lt : w < length hs = omega (arith, c.loop-worker-test.true, i.count) in
    let x = slice_index_or hs w c.index-callers-worker.result in
    let is = ap (λ (d : MhlinkCaller). slice_index_or hs w d) c.index-callers-worker.is in
    let here = ap (λ (hs : List HeldCallerState). ledger_at (ledgers_of hs) w) (sym i.same) ∙ ledger_of_handle hs w x lt is in
    let inside : w < length (ledgers_of (callers_of old)) = omega (arith, c.loop-worker-test.true, length-map (callers_of old) ledger_of, length-map old held_of) in (
      (λ no. absurd (false≢true no)),
      (λ held. c.if-not-is_of.ensures.decides.1 (subst (IsOf b w) here (held.workers w inside, held.held w inside))),
    )

pub returns-then-not-is_of-clause-same : goal.returns-then-not-is_of-clause-same
returns-then-not-is_of-clause-same c =
    let i = c.loop-worker.invariant in
    let w = c.loop-worker.worker in
    let hs = c.loop-worker.callers in
    let lt : w < length hs = omega (arith, c.loop-worker-test.true, i.count) in
    let x = slice_index_or hs w c.index-callers-worker.result in
    let is = ap (λ (d : MhlinkCaller). slice_index_or hs w d) c.index-callers-worker.is in
    same_written hs w x c.is_of.new.caller lt is c.is_of.ensures.same ∙ i.same

pub loop-worker-preserved : goal.loop-worker-preserved
loop-worker-preserved c =
    let b = c.args.self.now.desk.book in
    let w = c.loop-worker.worker in
    let i = c.loop-worker.invariant in
    let old = c.args.callers.now in
    let hs = c.loop-worker.callers in
    let y = c.is_of.new.caller in
    let lt : w < length hs = omega (arith, c.loop-worker-test.true, i.count) in
    let x = slice_index_or hs w c.index-callers-worker.result in
    let is = ap (λ (d : MhlinkCaller). slice_index_or hs w d) c.index-callers-worker.is in
    let here = ap (λ (xs : List HeldCallerState). ledger_at (ledgers_of xs) w) (sym i.same) ∙ ledger_of_handle hs w x lt is in
    record {
      full = All-set (λ (h : MhlinkCaller). h.full ≡ true) hs w y c.is_of.ensures.full i.full;
      count = length-set hs w y ∙ i.count;
      same = same_written hs w x y lt is c.is_of.ensures.same ∙ i.same;
      each = one_more (λ v. IsOf b v (ledger_at (ledgers_of (callers_of old)) v)) w i.each (subst (IsOf b w) (sym here) (c.if-not-is_of.ensures.decides.0 refl));
      links = one_more (λ v. length (ledger_at (ledgers_of (callers_of old)) v).unflushed ≡ length b.totals.total) w i.links
          (ap (λ (l : LedgerState). length l.unflushed) here ∙ c.if-not-is_of.ensures.links refl);
    }
