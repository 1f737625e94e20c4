use Rattle.std.proofs.Common.{◌≡◌, ◌∙◌, ◌<◌, ℕ, ap, arith, length, refl, subst, sym}
use Rattle.std.proofs.lemmas.Bool.{false≢true}
use Rattle.std.proofs.lemmas.List.{length-map}
use Rattle.mh_ledger.specs.Ledgers.{LedgerState, ledger_at}
use Rattle.mh_share.specs.Callers.{CallerState}
use Rattle.mh_share.specs.Laws.{ledger_there, one_more}
use Rattle.mh_share.specs.Renewals.{IsOf, ledgers_of, with_ledger}
use Rattle.mh_share.proofs.desk.Desk.has_all.Goals as goal

pub returns-then-not-is_of-clause-decides : goal.returns-then-not-is_of-clause-decides
returns-then-not-is_of-clause-decides c =
    let b = c.args.self.now.book in
    let w = c.loop-worker.worker in
    let callers = c.args.callers.now in
    let get : CallerState → LedgerState = λ k. k.ledger in
    let here = ledger_there get with_ledger callers w c.index-callers-worker.result c.loop-worker-test.true ∙ (ap get (sym c.index-callers-worker.is) ∙ sym c.ledger.ensures.value) in
    let inside : w < length (ledgers_of callers) = omega (arith, c.loop-worker-test.true, length-map callers get) in (
      (λ no. absurd (false≢true no)),
      (λ held. c.if-not-is_of.ensures.decides.1 (subst (IsOf b w) here (held.workers w inside, held.held w inside))),
    )

pub loop-worker-preserved : goal.loop-worker-preserved
loop-worker-preserved c =
    let b = c.args.self.now.book in
    let n = c.loop-worker.worker in
    let callers = c.args.callers.now in
    let get : CallerState → LedgerState = λ k. k.ledger in
    let here = ledger_there get with_ledger callers n c.index-callers-worker.result c.loop-worker-test.true ∙ (ap get (sym c.index-callers-worker.is) ∙ sym c.ledger.ensures.value) in
    record {
      each = one_more (λ w. IsOf b w (ledger_at (ledgers_of callers) w)) n c.loop-worker.invariant.each (subst (IsOf b n) (sym here) (c.if-not-is_of.ensures.decides.0 refl));
      links = one_more (λ w. length (ledger_at (ledgers_of callers) w).unflushed ≡ length b.totals.total) n c.loop-worker.invariant.links
          (ap (λ (l : LedgerState). length l.unflushed) here ∙ c.if-not-is_of.ensures.links refl);
    }
