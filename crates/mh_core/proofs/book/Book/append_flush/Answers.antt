use Rattle.std.proofs.Common.{◌≡◌, ◌+◌, ◌++◌, ◌∷◌, [], List, ℕ, length, refl, ap, sym, subst, ◌∙◌}
use Rattle.mh_core.specs.declared.record.Record.{Record}
use Rattle.mh_core.specs.declared.record.Record.TheVariants.{Flushed}
use Rattle.mh_core.specs.Books.{BookState, IsBook, book_state}
use Rattle.mh_core.specs.Records.{hits_in}
use Rattle.mh_core.specs.Rows.{tests_of_record}
use Rattle.mh_base.specs.Tests.{Passes}
use Rattle.mh_core.proofs.Deciding.{sure}
use Rattle.mh_core.proofs.Growing.{book_grows}
use Rattle.mh_core.proofs.Standing.{fits_room, flushed_totals}
use Rattle.mh_core.proofs.book.Book.append_flush.Goals as goal

pub invariant_of-self-2 : goal.invariant_of-self-2
invariant_of-self-2 c =
    let b = book_state c.self.inside in
    let is : IsBook b = c.self.invariant in
    let l = c.args.ledger.now in
    let e : Record = Flushed l.worker (hits_in l.unflushed) in
    let passes = subst (λ (x : BookState). Passes (tests_of_record x.definition x.limits (length x.records + c.args.calls) x.records e)) (sym c.self.view_is) c.requires.passes in
    let room = fits_room b l is passes.1.0 in
    let hits : c.in_ok-hits.hits ≡ hits_in l.unflushed = c.in_ok-hits.ensures.value ∙ ap hits_in c.unflushed_hits.ensures.value in
    let items =
    c.push_reserved.ensures.items ∙ (ap (λ (r : List Record). r ++ Flushed c.worker-worker.result c.in_ok-hits.hits ∷ []) c.in_ok-reserve.ensures.items
    ∙ (ap (λ (w : ℕ). c.self.inside.records.items ++ Flushed w c.in_ok-hits.hits ∷ []) c.worker-worker.ensures.value
    ∙ ap (λ (h : List (ℕ × ℕ)). c.self.inside.records.items ++ Flushed l.worker h ∷ []) hits)) in
    let totals = flushed_totals b l c.flush-room.new.self is (sure c.flush-room.result c.flush-room.ensures.full room c.flush-room.ensures.totals) (sure c.flush-room.result c.flush-room.ensures.full room c.flush-room.ensures.rises) in
    book_grows b c.args.calls e c.self.inside.records.items c.push_reserved.new.self.items b.world c.flush-room.new.self b.snapshots b.plans is passes
    record { world = is.world; totals = totals; snapshots = is.snapshots; plans = is.plans } refl items

pub returns-clause-ledger : goal.returns-clause-ledger
returns-clause-ledger c =
    let b = book_state c.self.inside in
    let l = c.args.ledger.now in
    let passes = subst (λ (x : BookState). Passes (tests_of_record x.definition x.limits (length x.records + c.args.calls) x.records (Flushed l.worker (hits_in l.unflushed)))) (sym c.self.view_is) c.requires.passes in
    sure c.flush-room.result c.flush-room.ensures.full (fits_room b l c.self.invariant passes.1.0) c.flush-room.ensures.ledger
