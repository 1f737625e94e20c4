use Rattle.std.proofs.Common.{inl, inr, refl, sym, subst, ap}
use Rattle.mh_ledger.specs.Ledgers.{FlushFits, TotalsState}
use Rattle.mh_core.specs.Books.{BookState, IsBook}
use Rattle.mh_core.proofs.Deciding.{below, fails}
use Rattle.mh_core.proofs.Standing.{fits_room, room_fits}
use Rattle.mh_core.proofs.book.Book.test_flush.Goals as goal

pub returns-clause-passes : goal.returns-clause-passes
returns-clause-passes c =
    let is = subst IsBook c.self.view_is c.self.invariant in
    let totals = ap (λ (b : BookState). b.totals) c.self.view_is in
    let room = subst (λ (t : TotalsState). FlushFits t c.args.ledger.now) totals (c.has_room.ensures.decides.0 c.if-not-has_room.false) in
    (below _ _ _ c.is_full.ensures.decides c.if-is_full.false, (room_fits c.args.self.now c.args.ledger.now is room, tt))

pub returns-then-not-has_room-clause-refuses : goal.returns-then-not-has_room-clause-refuses
returns-then-not-has_room-clause-refuses c =
    inr (
      below _ _ _ c.is_full.ensures.decides c.if-is_full.false,
      inl (
        λ fit.
            let room = fits_room c.args.self.now c.args.ledger.now (subst IsBook c.self.view_is c.self.invariant) fit in
            fails _ c.has_room.ensures.decides c.if-not-has_room.true (subst (λ (t : TotalsState). FlushFits t c.args.ledger.now) (sym (ap (λ (x : BookState). x.totals) c.self.view_is)) room),
        refl,
      ),
    )
