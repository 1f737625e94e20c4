use Rattle.std.proofs.Common.{inl, inr, refl, arith}
use Rattle.mh_core.specs.Books.{book_state}
use Rattle.mh_core.proofs.Deciding.{below, fails}
use Rattle.mh_core.proofs.Standing.{gains_read, snapshots_now}
use Rattle.mh_core.proofs.book.Book.test_snapshot.Goals.{then-is_full-via-then-is_full, then-is_full-via-else-is_full+then-len-ge-MOST_SNAPSHOTS}
use Rattle.mh_core.proofs.book.Book.test_snapshot.Goals as goal

pub returns-clause-passes : goal.returns-clause-passes
returns-clause-passes c =
    let b = book_state c.self.inside in
    let count = snapshots_now b c.args.self.now c.self.inside.snapshots.items c.self.invariant c.self.view_is refl in
    let gains = gains_read b c.args.self.now _ _ c.self.invariant c.self.view_is c.as_slice-totals.ensures.value c.valid.ensures.value in (
      (below _ _ _ c.is_full.ensures.decides c.if-is_full.false, omega (arith, c.if-len-ge-MOST_SNAPSHOTS.false, c.len.ensures, c.self.inside.snapshots.ok.0, count)),
      (omega (arith, c.gains_fit.ensures.decides.0 c.if-not-gains_fit.false, gains), tt),
    )

pub returns-then-not-gains_fit-clause-refuses : goal.returns-then-not-gains_fit-clause-refuses
returns-then-not-gains_fit-clause-refuses c =
    let b = book_state c.self.inside in
    let count = snapshots_now b c.args.self.now c.self.inside.snapshots.items c.self.invariant c.self.view_is refl in
    let gains = gains_read b c.args.self.now _ _ c.self.invariant c.self.view_is c.as_slice-totals.ensures.value c.valid.ensures.value in
    inr (
      (below _ _ _ c.is_full.ensures.decides c.if-is_full.false, omega (arith, c.if-len-ge-MOST_SNAPSHOTS.false, c.len.ensures, c.self.inside.snapshots.ok.0, count)),
      inl (λ few. fails _ c.gains_fit.ensures.decides c.if-not-gains_fit.true (omega (arith, few, gains)), refl),
    )

pub returns-then-is_full-clause-refuses : goal.returns-then-is_full-clause-refuses
returns-then-is_full-clause-refuses c =
    let count = snapshots_now (book_state c.self.inside) c.args.self.now c.self.inside.snapshots.items c.self.invariant c.self.view_is refl in
    elim c.then-is_full.branch [
      | then-is_full-via-then-is_full w ↦ inl (λ room. omega (arith, c.is_full.ensures.decides.0 w.if-is_full.true, room.0), refl)
      | then-is_full-via-else-is_full+then-len-ge-MOST_SNAPSHOTS w ↦ inl (λ room. omega (arith, room.1, w.if-len-ge-MOST_SNAPSHOTS.true, w.len.ensures, c.self.inside.snapshots.ok.0, count), refl)
    ]
