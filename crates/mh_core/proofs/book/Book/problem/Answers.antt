use Rattle.std.proofs.Common.{inl, refl, arith}
use Rattle.mh_core.specs.Books.{book_state}
use Rattle.mh_core.proofs.Standing.{snapshots_now}
use Rattle.mh_core.proofs.book.Book.problem.Goals.{then-snapshot-eq0-via-then-snapshot-eq0, then-snapshot-eq0-via-else-snapshot-eq0+then-snapshot-len}
use Rattle.mh_core.proofs.book.Book.problem.Goals as goal

pub returns-then-snapshot-eq0-clause-refused : goal.returns-then-snapshot-eq0-clause-refused
returns-then-snapshot-eq0-clause-refused c =
    let count = snapshots_now (book_state c.self.inside) c.args.self.now c.self.inside.snapshots.items c.self.invariant c.self.view_is refl in
    elim c.then-snapshot-eq0.branch [
      | then-snapshot-eq0-via-then-snapshot-eq0 w ↦ inl (refl, λ taken. omega (arith, taken.0, w.if-snapshot-eq0.true))
      | then-snapshot-eq0-via-else-snapshot-eq0+then-snapshot-len w ↦ inl (refl, λ taken. omega (arith, taken.1, w.if-snapshot-len.true, w.len.ensures, c.self.inside.snapshots.ok.0, count))
    ]

pub problem_of_taken-requires : goal.problem_of_taken-requires
problem_of_taken-requires c =
    let count = snapshots_now (book_state c.self.inside) c.args.self.now c.self.inside.snapshots.items c.self.invariant c.self.view_is refl in
    record { taken = (omega (arith, c.if-snapshot-eq0.false), omega (arith, c.if-snapshot-len.false, c.len.ensures, c.self.inside.snapshots.ok.0, count)) }
