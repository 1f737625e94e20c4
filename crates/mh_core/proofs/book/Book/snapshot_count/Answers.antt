use Rattle.std.proofs.Common.{refl, arith}
use Rattle.mh_core.specs.Books.{book_state}
use Rattle.mh_core.proofs.Standing.{snapshots_now}
use Rattle.mh_core.proofs.book.Book.snapshot_count.Goals as goal

pub returns : goal.returns
returns c =
    let count = snapshots_now (book_state c.self.inside) c.args.self.now c.self.inside.snapshots.items c.self.invariant c.self.view_is refl in
    record { count = omega (arith, c.len.ensures, c.self.inside.snapshots.ok.0, count) }
