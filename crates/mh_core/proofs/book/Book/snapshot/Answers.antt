use Rattle.std.proofs.Common.{◌≡◌, ◌+◌, length, ap, refl, ◌∙◌, arith}
use Rattle.mh_core.specs.Books.{book_state}
use Rattle.mh_core.specs.Records.{snapshots}
use Rattle.mh_core.specs.Laws.PastSnapshots.{snapshots_count}
use Rattle.mh_core.proofs.Standing.{snapshots_now}
use Rattle.mh_core.proofs.book.Book.snapshot.Goals as goal

pub returns-clause-number : goal.returns-clause-number
returns-clause-number c =
    let b = c.args.self.now in
    let new = c.accept.new.self in
    let count = snapshots_now (book_state c.self.inside) new c.self.inside.snapshots.items c.self.invariant c.self.view_is refl in
    let before : length b.snapshots ≡ snapshots b.records = ap length c.kept.ensures.book.snapshots ∙ snapshots_count b.definition b.records in
    let more : snapshots new.records ≡ snapshots b.records + 1 = ap snapshots c.in_ok-_taken.ensures.taken.records in
    omega (arith, c.len.ensures, c.self.inside.snapshots.ok.0, count, before, more)
