use Rattle.std.proofs.Common.{◌≡◌, ◌+◌, length, ap, refl, ◌∙◌, arith}
use Rattle.mh_core.specs.Books.{book_state}
use Rattle.mh_core.specs.Records.{plans}
use Rattle.mh_core.specs.Laws.PlanTables.{plans_count, plans_now}
use Rattle.mh_core.proofs.book.Book.publish.Goals as goal

pub returns-clause-number : goal.returns-clause-number
returns-clause-number c =
    let b = c.args.self.now in
    let new = c.accept.new.self in
    let count = plans_now (book_state c.self.inside) new c.self.inside.plans.items c.self.invariant c.self.view_is refl in
    let before : length b.plans ≡ plans b.records = ap length c.kept.ensures.book.plans ∙ plans_count b.records in
    let more : plans new.records ≡ plans b.records + 1 = ap plans c.in_ok-_published.ensures.taken.records in
    omega (arith, c.len.ensures, c.self.inside.plans.ok.0, count, before, more)
