use Rattle.std.proofs.Common.{refl, arith}
use Rattle.mh_core.specs.Books.{book_state}
use Rattle.mh_core.specs.Laws.PlanTables.{plans_now}
use Rattle.mh_core.proofs.book.Book.plan_count.Goals as goal

pub returns : goal.returns
returns c =
    let count = plans_now (book_state c.self.inside) c.args.self.now c.self.inside.plans.items c.self.invariant c.self.view_is refl in
    record { count = omega (arith, c.len.ensures, c.self.inside.plans.ok.0, count) }
