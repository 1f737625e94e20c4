use Rattle.std.proofs.Common.{◌∙◌, ap, refl, arith}
use Rattle.mh_core.specs.Books.{book_state}
use Rattle.mh_core.specs.Installations.{PublishedPlan}
use Rattle.mh_core.specs.Laws.PlanTables.{plan_read, plans_now}
use Rattle.mh_core.proofs.book.Book.plan.Goals as goal

pub index-requires : goal.index-requires
index-requires c =
    let count = plans_now (book_state c.self.inside) c.args.self.now c.self.inside.plans.items c.self.invariant c.self.view_is refl in
    omega (arith, c.requires.published.0, c.requires.published.1, c.self.inside.plans.ok.0, count)

pub returns-clause-value : goal.returns-clause-value
returns-clause-value c =
    let read = plan_read (book_state c.self.inside) c.args.self.now c.self.inside.plans.items c.args.plan c.index.result.now c.self.invariant c.self.view_is refl c.requires.published c.index.ensures in
    c.plan.ensures.value ∙ ap (λ (p : PublishedPlan). p.plan) (c.behind-self.view_is ∙ read)
