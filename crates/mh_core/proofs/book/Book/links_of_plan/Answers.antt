use Rattle.std.proofs.Common.{◌∙◌, ap, subst, sym}
use Rattle.mh_cert.specs.declared.plan.Plan.{Plan}
use Rattle.mh_core.specs.Laws.PlanTables.{AreKnown, plan_known}
use Rattle.mh_core.proofs.book.Book.links_of_plan.Goals as goal

known : (c : goal.After-as_slice) → AreKnown c.args.self.now.definition c.as_slice.result.now
known c =
    let value = c.as_slice.ensures.value ∙ ap (λ (p : Plan). p.links) c.plan.ensures.value in
    subst (AreKnown c.args.self.now.definition) (sym value) (plan_known c.args.self.now c.args.plan c.plan.ensures.book c.requires.published)

pub returns-clause-inside : goal.returns-clause-inside
returns-clause-inside c = (known c).inside

pub returns-clause-ascending : goal.returns-clause-ascending
returns-clause-ascending c = (known c).ascending
