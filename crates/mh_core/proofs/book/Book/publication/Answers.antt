use Rattle.std.proofs.Common.{◌≡◌, ◌+◌, ap, refl, ◌∙◌, arith}
use Rattle.mh_core.specs.Books.{book_state}
use Rattle.mh_core.specs.declared.reply.Reply.TheVariants as reply
use Rattle.mh_core.specs.Records.{plans}
use Rattle.mh_core.specs.Laws.PlanTables.{plans_now}
use Rattle.mh_core.proofs.book.Book.publication.Goals as goal

pub returns-clause-reply : goal.returns-clause-reply
returns-clause-reply c =
    let count = plans_now (book_state c.self.inside) c.args.self.now c.self.inside.plans.items c.self.invariant c.self.view_is refl in
    let number : c.len-number.result + 1 ≡ plans c.args.self.now.records + 1 = omega (arith, c.len-number.ensures, c.self.inside.plans.ok.0, count) in
    ap (λ n. reply.Published n c.in_ok-told.told) number ∙ ap (reply.Published (plans c.args.self.now.records + 1)) c.in_ok-told.ensures.value
