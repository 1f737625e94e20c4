use Rattle.std.proofs.Common.{sym, subst}
use Rattle.std.specs.Prelude.{IfErr}
use Rattle.mh_core.specs.declared.record.Record.{Record}
use Rattle.mh_core.specs.Books.{MayRefuse}
use Rattle.mh_core.proofs.book.Book.test.Goals as goal

pub returns-in-Published-clause-refuses : goal.returns-in-Published-clause-refuses
returns-in-Published-clause-refuses c = subst (λ (e : Record). IfErr c.test_publish.result (MayRefuse c.args.self.now c.args.calls e)) (sym c.in-Published.is) c.test_publish.ensures.refuses
