use Rattle.std.proofs.Common.{List, ◌∙◌, ap, map, subst, sym}
use Rattle.mh_ledger.specs.Extensions.{extended_ledger, extended_totals}
use Rattle.mh_ledger.specs.Ledgers.{LedgerState}
use Rattle.mh_site.specs.Defined.{DefinitionData}
use Rattle.mh_core.specs.Extensions.{BeginsOver, IsLonger, extension, more_links}
use Rattle.mh_core.specs.Laws.Extending.{extension_longer, goes_on}
use Rattle.mh_core.proofs.book.Book.extend.Goals as goal

pub go_over-requires-clause-longer : goal.go_over-requires-clause-longer
go_over-requires-clause-longer c =
    let now = c.args.self.now in
    subst (IsLonger now.definition) (sym c.in_ok-first.ensures.begins.definition) (extension_longer now.definition now.records c.args.points c.args.sites)

pub go_over-requires-clause-begins : goal.go_over-requires-clause-begins
go_over-requires-clause-begins c =
    let now = c.args.self.now in
    let first = c.in_ok-first.first in
    let begins = c.in_ok-first.ensures.begins in
    subst (λ (ls : List LedgerState). BeginsOver now ls first.definition first) c.deref.ensures.value
    (subst (λ (d : DefinitionData). BeginsOver now c.deref.result.now d first) (sym begins.definition) begins)

pub returns-clause-extended : goal.returns-clause-extended
returns-clause-extended c =
    let now = c.args.self.now in
    let begins = c.in_ok-first.ensures.begins in
    let definition = c.go_over.ensures.definition ∙ begins.definition in
    record {
      definition = definition;
      limits = c.go_over.ensures.limits;
      records = c.go_over.ensures.records;
      totals = c.go_over.ensures.totals ∙ (begins.totals ∙ ap (λ (d : DefinitionData). extended_totals (more_links now.definition d) now.totals) (sym definition));
    }

pub returns-clause-goes_on : goal.returns-clause-goes_on
returns-clause-goes_on c =
    let now = c.args.self.now in
    let e = returns-clause-extended c in
    goes_on now c.go_over.new.self c.args.points c.args.sites c.kept.ensures.book.definition c.kept.ensures.book.legal e.definition e.records

pub returns-clause-ledgers : goal.returns-clause-ledgers
returns-clause-ledgers c =
    let now = c.args.self.now in
    let begins = c.in_ok-first.ensures.begins in
    let definition = c.go_over.ensures.definition ∙ begins.definition in
    c.go_over.ensures.ledgers
    ∙ (begins.ledgers
    ∙ (ap (map (extended_ledger (more_links now.definition (extension now.definition now.records c.args.points c.args.sites)))) c.deref.ensures.value
    ∙ ap (λ (d : DefinitionData). map (extended_ledger (more_links now.definition d)) c.args.ledgers.now.items) (sym definition)))
