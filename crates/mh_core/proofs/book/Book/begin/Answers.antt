use Rattle.std.proofs.Common.{◌<◌, ◌∙◌, ap, length, subst, sym, arith}
use Rattle.std.specs.Prelude.{reverse}
use Rattle.mh_ledger.specs.Ledgers.{AreHeld}
use Rattle.mh_ledger.specs.Renewals.{renewed_shares}
use Rattle.mh_site.specs.Links.{links}
use Rattle.mh_core.specs.Books.{BookState, book_state}
use Rattle.mh_core.specs.Renewals.{Begins}
use Rattle.mh_core.specs.Laws.Renewing.{means_the_same, renewed_links}
use Rattle.mh_core.proofs.Renewed.{begun}
use Rattle.mh_core.proofs.book.Book.begin.Goals as goal

pub invariant_of-self : goal.invariant_of-self
invariant_of-self c =
    let b = book_state c.self.inside in
    let first = c.args.first in
    let ledgers = c.args.ledgers.now.items in
    let begins = subst (λ (x : BookState). Begins c.args.again.now c.args.hits x first) (sym c.self.view_is) c.requires.begins in
    let held = subst (λ (x : BookState). AreHeld x.totals ledgers) (sym c.self.view_is) c.requires.held in
    let room = subst (λ (x : BookState). length ledgers < x.limits.history) (sym c.self.view_is) c.requires.room in
    begun b c.args.again.now c.args.hits c.self.invariant c.links-links.ensures.totals (omega (arith, room, held.count))
    first.definition (reverse first.records.items) first.world c.renew.new.self (reverse c.new.result.items) (reverse c.new-2.result.items) _
    begins.definition begins.records begins.world c.renew.ensures.totals (ap reverse c.new.ensures.items) (ap reverse c.new-2.ensures.items)

pub returns-clause-means : goal.returns-clause-means
returns-clause-means c = means_the_same c.args.self.now _ c.args.again.now (renewed_shares c.args.hits c.args.self.now.totals) c.requires.begins.typed c.requires.begins.definition c.requires.begins.records

pub returns-clause-links : goal.returns-clause-links
returns-clause-links c = ap links c.requires.begins.definition ∙ renewed_links c.args.self.now.definition c.args.self.now.records c.args.again.now
