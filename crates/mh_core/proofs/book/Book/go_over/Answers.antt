use Rattle.std.proofs.Common.{◌<◌, ◌∙◌, ap, length, refl, subst, sym, arith}
use Rattle.std.specs.Prelude.{reverse}
use Rattle.mh_ledger.specs.Ledgers.{AreHeld}
use Rattle.mh_core.specs.Books.{BookState, book_state}
use Rattle.mh_core.specs.Extensions.{BeginsOver, IsLonger}
use Rattle.mh_core.proofs.Extended.{gone_over}
use Rattle.mh_core.proofs.book.Book.go_over.Goals as goal

pub invariant_of-self : goal.invariant_of-self
invariant_of-self c =
    let b = book_state c.self.inside in
    let first = c.args.first in
    let ledgers = c.args.ledgers.now.items in
    let begins = subst (λ (x : BookState). BeginsOver x ledgers first.definition first) (sym c.self.view_is) c.requires.begins in
    let held = subst (λ (x : BookState). AreHeld x.totals ledgers) (sym c.self.view_is) c.requires.held in
    let room = subst (λ (x : BookState). length ledgers < x.limits.history) (sym c.self.view_is) c.requires.room in
    let longer = subst (λ (x : BookState). IsLonger x.definition first.definition) (sym c.self.view_is) c.requires.longer in
    gone_over b first.definition c.self.invariant c.links-links.ensures.totals (omega (arith, room, held.count)) c.sites-sites.ensures.lawful longer
    first.definition (reverse first.records.items) first.world first.totals (reverse c.new.result.items) (reverse c.new-2.result.items) _
    refl begins.records begins.world begins.totals (ap reverse c.new.ensures.items) (ap reverse c.new-2.ensures.items)
