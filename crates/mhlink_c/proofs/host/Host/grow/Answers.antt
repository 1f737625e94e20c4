use Rattle.std.proofs.Common.{length, refl, subst}
use Rattle.std.proofs.lemmas.Result.{err_from_is_err_and}
use Rattle.mh_core.specs.Books.{IsBook}
use Rattle.mh_core.specs.Extensions.{RefusesExtension}
use Rattle.mhlink_c.specs.Extensions.{GrowsBy}
use Rattle.mhlink_c.specs.Hosts.{HostState}
use Rattle.mhlink_c.proofs.Renewed.{fresh_over}
use Rattle.mhlink_c.proofs.host.Host.grow.Goals as goal

pub returns-in_err-extend-clause-refused : goal.returns-in_err-extend-clause-refused
returns-in_err-extend-clause-refused c =
    let p = err_from_is_err_and c.from_residual.result c.from_residual.ensures.1 in
    let told = c.in_err-extend.field-0.0 in
    let Tells : HostState → Type 0 = λ h. RefusesExtension h.runtime.book (length h.runtime.ledgers) c.args.further.points c.args.further.sites told in
    rw p.1 (told, (p.2, subst Tells c.self.view_is c.in_err-extend.ensures.refused))

pub returns-clause-grows : goal.returns-clause-grows
returns-clause-grows c =
    let old = c.self.inside.runtime in
    let new = c.extend.new.self in
    let further = c.args.further in
    let ok = c.in_ok-extend.ensures in
    let is = subst IsBook c.book.ensures.value c.kept.ensures.book in
    let grown : HostState = record { runtime = new; scope = further.scope; given = c.self.inside.given } in
    subst (λ (h : HostState). GrowsBy h further grown) c.self.view_is
    (record {
      extends = ok.extended;
      goes_on = ok.goes_on;
      ledgers = ok.ledgers;
      fresh = fresh_over further.points further.sites old.book new.book old.ledgers is c.book-book.ensures.runtime.held ok.extended;
      scope = refl;
      given = refl;
    })
