use Rattle.std.proofs.Common.{length, subst}
use Rattle.std.proofs.lemmas.Result.{err_from_is_err_and}
use Rattle.mh_base.specs.Tests.{Refuses}
use Rattle.mh_core.specs.Renewals.{renewal_tests}
use Rattle.mhlink_c.specs.Hosts.{HostState}
use Rattle.mhlink_c.proofs.host.Host.begin_anew.Goals as goal

pub returns-in_err-renew-clause-refused : goal.returns-in_err-renew-clause-refused
returns-in_err-renew-clause-refused c =
    let p = err_from_is_err_and c.from_residual.result c.from_residual.ensures.1 in
    let told = c.in_err-renew.field-0.0 in
    let Tells : HostState → Type 0 = λ h. Refuses (renewal_tests h.runtime.book.definition h.runtime.book.limits (length h.runtime.ledgers) c.args.again.now) told in
    rw p.1 (told, (p.2, subst Tells c.self.view_is c.in_err-renew.ensures.refused))
