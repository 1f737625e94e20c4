use Rattle.std.proofs.Common.{subst}
use Rattle.std.proofs.lemmas.Result.{err_from_is_err_and}
use Rattle.mh_core.specs.Runtimes.{RefusesFlush}
use Rattle.mhlink_c.specs.Hosts.{HostState}
use Rattle.mhlink_c.proofs.host.Host.flush.Goals as goal

pub returns-in_err-flush-clause-refused : goal.returns-in_err-flush-clause-refused
returns-in_err-flush-clause-refused c =
    let p = err_from_is_err_and c.from_residual.result c.from_residual.ensures.1 in
    let told = c.in_err-flush.field-0.0 in
    let Tells : HostState → Type 0 = λ h. RefusesFlush h.runtime 0 c.args.worker told in
    rw p.1 (told, (p.2, subst Tells c.self.view_is c.in_err-flush.ensures.refused))
