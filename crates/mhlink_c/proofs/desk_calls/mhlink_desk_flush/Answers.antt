use Rattle.std.proofs.Common.{subst}
use Rattle.std.specs.Prelude.{IfErr}
use Rattle.mhlink_c.specs.Desks.{RefusesDeskFlush}
use Rattle.mhlink_c.specs.declared.caller_handle.MhlinkCaller.{MhlinkCaller}
use Rattle.mhlink_c.specs.declared.failure.Failure.{Failure}
use Rattle.mhlink_c.proofs.Statuses.{told_by}
use Rattle.mhlink_c.proofs.desk_calls.mhlink_desk_flush.Goals as goal

pub returns-clause-refused : goal.returns-clause-refused
returns-clause-refused c some =
    let answer = c.replace_with-given.result.1 in
    let Tells : MhlinkCaller → Failure → Type 0 = λ k. RefusesDeskFlush c.args.desk.now.value k.value.caller.ledger in
    let told = subst (λ (k : MhlinkCaller). IfErr answer (Tells k)) c.replace-taken.ensures.value c.replace_with-given.ensures.1.1.1.1.0 in
    told_by answer c.status.result (Tells c.args.caller.now) c.status.ensures.ok c.status.ensures.status told some
