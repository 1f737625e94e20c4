use Rattle.std.proofs.Common.{Some, List, ℕ, Bor, subst}
use Rattle.mh_text.specs.Bytes.{HasFailed}
use Rattle.mh_command.specs.Answers.{FailsOn}
use Rattle.mh_command.proofs.Works.{fails_held, others_held}
use Rattle.mh_command.proofs.work.work_over.Goals as goal

pub returns-in-Err-clause-fails : goal.returns-in-Err-clause-fails
returns-in-Err-clause-fails g c =
    let old = g.W.Write.contents c.args.out.now.inner in
    let new = g.W.Write.contents c.work.new.out.inner in
    let A = HasFailed c.new-reader.result.failures c.work.new.reader.failures in
    let B = HasFailed c.args.out.now.failures c.work.new.out.failures in
    let fails = subst (λ (r : Bor (List ℕ)). FailsOn c.args.request (Some r.now) old new A B c.in-Err.fault) c.new-reader.ensures.inner c.in-Err.ensures.fails in
    fails_held c.in-Err.fault c.held.result c.held.ensures.read c.held.ensures.other c.args.request c.args.input.now old new A B fails

pub returns-in-Err-clause-others : goal.returns-in-Err-clause-others
returns-in-Err-clause-others g c =
    others_held c.in-Err.fault c.held.result c.held.ensures.read c.held.ensures.other c.args.out.now.failures c.work.new.out.failures c.in-Err.ensures.others.1
