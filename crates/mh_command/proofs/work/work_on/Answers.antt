use Rattle.std.specs.Prelude.{string_bytes}
use Rattle.mh_text.specs.Bytes.{HasFailed}
use Rattle.mh_command.proofs.Works.{formless_ends, formless_helped, formless_works}
use Rattle.mh_command.proofs.work.work_on.Goals as goal

pub returns-clause-works : goal.returns-clause-works
returns-clause-works g c =
    rw (c.beside.ensures.end, c.beside.ensures.clear)
    (formless_works c.args.asked c.args.input.now c.requires.formless _ (g.W.Write.contents c.args.out.now.inner) (g.W.Write.contents c.work_over-end.new.out.inner) c.work_over-end.result c.work_over-end.ensures.works)

pub returns-clause-fails : goal.returns-clause-fails
returns-clause-fails g c =
    let B = HasFailed c.args.out.now.failures c.work_over-end.new.out.failures in
    rw c.beside.ensures.end
    (formless_ends c.args.asked c.args.input.now c.requires.formless (g.W.Write.contents c.args.out.now.inner) (g.W.Write.contents c.work_over-end.new.out.inner) ⊥ B c.work_over-end.result c.work_over-end.ensures.fails)

pub returns-clause-help : goal.returns-clause-help
returns-clause-help g c =
    rw (c.beside.ensures.end, c.beside.ensures.clear, c.beside.ensures.help)
    (formless_helped c.args.asked c.args.input.now c.requires.formless c.work_over-end.result c.fault_of.result (string_bytes c.help_for.result) c.fault_of.ensures.value c.help_for.ensures.explained c.help_for.ensures.unexplained c.help_for.ensures.silent)
