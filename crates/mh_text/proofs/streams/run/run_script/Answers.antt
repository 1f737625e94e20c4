use Rattle.std.proofs.Common.{◌∙◌}
use Rattle.std.proofs.lemmas.Result.{err_from_is_err_and}
use Rattle.mh_text.proofs.Runs.{early_in_line, early_in_report, run_written}
use Rattle.mh_text.proofs.streams.run.run_script.Goals as goal

pub returns-in_err-ran-clause-failed : goal.returns-in_err-ran-clause-failed
returns-in_err-ran-clause-failed g c =
    let p = err_from_is_err_and c.from_residual-in_err-ran.result c.from_residual-in_err-ran.ensures.1 in
    rw (p.1, p.2) (early_in_line c.args.options c.args.script c.in_ok-machine.machine c.into_vec.result.items c.in_ok-machine.ensures.value c.into_vec.ensures.value _ _ _ _ c.in_err-ran.ensures.kind c.in_err-ran.ensures.ends)

pub returns-in_err-write_report-clause-failed : goal.returns-in_err-write_report-clause-failed
returns-in_err-write_report-clause-failed g c =
    let p = err_from_is_err_and c.from_residual-in_err-write_report.result c.from_residual-in_err-write_report.ensures.1 in
    rw (p.1, p.2) (early_in_report c.args.options c.args.script c.in_ok-machine.machine c.into_vec.result.items c.in_ok-machine.ensures.value c.into_vec.ensures.value _ c.in_ok-ran.ran.machine c.in_ok-ran.ran.refused.items _ _ _ _ _ _ c.in_ok-ran.ensures.kept c.in_ok-ran.ensures.ok c.in_err-write_report.ensures.failed)

pub returns-in_err-write_report-clause-others : goal.returns-in_err-write_report-clause-others
returns-in_err-write_report-clause-others g c =
    let p = err_from_is_err_and c.from_residual-in_err-write_report.result c.from_residual-in_err-write_report.ensures.1 in
    rw (p.1, p.2) (λ other. c.in_err-write_report.ensures.others other ∙ c.in_ok-ran.ensures.kept)

pub returns-clause-ok : goal.returns-clause-ok
returns-clause-ok g c =
    run_written c.args.options c.args.script c.in_ok-machine.machine c.into_vec.result.items c.in_ok-machine.ensures.value c.into_vec.ensures.value c.in_ok-ran.ran.machine c.in_ok-ran.ran.refused.items _ _ _ c.in_ok-ran.ensures.ok c.in_ok-write_report.ensures.ok
