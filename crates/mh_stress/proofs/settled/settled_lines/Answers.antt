use Rattle.std.proofs.Common.{◌++◌, ◌∙◌, ℕ, List, ap}
use Rattle.mh_stress.specs.Stress.{report_where, settled_line}
use Rattle.mh_stress.specs.declared.sums.Sums.{Sums}
use Rattle.mh_stress.proofs.Settling.{are_sums}
use Rattle.mh_stress.proofs.settled.settled_lines.Goals as goal

pub returns-clause-value : goal.returns-clause-value
returns-clause-value g c =
    let d = g.N.ListName.definition in
    let s = c.args.settled.now in
    let sums = c.sums_of.ensures.value ∙ are_sums d g.N.ListName.limits g.N.ListName.workers s c.sums_of.ensures.settled in
    let line = c.in_ok-lines.ensures.value ∙ ap (λ (x : Sums). settled_line x) sums in
    c.in_ok-push_report.ensures.value ∙ ap (λ (t : List ℕ). t ++ report_where c.args.report d s.book.records s.unflushed) line
