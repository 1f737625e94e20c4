use Rattle.std.proofs.Common.{◌≡◌, ap, subst, ◌∙◌, List}
use Rattle.mh_network.specs.Problems.{ProblemData}
use Rattle.mh_network.specs.Selection.{IsLeast, member}
use Rattle.mh_cert.specs.Plans.{Matches}
use Rattle.mh_site.specs.Defined.{DefinitionData}
use Rattle.mh_core.specs.declared.record.Record.{Record}
use Rattle.mh_core.specs.Histories.{records}
use Rattle.mh_core.specs.Problems.{problem_at}
use Rattle.mh_text.proofs.streams.stepping.make_plan.Goals as goal

pub returns-clause-best : goal.returns-clause-best
returns-clause-best g c =
    let d = c.args.machine.now.setting.definition in
    let n = c.args.snapshot in
    let same : c.in_ok-problem.problem ≡ problem_at d (records d c.args.machine.now.history) n =
    c.in_ok-problem.ensures.value
    ∙ (ap (λ (x : DefinitionData). problem_at x c.book.result.now.records n) c.book.ensures.definition
    ∙ ap (λ (r : List Record). problem_at d r n) c.book.ensures.records) in
    let plan = c.in_ok-plan.plan in
    subst (λ (p : ProblemData). Matches p plan × IsLeast p (member plan.links)) same (c.in_ok-plan.ensures.matching, c.in_ok-plan.ensures.least)
