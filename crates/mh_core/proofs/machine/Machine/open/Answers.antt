use Rattle.std.proofs.Common.{List, subst, sym}
use Rattle.mh_core.specs.declared.event.Event.{Event}
use Rattle.mh_core.specs.Books.{BookState}
use Rattle.mh_core.specs.Limits.{IsLimits}
use Rattle.mh_core.specs.Machines.{IsMachine}
use Rattle.mh_core.specs.Runtimes.{RuntimeState, opened_runtime}
use Rattle.mh_core.proofs.Machines.{machine_opened}
use Rattle.mh_core.proofs.machine.Machine.open.Goals as goal

pub invariant_of-result : goal.invariant_of-result
invariant_of-result c =
    let d = c.args.definition.now in
    let l = c.args.limits in
    let opened = c.in_ok-runtime.ensures.value in
    let book = subst (λ (b : BookState). IsLimits b.limits) c.book.ensures.value c.kept.ensures.book.limits in
    let limits : IsLimits l = subst (λ (r : RuntimeState). IsLimits r.book.limits) opened book in
    subst (λ (r : RuntimeState). IsMachine r c.new-history.result) (sym opened)
    (subst (λ (h : List Event). IsMachine (opened_runtime d c.args.workers l) h) (sym c.new-history.ensures.value) (machine_opened d l c.args.workers limits))
