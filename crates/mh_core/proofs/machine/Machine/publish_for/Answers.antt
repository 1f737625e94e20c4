use Rattle.std.proofs.Common.{◌≡◌, ◌∷◌, ◌∙◌, List, ap, arith, subst, sym}
use Rattle.std.proofs.lemmas.Result.{err_from_is_err_and}
use Rattle.mh_core.specs.Books.{BookState}
use Rattle.mh_core.specs.Histories.{records}
use Rattle.mh_core.specs.Legal.{MachineState}
use Rattle.mh_core.specs.Problems.{problem_at}
use Rattle.mh_core.specs.declared.event.Event.TheVariants.{Publish}
use Rattle.mh_core.specs.declared.record.Record.{Record}
use Rattle.mh_core.specs.declared.record.Record.TheVariants.{Published}
use Rattle.mh_cert.specs.Plans.{Matches}
use Rattle.mh_core.proofs.Growing.{fits_in}
use Rattle.mh_core.proofs.Machines.{calls_beside, machine_accepts, machine_rejects, machine_takes, room_for_plan, room_left}
use Rattle.mh_core.proofs.machine.Machine.publish_for.Goals.{After-add_newest}
use Rattle.mh_core.proofs.machine.Machine.publish_for.Goals as goal

pub publish_behind-requires-clause-matching : goal.publish_behind-requires-clause-matching
publish_behind-requires-clause-matching c =
    let m = c.self.inside in
    let there = subst (λ (y : MachineState). Matches (problem_at y.setting.definition (records y.setting.definition y.history) c.args.snapshot) c.args.plan) (sym c.self.view_is) c.requires.matching in
    subst (λ (g : List Record). Matches (problem_at m.runtime.book.definition g c.args.snapshot) c.args.plan) (sym c.self.invariant.records) there

pub returns-in_err-reply-clause-refused : goal.returns-in_err-reply-clause-refused
returns-in_err-reply-clause-refused c =
    let m = c.self.inside in
    let p = err_from_is_err_and c.from_residual.result c.from_residual.ensures.1 in
    rw (p.1, p.2)
    (machine_rejects m.runtime m.history c.self.invariant c.args.self.now c.self.view_is c.calls-calls.result c.calls-calls.ensures.count (Published c.args.snapshot c.args.plan) tt c.publish_behind.new.self
    c.in_err-reply.ensures.ledgers _ c.in_err-reply.ensures.refused)

pub returns-in_err-reply-clause-early : goal.returns-in_err-reply-clause-early
returns-in_err-reply-clause-early c =
    let m = c.self.inside in
    let p = err_from_is_err_and c.from_residual.result c.from_residual.ensures.1 in
    rw (p.1, p.2) (λ memory. room_for_plan m.runtime m.history c.self.invariant c.args.self.now c.self.view_is c.calls-calls.result c.calls-calls.ensures.count (c.in_err-reply.ensures.early memory))

pub add_newest-requires-clause-room : goal.add_newest-requires-clause-room
add_newest-requires-clause-room c =
    let m = c.self.inside in
    let b = m.runtime.book in
    let few = fits_in b.definition b.limits _ b.records (Published c.args.snapshot c.args.plan) c.in_ok-reply.ensures.taken.passes in
    room_left m.runtime m.history c.self.invariant (omega (arith, few, calls_beside m.runtime m.history c.self.invariant c.args.self.now c.self.view_is c.calls-calls.result c.calls-calls.ensures.count))

noted : (c : After-add_newest) → c.add_newest.new.self ≡ Publish c.args.snapshot c.args.plan ∷ c.self.inside.history
noted c = c.add_newest.ensures.value (Published c.args.snapshot c.args.plan) c.self.inside.runtime.book.records (ap (λ (b : BookState). b.records) c.book.ensures.value ∙ c.in_ok-reply.ensures.taken.records)

pub invariant_of-self-2 : goal.invariant_of-self-2
invariant_of-self-2 c =
    let m = c.self.inside in
    machine_takes m.runtime m.history c.self.invariant c.args.self.now c.self.view_is c.calls-calls.result c.calls-calls.ensures.count (Published c.args.snapshot c.args.plan) tt c.publish_behind.new.self
    c.in_ok-reply.ensures.ledgers c.in_ok-reply.ensures.taken c.add_newest.new.self (noted c)

pub returns-clause-accepted : goal.returns-clause-accepted
returns-clause-accepted c =
    let m = c.self.inside in
    machine_accepts m.runtime m.history c.self.invariant c.args.self.now c.self.view_is c.calls-calls.result c.calls-calls.ensures.count (Published c.args.snapshot c.args.plan) tt c.publish_behind.new.self
    c.in_ok-reply.ensures.ledgers c.in_ok-reply.ensures.taken c.add_newest.new.self (noted c) _ c.in_ok-reply.ensures.reply
