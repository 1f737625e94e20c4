use Rattle.std.proofs.Common.{◌≡◌, ◌∷◌, ◌∙◌, ap, arith}
use Rattle.std.proofs.lemmas.Result.{err_from_is_err_and}
use Rattle.mh_core.specs.declared.event.Event.TheVariants.{Flush}
use Rattle.mh_core.specs.Books.{BookState}
use Rattle.mh_core.specs.Runtimes.{flush_of}
use Rattle.mh_core.proofs.Growing.{fits_in}
use Rattle.mh_core.proofs.Machines.{calls_beside, flush_accepts, flush_rejects, machine_flushes, room_left}
use Rattle.mh_core.proofs.machine.Machine.flush.Goals.{After-add_newest}
use Rattle.mh_core.proofs.machine.Machine.flush.Goals as goal

pub returns-in_err-flush_behind-clause-refused : goal.returns-in_err-flush_behind-clause-refused
returns-in_err-flush_behind-clause-refused c =
    let m = c.self.inside in
    let p = err_from_is_err_and c.from_residual.result c.from_residual.ensures.1 in
    rw (p.1, p.2)
    (flush_rejects m.runtime m.history c.self.invariant c.args.self.now c.self.view_is c.calls-calls.result c.calls-calls.ensures.count c.args.worker c.flush_behind.new.self _
    c.in_err-flush_behind.ensures.refused c.in_err-flush_behind.ensures.kept)

pub add_newest-requires-clause-room : goal.add_newest-requires-clause-room
add_newest-requires-clause-room c =
    let m = c.self.inside in
    let b = m.runtime.book in
    let few = fits_in b.definition b.limits _ b.records (flush_of m.runtime c.args.worker) c.in_ok-flush_behind.ensures.taken.passes in
    room_left m.runtime m.history c.self.invariant (omega (arith, few, calls_beside m.runtime m.history c.self.invariant c.args.self.now c.self.view_is c.calls-calls.result c.calls-calls.ensures.count))

noted : (c : After-add_newest) → c.add_newest.new.self ≡ Flush c.args.worker ∷ c.self.inside.history
noted c =
    c.add_newest.ensures.value (flush_of c.self.inside.runtime c.args.worker) c.self.inside.runtime.book.records
    (ap (λ (b : BookState). b.records) c.book.ensures.value ∙ c.in_ok-flush_behind.ensures.taken.records)

pub invariant_of-self-2 : goal.invariant_of-self-2
invariant_of-self-2 c =
    let m = c.self.inside in
    let done = c.in_ok-flush_behind.ensures in
    machine_flushes m.runtime m.history c.self.invariant c.args.self.now c.self.view_is c.calls-calls.result c.calls-calls.ensures.count c.args.worker c.flush_behind.new.self
    done.known done.taken done.ledgers c.add_newest.new.self (noted c)

pub returns-clause-accepted : goal.returns-clause-accepted
returns-clause-accepted c =
    let m = c.self.inside in
    let done = c.in_ok-flush_behind.ensures in
    flush_accepts m.runtime m.history c.self.invariant c.args.self.now c.self.view_is c.calls-calls.result c.calls-calls.ensures.count c.args.worker c.flush_behind.new.self
    done.known done.taken done.ledgers c.add_newest.new.self (noted c)
