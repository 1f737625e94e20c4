use Rattle.std.proofs.Common.{◌<◌, ◌∙◌, List, length, ap, arith, subst, sym}
use Rattle.std.proofs.lemmas.Result.{err_from_is_err_and}
use Rattle.mh_type.specs.declared.value.Value.{Value}
use Rattle.mh_base.specs.Tests.{Passes, Refuses}
use Rattle.mh_core.specs.declared.event.Event.TheVariants.{Call}
use Rattle.mh_core.specs.declared.record.Record.{Record}
use Rattle.mh_core.specs.Callers.{IsCallable}
use Rattle.mh_core.specs.Histories.{records}
use Rattle.mh_core.specs.Hits.{IsHitLink}
use Rattle.mh_core.specs.Legal.{MachineState, answer_of_call, extended, tests}
use Rattle.mh_core.specs.Machines.{IsMachine, machine_of}
use Rattle.mh_core.specs.Runtimes.{CountsHit, RuntimeState, room_tests}
use Rattle.mh_core.specs.Runtimes as runtime
use Rattle.mh_core.proofs.Deciding.{below}
use Rattle.mh_core.proofs.Machines.{machine_calls, passes_call, refuses_call, room_left, view_calls}
use Rattle.mh_core.proofs.machine.Machine.call.Goals.{in-One-2, in-Two-2, in-Many-2, in-None-2}
use Rattle.mh_core.proofs.machine.Machine.call.Goals as goal

pub returns-in_err-outcome-clause-refused : goal.returns-in_err-outcome-clause-refused
returns-in_err-outcome-clause-refused c =
    let m = c.self.inside in
    let s = c.args.site in
    let w = c.args.worker in
    let same = c.as_slice-values.ensures.value in
    let few : length m.history < m.runtime.book.limits.history =
    omega (arith, below c.is_full.result _ _ c.is_full.ensures.decides c.in_ok-link.ensures.open, ap (λ (y : MachineState). length y.history) c.self.view_is, ap (λ (y : MachineState). y.setting.limits.history) c.self.view_is) in
    let may = subst (IsCallable m.runtime.book.definition s) same c.in_ok-link.ensures.callable in
    let hit = subst (λ (a : List Value). IsHitLink m.runtime.book.definition s a c.in_ok-link.link) same c.in_ok-link.ensures.link in
    let p = err_from_is_err_and c.from_residual-in_err-outcome.result c.from_residual-in_err-outcome.ensures.1 in
    let told = c.in_err-outcome.field-0.0 in
    let tests_told = subst (λ (a : List Value). Refuses (room_tests m.runtime w s a) told) same c.in_err-outcome.ensures.refused in
    let refuses = subst (λ (y : MachineState). Refuses (tests y.setting y.history (Call w s c.args.arguments)) told) c.self.view_is
    (refuses_call m.runtime m.history c.self.invariant w s c.args.arguments c.in_ok-link.link c.in_ok-link.ensures.worker may hit few told tests_told) in
    let kept = ap (λ (r : RuntimeState). machine_of r m.history) c.in_err-outcome.ensures.kept ∙ c.self.view_is in
    elim c.match-arguments-2.branch [
      | in-One-2 v ↦ rw (p.1, p.2) record { refuses = refuses; same = kept }
      | in-Two-2 v ↦ rw (p.1, p.2) record { refuses = refuses; same = kept }
      | in-Many-2 v ↦ rw (p.1, p.2) record { refuses = refuses; same = kept }
      | in-None-2 v ↦ rw (p.1, p.2) record { refuses = refuses; same = kept }
    ]

pub add_call-requires : goal.add_call-requires
add_call-requires c =
    let few : length c.self.inside.history < c.self.inside.runtime.book.limits.history =
    omega (arith, below c.is_full.result _ _ c.is_full.ensures.decides c.in_ok-link.ensures.open, ap (λ (y : MachineState). length y.history) c.self.view_is, ap (λ (y : MachineState). y.setting.limits.history) c.self.view_is) in
    record { room = room_left c.self.inside.runtime c.self.inside.history c.self.invariant few }

pub invariant_of-self-2 : goal.invariant_of-self-2
invariant_of-self-2 c =
    let m = c.self.inside in
    let few : length c.self.inside.history < c.self.inside.runtime.book.limits.history =
    omega (arith, below c.is_full.result _ _ c.is_full.ensures.decides c.in_ok-link.ensures.open, ap (λ (y : MachineState). length y.history) c.self.view_is, ap (λ (y : MachineState). y.setting.limits.history) c.self.view_is) in
    let s = c.args.site in
    let w = c.args.worker in
    let same = c.as_slice-values.ensures.value in
    let may = subst (IsCallable m.runtime.book.definition s) same c.in_ok-link.ensures.callable in
    let hit = subst (λ (a : List Value). IsHitLink m.runtime.book.definition s a c.in_ok-link.link) same c.in_ok-link.ensures.link in
    let counts = subst (λ (a : List Value). CountsHit m.runtime.book.definition w s a m.runtime.ledgers c.answer.new.self.ledgers) same c.in_ok-outcome.ensures.counted in
    subst (IsMachine c.answer.new.self) (sym c.add_call.ensures.value)
    (machine_calls m.runtime m.history c.self.invariant w s c.args.arguments c.in_ok-link.link c.in_ok-link.ensures.worker may hit few c.answer.new.self c.in_ok-outcome.ensures.book counts)

pub returns-clause-accepted : goal.returns-clause-accepted
returns-clause-accepted c =
    let m = c.self.inside in
    let few : length c.self.inside.history < c.self.inside.runtime.book.limits.history =
    omega (arith, below c.is_full.result _ _ c.is_full.ensures.decides c.in_ok-link.ensures.open, ap (λ (y : MachineState). length y.history) c.self.view_is, ap (λ (y : MachineState). y.setting.limits.history) c.self.view_is) in
    let s = c.args.site in
    let w = c.args.worker in
    let a = c.args.arguments in
    let same = c.as_slice-values.ensures.value in
    let may = subst (IsCallable m.runtime.book.definition s) same c.in_ok-link.ensures.callable in
    let hit = subst (λ (b : List Value). IsHitLink m.runtime.book.definition s b c.in_ok-link.link) same c.in_ok-link.ensures.link in
    let counts = subst (λ (b : List Value). CountsHit m.runtime.book.definition w s b m.runtime.ledgers c.answer.new.self.ledgers) same c.in_ok-outcome.ensures.counted in
    let room = subst (runtime.HasRoom m.runtime w s) same c.in_ok-outcome.ensures.room in
    record {
      passes = subst (λ (y : MachineState). Passes (tests y.setting y.history (Call w s a))) c.self.view_is
          (passes_call m.runtime m.history c.self.invariant w s a c.in_ok-link.link c.in_ok-link.ensures.worker may hit few room);
      answers =
          c.in_ok-outcome.ensures.answer
          ∙ (ap (answer_of_call m.runtime.book.definition m.runtime.book.records s) same
          ∙ (ap (λ (g : List Record). answer_of_call m.runtime.book.definition g s a) c.self.invariant.records
          ∙ ap (λ (y : MachineState). answer_of_call y.setting.definition (records y.setting.definition y.history) s a) c.self.view_is));
      taken =
          ap (machine_of c.answer.new.self) c.add_call.ensures.value
          ∙ (view_calls m.runtime m.history c.self.invariant w s a c.in_ok-link.link c.in_ok-link.ensures.worker may hit few c.answer.new.self c.in_ok-outcome.ensures.book counts
          ∙ ap (λ (y : MachineState). extended y (Call w s a)) c.self.view_is);
    }
