use Rattle.std.proofs.Common.{◌≡◌, ◌≤◌, ◌∙◌, length, ap, arith, sym}
use Rattle.std.proofs.lemmas.List.{length-reverse}
use Rattle.mh_core.specs.Histories.{records}
use Rattle.mh_core.specs.Legal.{MachineState}
use Rattle.mh_core.proofs.Machines.{few_records}
use Rattle.mh_core.proofs.machine.Machine.calls.Goals.{After-records}
use Rattle.mh_core.proofs.machine.Machine.calls.Goals as goal

-- how many records there are, of no more events
counts : (c : After-records) → (length c.records.result.now ≡ length (records c.args.self.now.setting.definition c.args.self.now.history))
    × ((length c.records.result.now ≤ c.len.result) × (c.len.result ≡ length c.args.self.now.history))
counts c =
    let x = c.args.self.now in
    let many : length c.records.result.now ≡ length (records x.setting.definition x.history) =
    sym (length-reverse c.records.result.now) ∙ (ap length c.records.ensures.value ∙ ap length c.book.ensures.records) in
    let events : c.len.result ≡ length x.history = c.len.ensures.value ∙ ap (λ (y : MachineState). length y.history) c.self.view_is in
    (many, (omega (arith, many, events, few_records x.setting.definition x.history), events))

pub overflow_sub-result : goal.overflow_sub-result
overflow_sub-result c = (counts c).1.0

pub returns : goal.returns
returns c = let both = counts c in record { count = omega (arith, both.0, both.1.0, both.1.1) }
