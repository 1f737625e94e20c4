use Rattle.mh_text.proofs.Scripts.{of_run, run_least}
use Rattle.mh_text.proofs.laws.every_script_is_right.Goals as goal

pub returns : goal.returns
returns c =
    let m = c.args.machine.now in
    record {
      headline = λ steps replies h run.
          let at = of_run m.setting m.history steps replies h run in
          record { events = at.events; asked = at.asked; headline = c.every_run_is_right.ensures.headline at.events _ h at.run; least = run_least m.setting m.history steps replies h run };
    }
