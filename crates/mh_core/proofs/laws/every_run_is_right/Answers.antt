use Rattle.mh_core.proofs.Headlines.{headline_behind}
use Rattle.mh_core.proofs.laws.every_run_is_right.Goals as goal

pub returns : goal.returns
returns c =
    let m = c.args.machine.now in
    let same = c.book.ensures in
    record {
      headline = λ events replies h run.
          headline_behind m.setting c.book.result.now m.history events replies h c.kept.ensures.book same.definition same.limits same.records run;
    }
