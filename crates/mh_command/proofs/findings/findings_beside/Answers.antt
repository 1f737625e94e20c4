use Rattle.std.proofs.lemmas.Bool.{not-false}
use Rattle.serde_json.specs.View.{view}
use Rattle.mh_command.proofs.Found.{found_by_parts, memory_found, unexplained_found}
use Rattle.mh_command.proofs.findings.findings_beside.Goals as goal

pub returns-then-not-asked : goal.returns-then-not-asked
returns-then-not-asked c = record {
  findings = λ bytes json.
      unexplained_found c.args.asked c.args.form bytes (view c.args.value.now) c.args.unread.now.first _ _ c.requires.formed json c.requires.unread c.findings_unexplained.ensures.fault c.findings_unexplained.ensures.alone;
}

pub returns-in-Ok : goal.returns-in-Ok
returns-in-Ok c = record {
  findings = λ bytes json.
      found_by_parts c.args.asked c.args.form bytes (view c.args.value.now) c.refused_for.result _ c.args.unread.now.first _ _ c.requires.formed (not-false _ c.if-not-asked.false) json
      c.refused_for.ensures.value c.requires.unread c.in-Ok.ensures.value c.fault_before.ensures.value c.help_in.ensures.explained;
}

pub returns-in-Err : goal.returns-in-Err
returns-in-Err c = record { findings = λ bytes json. memory_found c.args.asked bytes _ _ c.out_of_memory.ensures.fault c.out_of_memory.ensures.alone }
