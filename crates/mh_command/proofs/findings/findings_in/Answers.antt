use Rattle.mh_command.proofs.Found.{memory_found}
use Rattle.mh_command.proofs.findings.findings_in.Goals as goal

pub returns-in-Err : goal.returns-in-Err
returns-in-Err c = record { findings = λ bytes json. memory_found c.args.asked bytes _ _ c.out_of_memory.ensures.fault c.out_of_memory.ensures.alone }
