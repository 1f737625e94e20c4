use Rattle.mh_profile.proofs.Streaming.{late_fails}
use Rattle.mh_profile.proofs.kept.fault_of_long.Goals as goal

pub returns-in-Err-clause-value : goal.returns-in-Err-clause-value
returns-in-Err-clause-value c = late_fails c.new.result c.args.front.now c.in-Err.fault c.new.ensures.value c.in-Err.ensures.takes
