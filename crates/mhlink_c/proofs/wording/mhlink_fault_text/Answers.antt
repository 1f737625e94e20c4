use Rattle.mhlink_c.specs.Wording.{RefusesWords}
use Rattle.mhlink_c.proofs.FaultWords.{fault_copied}
use Rattle.mhlink_c.proofs.Words.{status_done, status_told}
use Rattle.mhlink_c.proofs.wording.mhlink_fault_text.Goals as goal

pub returns-clause-faults : goal.returns-clause-faults
returns-clause-faults c done =
    fault_copied c.args.status c.args.part c.word.new.count c.word.new.buffer (status_done c.word.result c.status.result c.status.ensures.refused c.word.ensures.told done)

pub returns-clause-refused : goal.returns-clause-refused
returns-clause-refused c some =
    status_told c.word.result c.status.result (RefusesWords c.args.status c.args.part c.word.new.count c.args.buffer.now) c.status.ensures.ok c.status.ensures.status c.word.ensures.refused some
