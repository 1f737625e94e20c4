use Rattle.std.proofs.Common.{sym}
use Rattle.mh_live.proofs.roll_call.are_back.Goals as goal

pub returns-then-once : goal.returns-then-once
returns-then-once g c = record { decides = (λ h. record { once = λ w lt. c.has_each_once-once.ensures.decides.0 c.if-once.true w (rw c.workers.ensures.count lt); held = c.are_held.ensures.decides.0 h }, λ h. c.are_held.ensures.decides.1 h.held) }

pub returns-else-once : goal.returns-else-once
returns-else-once g c = record { decides = (λ h. absurd (cc (h, c.if-once.false)), λ h. c.has_each_once-once.ensures.decides.1 (λ w lt. h.once w (rw (sym c.workers.ensures.count) lt))) }
