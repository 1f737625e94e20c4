-- A stack can be sent to another thread.
use denote.Param.Send.{IsSend}
use Rattle.mh_run.specs.contracts.stack.Stack as stack

pub record StacksCross : Type 0 where
  pub stack_send : IsSend stack.the_row
