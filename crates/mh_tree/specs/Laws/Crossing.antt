-- The types of trees that cross threads.
use denote.Param.Send.{IsSend, IsSync}
use Rattle.mh_tree.specs.contracts.declared.Declared as declared
use Rattle.mh_tree.specs.contracts.handle.Handle as handles

-- handles and declared trees can be sent to another thread and shared between threads
pub record TreesCross : Type 0 where
  pub handle_send : IsSend handles.the_row
  pub handle_sync : IsSync handles.the_row
  pub declared_send : IsSend declared.the_row
  pub declared_sync : IsSync declared.the_row
