-- Prepared handles can be sent to another thread and shared between threads.
use denote.Param.Send.{IsSend, IsSync}
use Rattle.mh_code.specs.contracts.prepared.Prepared as prepared

pub record CodeCrosses : Type 0 where
  pub prepared_send : IsSend prepared.the_row
  pub prepared_sync : IsSync prepared.the_row
