-- Code over words can be sent to another thread and shared between threads.
use denote.Param.Send.{IsSend, IsSync}
use Rattle.mh_words.specs.contracts.lowered.Lowered as lowered
use Rattle.mh_words.specs.contracts.word_code.WordCode as word_code

pub record WordsCross : Type 0 where
  pub lowered_send : IsSend lowered.the_row
  pub lowered_sync : IsSync lowered.the_row
  pub code_send : IsSend word_code.the_row
  pub code_sync : IsSync word_code.the_row
