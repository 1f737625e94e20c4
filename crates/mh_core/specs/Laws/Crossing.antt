-- The types of books and runtimes that cross threads.
use denote.Param.Send.{IsSend}
use Rattle.mh_ledger.specs.contracts.ledger.Ledger as ledgers
use Rattle.mh_core.specs.contracts.book.Book as books
use Rattle.mh_core.specs.contracts.runtime.Runtime as runtimes

-- books, ledgers and runtimes can be sent to another thread
pub record RuntimesCross : Type 0 where
  pub ledger_send : IsSend ledgers.the_row
  pub book_send : IsSend books.the_row
  pub runtime_send : IsSend runtimes.the_row
