use Rattle.std.proofs.Common.{refl}
use Rattle.mh_command.proofs.Ends.{nothing_shown}
use Rattle.mh_command.proofs.answer.show.Goals as goal

pub returns-in_default : goal.returns-in_default
returns-in_default g c = record { shown = nothing_shown _ _ 4 _ refl }

pub returns-then-is_empty : goal.returns-then-is_empty
returns-then-is_empty g c = record { shown = nothing_shown _ _ 4 _ refl }
