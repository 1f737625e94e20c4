-- The use of the value of a part, as plain data.
use Rattle.std.specs.Arc.{arc_value}
use Rattle.mh_code.specs.PieceOf.{routine_of}
use Rattle.mh_code.specs.Routine.{Purpose, answer, local, truth, untruth}
use Rattle.mh_code.specs.declared.purpose.Purpose.{Purpose as PurposeData}
use Rattle.mh_code.specs.declared.purpose.Purpose.TheVariants.{Answer, Local, Truth, Untruth}

abbrev pub purpose_of : PurposeData → Purpose
purpose_of Answer = answer
purpose_of (Local place then) = local place (routine_of (arc_value then.now))
purpose_of (Truth target fallback) = truth (routine_of (arc_value target.now)) (routine_of (arc_value fallback.now))
purpose_of (Untruth target fallback) = untruth (routine_of (arc_value target.now)) (routine_of (arc_value fallback.now))
