-- Trees whose code negates a local: the operation `not`, after filters that are all absent.
use Rattle.std.specs.Prelude.{Bool, true, false}
use Rattle.mh_tree.specs.Tree.{Tree, Filters, operation, no_more, absent, present}
use Rattle.mh_code.specs.RoutineOf.{is_not}

abbrev pub is_not_tree : Tree → Bool
is_not_tree (operation op) = is_not op
is_not_tree t = false

abbrev pub are_absent : Filters → Bool
are_absent no_more = true
are_absent (absent fs) = are_absent fs
are_absent (present f fs) = false
