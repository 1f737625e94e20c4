use Rattle.std.proofs.Common.{arith}
use Rattle.std.proofs.lemmas.Bool.Decides.{nat_tests}
use Rattle.mh_type.specs.Laws.SameKind.{kinds_eq-longer}
use Rattle.mh_type.proofs.method_type.begins_with.Goals as goal

pub returns-else-first-kinds-clause-value : goal.returns-else-first-kinds-clause-value
returns-else-first-kinds-clause-value c = grind (arith, nat_tests, kinds_eq-longer)
