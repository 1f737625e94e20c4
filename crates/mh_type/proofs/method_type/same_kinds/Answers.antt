use Rattle.std.specs.Bool.{one_answer}
use Rattle.std.proofs.lemmas.Slice.Eq.{slice_eq-Decides}
use Rattle.mh_type.specs.Laws.SameKind.{derived_decides, kinds_eq_decides}
use Rattle.mh_type.proofs.method_type.same_kinds.Goals as goal

pub returns-clause-value : goal.returns-clause-value
returns-clause-value c =
    one_answer _ _ (slice_eq-Decides derived_decides _ _ _ c.eq.ensures) (kinds_eq_decides c.args.some.now c.args.others.now)

pub returns-clause-same : goal.returns-clause-same
returns-clause-same c = slice_eq-Decides derived_decides _ _ _ c.eq.ensures
