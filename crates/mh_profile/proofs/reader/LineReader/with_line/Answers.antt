use Rattle.std.proofs.Common.{[], ◌∷◌}
use Rattle.std.proofs.lemmas.Result.{err_from_is_err_and}
use Rattle.mh_profile.proofs.Reading.{takes_fails}
use Rattle.mh_profile.proofs.reader.LineReader.with_line.Goals as goal

pub returns-in_err-with_part-clause-takes : goal.returns-in_err-with_part-clause-takes
returns-in_err-with_part-clause-takes c =
    let p = err_from_is_err_and c.from_residual.result c.from_residual.ensures.1 in
    rw (p.1, p.2) (takes_fails c.args.self c.args.part.now (10 ∷ []) c.in_err-with_part.field-0.0 c.in_err-with_part.ensures.takes)
