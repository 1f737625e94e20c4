use Rattle.std.proofs.Common.{refl}
use Rattle.clap.specs.Words.{found_of}
use Rattle.mh_command.proofs.OptionWords.{explain_is, explain_is_not, strict_is}
use Rattle.mh_command.proofs.options.reading_of.Goals as goal

pub returns-clause-value : goal.returns-clause-value
returns-clause-value c = λ reading is.
    let explain = explain_is (found_of c.args.matches.now) reading is c.get_flag.result c.get_flag.ensures.value c.get_flag.ensures.other in
    let strict = strict_is (found_of c.args.matches.now) reading is c.get_flag-2.result c.get_flag-2.ensures.value c.get_flag-2.ensures.other in
    rw (explain, strict) refl

pub returns-clause-unexplained : goal.returns-clause-unexplained
returns-clause-unexplained c = λ is. explain_is_not (found_of c.args.matches.now) is c.get_flag.result c.get_flag.ensures.other
