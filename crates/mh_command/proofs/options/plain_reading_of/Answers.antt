use Rattle.std.proofs.Common.{codes}
use Rattle.clap.specs.Words.{found_of}
use Rattle.mh_command.proofs.OptionWords.{explain_is_not, plain_is, word_is}
use Rattle.mh_command.proofs.options.plain_reading_of.Goals as goal

pub returns-clause-value : goal.returns-clause-value
returns-clause-value c = λ reading is.
    let explain = word_is (found_of c.args.matches.now) (codes "explain") reading.explain is.explain c.get_flag.result c.get_flag.ensures.value c.get_flag.ensures.other in
    plain_is c.get_flag.result reading explain is.strict

pub returns-clause-unexplained : goal.returns-clause-unexplained
returns-clause-unexplained c = λ is. explain_is_not (found_of c.args.matches.now) is c.get_flag.result c.get_flag.ensures.other
