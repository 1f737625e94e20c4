use Rattle.std.proofs.Common.{true, false, codes}
use Rattle.clap.specs.Words.{found_of}
use Rattle.mh_command.proofs.OptionWords.{word_is}
use Rattle.mh_command.proofs.request.check_of.Goals as goal

pub returns-then-get_flag-clause-plan : goal.returns-then-get_flag-clause-plan
returns-then-get_flag-clause-plan c = λ is.
    let read = word_is (found_of c.args.matches.now) (codes "profile") false is c.get_flag.result c.get_flag.ensures.value c.get_flag.ensures.other in
    let flag = c.if-get_flag.true in
    cc

pub returns-else-get_flag-clause-profile : goal.returns-else-get_flag-clause-profile
returns-else-get_flag-clause-profile c = λ is.
    let read = word_is (found_of c.args.matches.now) (codes "profile") true is c.get_flag.result c.get_flag.ensures.value c.get_flag.ensures.other in
    let flag = c.if-get_flag.false in
    cc
