use Rattle.std.proofs.Common.{◌∙◌, ap, map, subst, sym}
use Rattle.std.proofs.lemmas.Result.{err_from_is_err_and}
use Rattle.clap.specs.Words.{takes}
use Rattle.mh_command.specs.CommandLine.{SaysNoExplanation}
use Rattle.mh_command.proofs.CommandLines.{are_rows, is_matched, is_refused, is_taken, kind_told}
use Rattle.mh_command.proofs.request.parse.Goals as goal

pub returns-in_err-matches-clause-taken : goal.returns-in_err-matches-clause-taken
returns-in_err-matches-clause-taken g c =
    let words = map g.S.AsStr.text c.args.words.now in
    let p = err_from_is_err_and c.from_residual-in_err-matches.result c.from_residual-in_err-matches.ensures.1 in
    rw (p.1, p.2) (λ asked is. c.in_err-matches.ensures.passes (ap (λ a. takes a words) c.in_ok-command.ensures.app ∙ is_taken asked words is))

pub returns-in_err-matches-clause-kinds : goal.returns-in_err-matches-clause-kinds
returns-in_err-matches-clause-kinds g c = λ kind faulty.
    let words = map g.S.AsStr.text c.args.words.now in
    let p = err_from_is_err_and c.from_residual-in_err-matches.result c.from_residual-in_err-matches.ensures.1 in
    rw (p.1, p.2) (kind_told _ words kind c.in_ok-command.ensures.app faulty c.in_err-matches.field-0.0 c.in_err-matches.ensures.kinds)

pub returns-clause-asked : goal.returns-clause-asked
returns-clause-asked g c = λ asked is.
    let words = map g.S.AsStr.text c.args.words.now in
    c.asked_of.ensures.value asked (is_matched _ words c.in_ok-command.ensures.app _ c.in_ok-matches.ensures.matches asked is)

pub returns-clause-unexplained : goal.returns-clause-unexplained
returns-clause-unexplained g c = λ says.
    let words = map g.S.AsStr.text c.args.words.now in
    c.asked_of.ensures.unexplained (subst SaysNoExplanation (sym (are_rows _ words c.in_ok-command.ensures.app _ c.in_ok-matches.ensures.matches)) says)

pub returns-clause-refused : goal.returns-clause-refused
returns-clause-refused g c = λ kind faulty.
    let words = map g.S.AsStr.text c.args.words.now in
    is_refused _ words kind c.in_ok-command.ensures.app faulty c.in_ok-matches.ensures.kinds
