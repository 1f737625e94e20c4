use Rattle.std.proofs.Common.{◌≡◌, ◌∙◌, ap, inl, inr, refl, subst, map, []}
use Rattle.std.proofs.KnownBytes.{Keeps-refl}
use Rattle.clap.specs.declared.error.kind.ErrorKind.TheVariants.{DisplayHelp, DisplayVersion}
use Rattle.mh_text.specs.Bytes.{HasFailed}
use Rattle.mh_json.specs.Gives.{outside, no_memory}
use Rattle.mh_command.specs.Answers.{Answers, IsStopped}
use Rattle.mh_command.specs.Statuses.{status_answered}
use Rattle.mh_command.specs.CommandLine.{IsReply}
use Rattle.mh_command.proofs.CommandLines.{asks_help, asks_version}
use Rattle.mh_command.proofs.Ends.{four_is_no_two, four_is_no_zero, four_is_not_below_two, nothing_done, nothing_shown, nothing_told}
use Rattle.mh_command.proofs.command_line.command.Goals as goal

pub returns-in-Ok-Some-clause-answers : goal.returns-in-Ok-Some-clause-answers
returns-in-Ok-Some-clause-answers g c = λ asked is small.
    let found = c.in-Ok-Some.ensures.asked asked is in
    let same : c.in-Ok-Some.asked ≡ asked = cc in
    subst (λ a. Answers a (g.R.Read.remaining c.args.reader.now.inner) c.perform.result (g.W.Write.contents c.args.out.now.inner) (g.W.Write.contents c.perform.new.out.inner)
    (g.E.Write.contents c.args.err.now.inner) (g.E.Write.contents c.perform.new.err.inner)) same (c.perform.ensures.answers small)

pub returns-in-Ok-Some-clause-stopped : goal.returns-in-Ok-Some-clause-stopped
returns-in-Ok-Some-clause-stopped g c = λ asked is large.
    let found = c.in-Ok-Some.ensures.asked asked is in
    let same : c.in-Ok-Some.asked ≡ asked = cc in
    subst (λ a. IsStopped a (g.R.Read.remaining c.args.reader.now.inner) (g.W.Write.contents c.args.out.now.inner) (g.W.Write.contents c.perform.new.out.inner)
    (HasFailed c.args.reader.now.failures c.perform.new.reader.failures) (HasFailed c.args.out.now.failures c.perform.new.out.failures)
    (g.E.Write.contents c.args.err.now.inner) (g.E.Write.contents c.perform.new.err.inner) c.args.err.now.failures c.perform.new.err.failures c.perform.result)
    same (c.perform.ensures.stopped large)

pub returns-in-Ok-None-clause-asked : goal.returns-in-Ok-None-clause-asked
returns-in-Ok-None-clause-asked g c = λ asked is two. let found = c.in-Ok-None.ensures.asked asked is in cc

pub returns-in-Ok-None-clause-stopped : goal.returns-in-Ok-None-clause-stopped
returns-in-Ok-None-clause-stopped g c = λ asked is large. absurd (returns-in-Ok-None-clause-asked g c asked is refl)

pub returns-in-Err-clause-asked : goal.returns-in-Err-clause-asked
returns-in-Err-clause-asked g c = λ asked is two. four_is_no_two (c.reply.ensures.memory (c.in-Err.ensures.taken asked is)).0 two

pub returns-in-Err-clause-answers : goal.returns-in-Err-clause-answers
returns-in-Err-clause-answers g c = λ asked is small. absurd (four_is_not_below_two (c.reply.ensures.memory (c.in-Err.ensures.taken asked is)).0 small)

pub returns-in-Ok-Some-clause-help : goal.returns-in-Ok-Some-clause-help
returns-in-Ok-Some-clause-help g c = λ is. absurd (c.in-Ok-Some.ensures.refused DisplayHelp (asks_help (map g.S.AsStr.text c.args.words.now) is))

pub returns-in-Ok-Some-clause-version : goal.returns-in-Ok-Some-clause-version
returns-in-Ok-Some-clause-version g c = λ is. absurd (c.in-Ok-Some.ensures.refused DisplayVersion (asks_version (map g.S.AsStr.text c.args.words.now) is))

pub returns-in-Ok-None-clause-help : goal.returns-in-Ok-None-clause-help
returns-in-Ok-None-clause-help g c = λ is. absurd (c.in-Ok-None.ensures.refused DisplayHelp (asks_help (map g.S.AsStr.text c.args.words.now) is))

pub returns-in-Ok-None-clause-version : goal.returns-in-Ok-None-clause-version
returns-in-Ok-None-clause-version g c = λ is. absurd (c.in-Ok-None.ensures.refused DisplayVersion (asks_version (map g.S.AsStr.text c.args.words.now) is))

pub returns-in-Err-clause-stopped : goal.returns-in-Err-clause-stopped
returns-in-Err-clause-stopped g c = λ asked is large.
    let memory = c.reply.ensures.memory (c.in-Err.ensures.taken asked is) in
    let told = nothing_told asked (g.R.Read.remaining c.args.reader.now.inner) (outside no_memory) in
    rw (memory.1, memory.2) (inl (outside no_memory, [], inl (nothing_done asked _ _ _ _, refl), ([], told, inr (inr (memory.0, (Keeps-refl _, refl))))))

pub returns-in-Err-clause-replied : goal.returns-in-Err-clause-replied
returns-in-Err-clause-replied g c = λ kind faulty. (
  elim (c.in-Err.ensures.kinds kind faulty) [
    | inl memory ↦ let four = c.reply.ensures.memory memory in inr (inr four.0)
    | inr same ↦ subst (IsReply c.reply.result) same c.reply.ensures.value
  ],
  refl,
)

pub returns-in-Ok-Some-clause-told : goal.returns-in-Ok-Some-clause-told
returns-in-Ok-Some-clause-told g c = λ kind faulty two. absurd (c.in-Ok-Some.ensures.refused kind faulty)

pub returns-in-Ok-None-clause-told : goal.returns-in-Ok-None-clause-told
returns-in-Ok-None-clause-told g c = λ kind faulty two. absurd (c.in-Ok-None.ensures.refused kind faulty)

pub returns-in-Err-clause-told : goal.returns-in-Err-clause-told
returns-in-Err-clause-told g c = λ kind faulty two.
    elim (c.in-Err.ensures.kinds kind faulty) [
      | inl memory ↦ let idle = c.reply.ensures.memory memory in (rw idle.2 (nothing_shown _ _ c.reply.result 2 idle.0), idle.1)
      | inr same ↦ (c.reply.ensures.told (ap status_answered same ∙ two), c.reply.ensures.output (ap status_answered same ∙ two))
    ]

pub returns-in-Ok-Some-clause-shown : goal.returns-in-Ok-Some-clause-shown
returns-in-Ok-Some-clause-shown g c = λ kind faulty zero. absurd (c.in-Ok-Some.ensures.refused kind faulty)

pub returns-in-Ok-None-clause-shown : goal.returns-in-Ok-None-clause-shown
returns-in-Ok-None-clause-shown g c = λ kind faulty zero. absurd (c.in-Ok-None.ensures.refused kind faulty)

pub returns-in-Err-clause-shown : goal.returns-in-Err-clause-shown
returns-in-Err-clause-shown g c = λ kind faulty zero.
    elim (c.in-Err.ensures.kinds kind faulty) [
      | inl memory ↦ let idle = c.reply.ensures.memory memory in (rw idle.1 (nothing_shown _ _ c.reply.result 0 idle.0), idle.2)
      | inr same ↦ (c.reply.ensures.shown (ap status_answered same ∙ zero), c.reply.ensures.errors (ap status_answered same ∙ zero))
    ]

pub returns-in-Err-clause-help : goal.returns-in-Err-clause-help
returns-in-Err-clause-help g c = λ is.
    let given = returns-in-Err-clause-shown g c DisplayHelp (asks_help (map g.S.AsStr.text c.args.words.now) is) refl in
    (given.0, given.1, refl)

pub returns-in-Err-clause-version : goal.returns-in-Err-clause-version
returns-in-Err-clause-version g c = λ is.
    let given = returns-in-Err-clause-shown g c DisplayVersion (asks_version (map g.S.AsStr.text c.args.words.now) is) refl in
    (given.0, given.1, refl)

pub returns-in-Ok-Some-clause-end : goal.returns-in-Ok-Some-clause-end
returns-in-Ok-Some-clause-end g c = λ asked is zero. c.perform.ensures.end zero

pub returns-in-Err-clause-end : goal.returns-in-Err-clause-end
returns-in-Err-clause-end g c = λ asked is zero. absurd (four_is_no_zero (c.reply.ensures.memory (c.in-Err.ensures.taken asked is)).0 zero)
