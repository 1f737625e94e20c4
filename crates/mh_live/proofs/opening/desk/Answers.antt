use Rattle.std.proofs.Common.{◌≡◌, ◌∙◌, [], ap, subst, sym}
use Rattle.std.proofs.lemmas.Result.{IfOk-weaker}
use Rattle.mh_live.specs.Rules.{Stands}
use Rattle.mh_live.specs.declared.published.Published.{Published}
use Rattle.mh_live.proofs.Opened.{first_stands}
use Rattle.mh_live.proofs.Ruling.{starts}
use Rattle.mh_live.proofs.opening.desk.Goals as goal

pub new-requires-clause-rule : goal.new-requires-clause-rule
new-requires-clause-rule g c =
    let first : Published = record { world = c.args.first; past = c.again.result } in
    let same = c.again.ensures in
    let past = c.past-past.ensures.value in
    starts g.N.ListName.book g.N.ListName.definition first
    (first_stands g.N.ListName.book g.N.ListName.definition first c.requires.lawful (ap (λ s. s.book) same ∙ past.1) (ap (λ s. s.names) same ∙ past.2) (ap (λ s. s.log) same ∙ (past.0 ∙ c.requires.front)) c.requires.worlds.0)

pub returns : goal.returns
returns g c =
    let first : Published = record { world = c.args.first; past = c.again.result } in
    let same = c.again.ensures in
    let past = c.past-past.ensures.value in
    let log : first.past.log ≡ [] = ap (λ s. s.log) same ∙ (past.0 ∙ c.requires.front) in
    let stands = first_stands g.N.ListName.book g.N.ListName.definition first c.requires.lawful (ap (λ s. s.book) same ∙ past.1) (ap (λ s. s.names) same ∙ past.2) log c.requires.worlds.0 in
    record {
      writer = IfOk-weaker c.new.result _ _ (λ w h. (subst (Stands g.N.ListName.book g.N.ListName.definition) (sym h.0) stands, ap (λ (x : Published). x.past.log) h.0 ∙ log, h.1)) c.new.ensures;
    }
