use Rattle.std.proofs.Common.{◌≡◌, ◌∙◌, arith, sym, inl, inr}
use Rattle.mh_network.specs.inner.Labels.{label_of, LeadsDown}
use Rattle.mh_network.proofs.Labelling.{joined_labels}
use Rattle.mh_network.proofs.labels.join.Goals as goal

pub returns-then-one-other-clause-value : goal.returns-then-one-other-clause-value
returns-then-one-other-clause-value c = λ labels leads.
    let first : LeadsDown c.find-one.new.table labels = c.find-one.ensures.kept labels leads in
    let second : LeadsDown c.find-other.new.table labels = c.find-other.ensures.kept labels first in
    let at_one : label_of labels c.find-one.result ≡ c.find-one.result = first.root c.find-one.result c.find-one.ensures.inside c.find-one.ensures.root in
    let at_other : label_of labels c.find-other.result ≡ c.find-other.result = second.root c.find-other.result c.find-other.ensures.inside c.find-other.ensures.root in
    inr (joined_labels _ labels c.args.other c.args.one c.find-other.result c.find-one.result second c.find-other.ensures.inside (omega (arith, c.if-one-other.true))
    (sym (c.find-other.ensures.value labels first) ∙ at_other) (sym (c.find-one.ensures.value labels leads) ∙ at_one) at_other at_one)

pub returns-else-one-other-clause-value : goal.returns-else-one-other-clause-value
returns-else-one-other-clause-value c = λ labels leads.
    let first : LeadsDown c.find-one.new.table labels = c.find-one.ensures.kept labels leads in
    let second : LeadsDown c.find-other.new.table labels = c.find-other.ensures.kept labels first in
    let at_one : label_of labels c.find-one.result ≡ c.find-one.result = first.root c.find-one.result c.find-one.ensures.inside c.find-one.ensures.root in
    let at_other : label_of labels c.find-other.result ≡ c.find-other.result = second.root c.find-other.result c.find-other.ensures.inside c.find-other.ensures.root in
    inl (joined_labels _ labels c.args.one c.args.other c.find-one.result c.find-other.result second (omega (arith, c.find-one.ensures.inside, c.find-other.ensures.count)) c.if-one-other.false
    (sym (c.find-one.ensures.value labels leads) ∙ at_one) (sym (c.find-other.ensures.value labels first) ∙ at_other) at_one at_other)
