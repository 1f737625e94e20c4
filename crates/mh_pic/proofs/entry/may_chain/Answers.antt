use Rattle.std.proofs.Common.{rules, ◌≡◌, ◌≤◌, ◌∙◌, arith, length, refl, subst}
use Rattle.std.proofs.lemmas.List.{take_all}
use Rattle.std.proofs.lemmas.List.Elements.{All-more}
use Rattle.mh_type.specs.Kinds.{kind_of}
use Rattle.mh_tree.specs.Typing.{kind_at}
use Rattle.mh_pic.specs.Chains.{PlainEntry, HaveKind, HaveFewNeeds}
use Rattle.mh_pic.specs.Laws.Chains.{kind_there}
use Rattle.mh_pic.proofs.entry.may_chain.Goals as goal

pub loop-entry-preserved : goal.loop-entry-preserved
loop-entry-preserved c =
    let HasKind : PlainEntry → Type 0 = λ e. kind_of e.key ≡ kind_at c.args.base.now.parameters c.args.key_place in
    let HasFew : PlainEntry → Type 0 = λ e. length e.needs ≤ 8 in
    let i = c.loop-entry.entry-index in
    let x = c.entry-item.result in
    let same : kind_of x.key ≡ c.parameter-kind.result = search rules in
    let kind = same ∙ kind_there c.args.base.now.parameters c.args.key_place c.parameter-kind.result (search rules) c.parameter-kind.ensures.value in
    let few : length x.needs ≤ 8 = search rules in
    record {
      keys = All-more HasKind c.args.entries.now i x (omega (arith, c.loop-entry-test.true)) c.loop-entry.invariant.keys (subst HasKind c.entry-item.is kind);
      few_needs = All-more HasFew c.args.entries.now i x (omega (arith, c.loop-entry-test.true)) c.loop-entry.invariant.few_needs (subst HasFew c.entry-item.is few);
    }

pub returns : goal.returns
returns c =
    let whole = take_all c.loop-entry.entry-index c.args.entries.now (omega (arith, c.loop-entry-test.false)) in
    let k = kind_at c.args.base.now.parameters c.args.key_place in
    record {
      same = (
        λ _. record {
          inside = search rules;
          few = search rules;
          keys = subst (HaveKind k) whole c.loop-entry.invariant.keys;
          few_needs = subst HaveFewNeeds whole c.loop-entry.invariant.few_needs;
        },
        λ _. refl,
      );
    }
