use Rattle.std.proofs.Common.{rules, ◌≡◌, ◌≤◌, ap, suc, subst, arith, ◌∷◌, List, length, take}
use Rattle.mh_tree.specs.Handle.{TypedTree}
use Rattle.mh_tree.specs.Limits.{depth, size}
use Rattle.mh_pic.specs.Chains.{PlainEntry, HaveFewNeeds}
use Rattle.mh_pic.specs.Laws.Bounds.{chain_depth, chain_size}
use Rattle.mh_pic.proofs.chains.+link_all.Goals as goal

pub link-requires-clause-shallow : goal.link-requires-clause-shallow
link-requires-clause-shallow t c =
    let whole : c.args.entries.now ≡ c.in-Some.entry.now ∷ c.in-Some.rest.now = search rules in
    let few : length c.in-Some.rest.now ≤ 4 = omega (arith, ap (λ (es : List PlainEntry). length es) whole, c.requires.may.few) in
    let needs : HaveFewNeeds c.in-Some.rest.now = λ k d below. subst HaveFewNeeds whole c.requires.may.few_needs (suc k) d (omega (arith, below)) in
    omega (
      arith,
      ap (λ (h : TypedTree). depth h.tree) c.in_ok-others.ensures.value,
      chain_depth (take c.args.key_place c.args.base.now.signature.parameters) c.args.base.now.tree c.in-Some.rest.now needs few c.requires.declared.shallow,
    )

pub link-requires-clause-small : goal.link-requires-clause-small
link-requires-clause-small t c =
    let whole : c.args.entries.now ≡ c.in-Some.entry.now ∷ c.in-Some.rest.now = search rules in
    let few : length c.in-Some.rest.now ≤ 4 = omega (arith, ap (λ (es : List PlainEntry). length es) whole, c.requires.may.few) in
    let needs : HaveFewNeeds c.in-Some.rest.now = λ k d below. subst HaveFewNeeds whole c.requires.may.few_needs (suc k) d (omega (arith, below)) in
    omega (
      arith,
      ap (λ (h : TypedTree). size h.tree) c.in_ok-others.ensures.value,
      chain_size (take c.args.key_place c.args.base.now.signature.parameters) c.args.base.now.tree c.in-Some.rest.now needs few c.requires.declared.small,
    )
