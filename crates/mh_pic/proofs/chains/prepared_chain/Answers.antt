use Rattle.std.proofs.Common.{rules, ◌≡◌, ap, sym, subst, ◌∙◌, take}
use Rattle.mh_tree.specs.Handle.{TypedTree}
use Rattle.mh_tree.specs.Typing.{IsTyped}
use Rattle.mh_pic.specs.Chains.{chain, IsFaithful}
use Rattle.mh_pic.specs.Laws.Chains.{chain_faithful}
use Rattle.mh_pic.proofs.chains.prepared_chain.Goals as goal

pub returns-clause-faithful : goal.returns-clause-faithful
returns-clause-faithful c =
    let m = c.args.base.now.signature in
    let base = c.args.base.now.tree in
    let tree : c.in_ok-cache.cache.tree ≡ chain (take c.args.key_place m.parameters) base c.args.entries.now =
    ap (λ (h : TypedTree). h.tree) c.in_ok-cache.ensures.value in
    let typed : IsTyped base m = search rules in
    subst (λ t. IsFaithful t base m) (sym tree) (chain_faithful m c.args.key_place c.requires.may.inside (search rules) base typed c.args.entries.now c.requires.may.keys)
