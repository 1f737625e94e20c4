use Rattle.std.proofs.Common.{◌∙◌, sym, subst}
use Rattle.mh_type.specs.Signature.{Signature}
use Rattle.mh_tree.specs.TreeOf.{tree_of}
use Rattle.mh_tree.specs.Typing.{IsTyped}
use Rattle.mh_tree.specs.Laws.Types.{type_computed}
use Rattle.mh_tree.proofs.node.Node.method_type.Goals as goal

pub returns-clause-is : goal.returns-clause-is
returns-clause-is c =
    let (m, typed) = c.requires.typed in
    subst (λ (s : Signature). IsTyped (tree_of c.args.self.now) s) (sym (c.computed_type.ensures.value ∙ type_computed _ m typed)) typed
