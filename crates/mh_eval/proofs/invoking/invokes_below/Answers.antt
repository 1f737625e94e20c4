use Rattle.std.proofs.Common.{sym, ◌∙◌}
use Rattle.mh_tree.specs.TreeOf.{tree_of}
use Rattle.mh_eval.proofs.LawfulTrees.{below_decides}
use Rattle.mh_eval.proofs.invoking.invokes_below.Goals as goal

pub returns : goal.returns
returns c =
    let d = below_decides c.args.levels.now c.args.targets.now c.args.level (tree_of c.args.node.now) in
    record { decides = (λ h. d.0 (sym c.each_invocation.ensures.value ∙ h), λ e. c.each_invocation.ensures.value ∙ d.1 e) }
