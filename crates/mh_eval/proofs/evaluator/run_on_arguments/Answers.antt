use Rattle.std.proofs.Common.{arith}
use Rattle.mh_tree.specs.TreeOf.{tree_of}
use Rattle.mh_eval.proofs.Extending.{front_texts}
use Rattle.mh_eval.proofs.Walks.{refused, some_level, within}
use Rattle.mh_eval.proofs.evaluator.run_on_arguments.Goals as goal
use Rattle.mh_tree.specs.Sites.{setting}

pub returns-in_default-clause-walked : goal.returns-in_default-clause-walked
returns-in_default-clause-walked c =
    let a = c.args.arguments.now in
    let t = tree_of c.args.node.now in
    let h = refused (setting c.args.level c.args.here.now.valid.now c.args.here.now.targets.now) t a a c.args.stack.now.items _ _ _ c.in_default.field-0 c.in_default.ensures.extends (omega (arith, c.requires.narrow, some_level t)) (λ e plain none. front_texts a e none) in
    within _ _ _ _ _ _ _ _ _ h (omega arith) (omega arith)
