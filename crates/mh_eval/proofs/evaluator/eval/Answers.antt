use Rattle.std.proofs.Common.{◌≡◌, ℕ, ◌++◌, [], ◌<◌, ◌≤◌, List, ap, sym, subst, arith, length, append-nil}
use Rattle.std.proofs.lemmas.List.{length-map}
use Rattle.std.proofs.lemmas.List.Elements.{All-get_or}
use Rattle.mh_type.specs.declared.kind.Kind.{Kind}
use Rattle.mh_type.specs.declared.value.Value.{Value}
use Rattle.mh_type.specs.Kinds.{kind_of}
use Rattle.mh_tree.specs.Handle.{TypedTree}
use Rattle.mh_tree.specs.Limits.{point_bound}
use Rattle.mh_tree.specs.Sites.{sites, target_at}
use Rattle.mh_tree.specs.Laws.{few_parameters, lawful_reaches, steps_at}
use Rattle.mh_eval.specs.Entered.{ArePlain, EntersPlain}
use Rattle.mh_eval.specs.Quiet.{NoTexts}
use Rattle.mh_eval.proofs.QuietTrees.{of_kinds, plain_parameters}
use Rattle.mh_eval.proofs.evaluator.eval.Goals as goal

pub run_on_arguments-answer-requires-clause-narrow : goal.run_on_arguments-answer-requires-clause-narrow
run_on_arguments-answer-requires-clause-narrow c =
    let many = ap (λ (ks : List Kind). length ks) c.requires.fits in
    omega (arith, many, length-map c.args.arguments.now kind_of, few_parameters c.args.handle.now.tree c.args.handle.now.signature c.root.ensures.sound.typed)

pub run_on_arguments-answer-requires-clause-can_run : goal.run_on_arguments-answer-requires-clause-can_run
run_on_arguments-answer-requires-clause-can_run c =
    let h = c.args.handle.now in
    let many = ap (λ (ks : List Kind). length ks) c.requires.fits in
    let bounds : (s : ℕ) → s < length c.args.targets.now → point_bound (target_at c.args.targets.now s).tree ≤ length c.args.valid.now =
    λ s inside. All-get_or (λ (q : TypedTree). point_bound q.tree ≤ length c.args.valid.now) c.args.targets.now s _ inside c.requires.points in
    rw (c.root.ensures.value) (record {
      signature = h.signature;
      typed = c.root.ensures.sound.typed;
      wide = omega (arith, many, length-map c.args.arguments.now kind_of);
      known = c.requires.known;
      small = omega (arith, steps_at 4 h.tree c.root.ensures.sound.small);
      invokes = lawful_reaches c.args.levels.now c.args.targets.now (length c.args.valid.now) h.tree c.requires.lawful bounds;
    })

pub returns-clause-few : goal.returns-clause-few
returns-clause-few c =
    let walked = rw (c.root.ensures.value) at c.run_on_arguments-answer.ensures.walked in
    c.outcome_of.ensures.few _ (omega (arith, walked.few, steps_at 4 c.args.handle.now.tree c.root.ensures.sound.small))

pub returns-clause-memory : goal.returns-clause-memory
returns-clause-memory c =
    λ plain.
    let x = sites c.args.valid.now c.args.targets.now in
    let a = c.args.arguments.now in
    let tree = c.args.handle.now.tree in
    let walked = rw (c.root.ensures.value) at c.run_on_arguments-answer.ensures.walked in
    let all : a ≡ a ++ [] = sym (append-nil a) in
    let none = of_kinds a (subst ArePlain (sym c.requires.fits) (plain_parameters x tree c.args.handle.now.signature a c.root.ensures.sound.typed plain)) in
    let empty : length c.stack.inside.values.items ≡ 0 = ap (λ (l : List Value). length l) c.stack.invariant.0 in
    c.outcome_of.ensures.memory
    (walked.quiet [] (subst (EntersPlain x tree) all plain) (subst NoTexts all none) (omega (arith, empty, c.stack.invariant.1, c.root.ensures.sound.shallow)))
