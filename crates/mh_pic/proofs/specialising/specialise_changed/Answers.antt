use Rattle.std.proofs.Common.{rules, ◌≡◌, ◌∙◌, ap, sym, subst, take}
use Rattle.std.specs.Arc.{arc_value}
use Rattle.mh_tree.specs.Handle.{TypedTree, IsSound}
use Rattle.mh_tree.specs.TreeOf.{tree_of}
use Rattle.mh_pic.specs.Specialised.{specialised, Serves}
use Rattle.mh_pic.proofs.Serving.{specialised_sound, specialised_serves}
use Rattle.mh_pic.proofs.specialising.specialise_changed.Goals as goal

pub rebuild-requires : goal.rebuild-requires
rebuild-requires c =
    let m = c.args.handle.now.signature in
    let made : tree_of (arc_value c.in-Some.root) ≡ specialised c.args.needs.now (take c.args.key_place m.parameters) c.args.key.now c.args.handle.now.tree = search rules in
    record { sound = subst (λ t. IsSound t m) (sym made) (specialised_sound c.args.needs.now (take c.args.key_place m.parameters) c.args.key.now c.args.handle.now.tree m c.method_type.ensures.sound) }

pub returns-in_ok-rebuild-in-Some-clause-serves : goal.returns-in_ok-rebuild-in-Some-clause-serves
returns-in_ok-rebuild-in-Some-clause-serves c =
    let m = c.args.handle.now.signature in
    let made : tree_of (arc_value c.in-Some.root) ≡ specialised c.args.needs.now (take c.args.key_place m.parameters) c.args.key.now c.args.handle.now.tree = search rules in
    let tree = ap (λ (h : TypedTree). h.tree) c.in_ok-rebuild-in-Some.ensures.value ∙ made in
    subst (λ t. Serves c.args.needs.now c.args.key_place c.args.key.now t c.args.handle.now.tree m) (sym tree) (specialised_serves c.args.needs.now c.args.key_place c.args.key.now c.args.handle.now.tree m c.requires.inside c.method_type.ensures.sound.typed)

pub returns-in-None-clause-serves : goal.returns-in-None-clause-serves
returns-in-None-clause-serves c =
    let m = c.args.handle.now.signature in
    let made : c.args.handle.now.tree ≡ specialised c.args.needs.now (take c.args.key_place m.parameters) c.args.key.now c.args.handle.now.tree = search rules in
    subst (λ t. Serves c.args.needs.now c.args.key_place c.args.key.now t c.args.handle.now.tree m) (sym made) (specialised_serves c.args.needs.now c.args.key_place c.args.key.now c.args.handle.now.tree m c.requires.inside c.method_type.ensures.sound.typed)
