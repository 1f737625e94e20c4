use Rattle.std.proofs.Common.{rules, ◌≡◌, subst, take}
use Rattle.mh_tree.specs.Handle.{TypedTree}
use Rattle.mh_tree.specs.Typing.{IsTyped}
use Rattle.mh_pic.specs.Specialised.{specialised}
use Rattle.mh_pic.proofs.Linking.{tested, cached, specialised_declared, link_passed}
use Rattle.mh_pic.proofs.Passing.{memory_alone, settled}
use Rattle.mh_pic.proofs.chains.link.Goals as goal

pub points-requires-clause-first : goal.points-requires-clause-first
points-requires-clause-first c =
    let m = c.args.base.now.signature in
    let e = c.args.entry.now in
    let tree : c.in_ok-target.target.tree ≡ specialised e.needs (take c.args.key_place m.parameters) e.key c.args.base.now.tree = search rules in
    specialised_declared m c.args.key_place e c.args.base.now.tree c.requires.declared _ tree

pub expect_made-requires : goal.expect_made-requires
expect_made-requires c =
    let m = c.args.base.now.signature in
    let e = c.args.entry.now in
    let base = c.args.base.now.tree in
    let test : c.in_ok-test.test ≡ tested m c.args.key_place e base = search rules in
    let target : c.in_ok-target-2.target ≡ cached m c.args.key_place e base = search rules in
    let typed = subst (λ (h : TypedTree). IsTyped h.tree h.signature) c.handle-handle.ensures.value c.method_type.ensures.sound.typed in
    let passes = link_passed m c.args.key_place e base c.requires.declared typed c.requires.inside (search rules) c.requires.key c.requires.few_needs c.args.others.now c.requires.same c.requires.shallow c.requires.small _ _ test target in
    record { passed = memory_alone _ _ _ passes c.guard.ensures.refused }

pub returns : goal.returns
returns c =
    let m = c.args.base.now.signature in
    let e = c.args.entry.now in
    let base = c.args.base.now.tree in
    let test : c.in_ok-test.test ≡ tested m c.args.key_place e base = search rules in
    let target : c.in_ok-target-2.target ≡ cached m c.args.key_place e base = search rules in
    let typed = subst (λ (h : TypedTree). IsTyped h.tree h.signature) c.handle-handle.ensures.value c.method_type.ensures.sound.typed in
    let passes = link_passed m c.args.key_place e base c.requires.declared typed c.requires.inside (search rules) c.requires.key c.requires.few_needs c.args.others.now c.requires.same c.requires.shallow c.requires.small _ _ test target in
    record { value = settled _ _ _ _ passes c.in_ok-cache.ensures.value c.guard.ensures.value }
