use Rattle.std.proofs.Common.{rules, ◌≡◌, subst, sym}
use Rattle.std.specs.Arc.{arc_value}
use Rattle.mh_tree.specs.Handle.{IsSound}
use Rattle.mh_tree.specs.TreeOf.{tree_of}
use Rattle.mh_pic.specs.Specialised.{retired}
use Rattle.mh_pic.proofs.RetiredTrees.{retired_sound}
use Rattle.mh_pic.proofs.retiring.retire_changed.Goals as goal

pub rebuild-requires : goal.rebuild-requires
rebuild-requires c =
    let m = c.args.handle.now.signature in
    let made : tree_of (arc_value c.in-Some.root) ≡ retired c.args.points.now c.args.handle.now.tree = search rules in
    record { sound = subst (λ t. IsSound t m) (sym made) (retired_sound c.args.points.now c.args.handle.now.tree m c.root.ensures.sound) }
