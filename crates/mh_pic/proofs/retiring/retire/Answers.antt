use Rattle.std.proofs.Common.{rules, ◌≡◌, subst, sym}
use Rattle.mh_tree.specs.Handle.{IsDeclared}
use Rattle.mh_pic.specs.Specialised.{retired_tree}
use Rattle.mh_pic.proofs.RetiredTrees.{retired_declared}
use Rattle.mh_pic.proofs.retiring.retire.Goals as goal

pub declare-requires : goal.declare-requires
declare-requires c =
    let made : c.in-Some.made ≡ retired_tree c.args.points.now c.args.tree.now = search rules in
    record {
      declared = subst IsDeclared (sym made)
          (retired_declared c.args.points.now c.args.tree.now (record { shallow = c.handle.ensures.limits.0; small = c.handle.ensures.limits.1 }));
    }
