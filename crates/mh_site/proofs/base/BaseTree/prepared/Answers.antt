use Rattle.std.proofs.Common.{◌∙◌, subst, sym}
use Rattle.mh_tree.specs.Handle.{IsDeclared}
use Rattle.mh_site.proofs.base.BaseTree.prepared.Goals as goal

pub returns : goal.returns
returns c =
    let limits = c.handle-handle.ensures.limits in
    record {
      value = c.self.invariant ∙ c.self.view_is;
      declared = subst IsDeclared (sym c.self.invariant) record { shallow = limits.0; small = limits.1 };
    }
