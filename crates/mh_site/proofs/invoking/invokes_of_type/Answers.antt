use Rattle.std.proofs.Common.{◌∙◌, ap, sym, subst, Bool}
use Rattle.std.specs.Bool.{Decides}
use Rattle.mh_tree.specs.Invocations.{each_invoke}
use Rattle.mh_site.specs.Invoking.{InvokesOfType, is_of_type}
use Rattle.mh_site.proofs.Rules.{types_decide}
use Rattle.mh_site.proofs.invoking.invokes_of_type.Goals as goal

pub returns-clause-decides : goal.returns-clause-decides
returns-clause-decides c =
    let sites = c.args.sites.now in
    let t = c.args.tree.now.tree in
    subst (λ (b : Bool). Decides b (InvokesOfType sites t)) (sym (c.each_invocation.ensures.value ∙ ap (each_invoke (is_of_type sites)) c.root.ensures.value)) (types_decide sites t)
