use Rattle.std.proofs.Common.{◌∙◌, ap, sym, subst, Bool}
use Rattle.std.specs.Bool.{Decides}
use Rattle.mh_tree.specs.Invocations.{each_invoke}
use Rattle.mh_site.specs.Invoking.{InvokesLower, is_lower}
use Rattle.mh_site.proofs.Rules.{levels_decide}
use Rattle.mh_site.proofs.invoking.invokes_lower.Goals as goal

pub returns-clause-decides : goal.returns-clause-decides
returns-clause-decides c =
    let sites = c.args.sites.now in
    let l = c.args.level in
    let t = c.args.tree.now.tree in
    subst (λ (b : Bool). Decides b (InvokesLower sites l t)) (sym (c.each_invocation.ensures.value ∙ ap (each_invoke (λ s n. is_lower sites l s)) c.root.ensures.value)) (levels_decide sites l t)
