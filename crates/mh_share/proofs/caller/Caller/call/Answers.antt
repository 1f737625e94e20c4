use Rattle.std.proofs.Common.{◌∙◌, ap, subst, sym}
use Rattle.std.proofs.lemmas.Bool.{false≢true}
use Rattle.mh_eval.specs.Entered.{EntersPlain}
use Rattle.mh_tree.specs.Meaning.{mean, steps}
use Rattle.mh_site.specs.Defined.{DefinitionData}
use Rattle.mh_site.specs.Worlds.{WorldState, environment_of_bases, environment_of_links, linked_sites, state_at}
use Rattle.mh_core.specs.Books.{BookState}
use Rattle.mh_core.specs.Callers.{IsCallable}
use Rattle.mh_core.specs.Legal.{answer_of_call}
use Rattle.mh_core.specs.Runtimes.{TakesNoMemory}
use Rattle.mh_core.specs.Standing.{IsWorldOf}
use Rattle.mh_core.proofs.Calls.{answered, plain, world_of}
use Rattle.mh_share.specs.Callers.{CallerState}
use Rattle.mh_share.proofs.caller.Caller.call.Goals as goal

pub evaluate-requires : goal.evaluate-requires
evaluate-requires c =
    let b = c.deref-2.result.now in
    let same = c.definition.ensures.value ∙ ap (λ (x : BookState). x.definition) (c.deref.ensures ∙ sym c.deref-2.ensures) in
    let may = subst (λ (d : DefinitionData). IsCallable d c.args.site c.args.arguments.now) same c.in_ok-link.ensures.callable in
    record { callable = (b.definition, (subst (IsWorldOf b.definition) (sym c.world.ensures.value) (world_of b c.world.ensures.book), may)) }

pub returns-in_default-clause-memory : goal.returns-in_default-clause-memory
returns-in_default-clause-memory c = λ own _.
    let b = c.deref-2.result.now in
    let s = c.args.site in
    let a = c.args.arguments.now in
    let same = c.definition.ensures.value ∙ ap (λ (x : BookState). x.definition) (c.deref.ensures ∙ sym c.deref-2.ensures) in
    let may = subst (λ (d : DefinitionData). IsCallable d s a) same c.in_ok-link.ensures.callable in
    let shown = c.deref-2.ensures ∙ ap (λ (x : CallerState). x.shown) c.self.view_is in
    let here = plain b c.world.ensures.book s may.inside a (subst (λ (x : BookState). TakesNoMemory x s a) (sym shown) own) in
    false≢true (c.in_default.ensures.memory (subst (λ (w : WorldState). EntersPlain (linked_sites w) (state_at w s).linked.tree a) (sym c.world.ensures.value) here))

pub returns-clause-answer : goal.returns-clause-answer
returns-clause-answer c =
    let b = c.deref-2.result.now in
    let s = c.args.site in
    let a = c.args.arguments.now in
    let same = c.definition.ensures.value ∙ ap (λ (x : BookState). x.definition) (c.deref.ensures ∙ sym c.deref-2.ensures) in
    let may = subst (λ (d : DefinitionData). IsCallable d s a) same c.in_ok-link.ensures.callable in
    let shown = c.deref-2.ensures ∙ ap (λ (x : CallerState). x.shown) c.self.view_is in
    answered b c.world.ensures.book s may.inside a _ _
    (c.in-Ok.ensures.outcome ∙ ap (λ (w : WorldState). mean (environment_of_bases w) (state_at w s).base.tree a) c.world.ensures.value)
    (c.in-Ok.ensures.steps ∙ ap (λ (w : WorldState). steps (environment_of_links w) (state_at w s).linked.tree a) c.world.ensures.value)
    ∙ ap (λ (x : BookState). answer_of_call x.definition x.records s a) shown
