use Rattle.std.proofs.Common.{◌∙◌, ap, subst, sym}
use Rattle.std.proofs.lemmas.Bool.{false≢true}
use Rattle.mh_eval.specs.Entered.{EntersPlain}
use Rattle.mh_tree.specs.Meaning.{mean, steps}
use Rattle.mh_site.specs.Worlds.{WorldState, environment_of_bases, environment_of_links, linked_sites, state_at}
use Rattle.mh_core.specs.Callers.{IsCallable}
use Rattle.mh_core.specs.Legal.{answer_of_call}
use Rattle.mh_core.specs.Runtimes.{RuntimeState, TakesNoMemory}
use Rattle.mh_core.specs.Standing.{IsWorldOf}
use Rattle.mh_core.proofs.Calls.{answered, plain, world_of}
use Rattle.mh_core.proofs.runtime.Runtime.answer.Goals as goal

pub evaluate-requires : goal.evaluate-requires
evaluate-requires c =
    let b = c.self.inside.book in
    let may = subst (λ (x : RuntimeState). IsCallable x.book.definition c.args.site c.args.arguments.now) (sym c.self.view_is) c.requires.callable in
    record { callable = (b.definition, (subst (IsWorldOf b.definition) (sym c.world.ensures.value) (world_of b c.world.ensures.book), may)) }

pub returns-in_default-clause-memory : goal.returns-in_default-clause-memory
returns-in_default-clause-memory c = λ own _.
    let b = c.self.inside.book in
    let s = c.args.site in
    let a = c.args.arguments.now in
    let may = subst (λ (x : RuntimeState). IsCallable x.book.definition s a) (sym c.self.view_is) c.requires.callable in
    let here = plain b c.world.ensures.book s may.inside a (subst (λ (x : RuntimeState). TakesNoMemory x.book s a) (sym c.self.view_is) own) in
    false≢true (c.in_default.ensures.memory (subst (λ (w : WorldState). EntersPlain (linked_sites w) (state_at w s).linked.tree a) (sym c.world.ensures.value) here))

pub returns-clause-answer : goal.returns-clause-answer
returns-clause-answer c =
    let b = c.self.inside.book in
    let s = c.args.site in
    let a = c.args.arguments.now in
    let may = subst (λ (x : RuntimeState). IsCallable x.book.definition s a) (sym c.self.view_is) c.requires.callable in
    answered b c.world.ensures.book s may.inside a _ _
    (c.in-Ok.ensures.outcome ∙ ap (λ (w : WorldState). mean (environment_of_bases w) (state_at w s).base.tree a) c.world.ensures.value)
    (c.in-Ok.ensures.steps ∙ ap (λ (w : WorldState). steps (environment_of_links w) (state_at w s).linked.tree a) c.world.ensures.value)
    ∙ ap (λ (x : RuntimeState). answer_of_call x.book.definition x.book.records s a) c.self.view_is
