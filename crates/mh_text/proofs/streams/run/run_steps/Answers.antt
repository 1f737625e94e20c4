use Rattle.std.proofs.Common.{◌≡◌, ◌+◌, ◌++◌, ◌∷◌, [], length, ap, refl, subst, sym, ◌∙◌, arith, Option, Vec}
use Rattle.std.specs.Vec.{vec_len}
use Rattle.std.proofs.lemmas.Iterator.Adapters.{YieldsList-from_vec}
use Rattle.std.proofs.lemmas.Iterator.Consumers.{YieldsList-turn, YieldsList-end}
use Rattle.std.proofs.lemmas.List.{length_push}
use Rattle.std.proofs.lemmas.Result.{err_from_is_err_and}
use Rattle.std.proofs.KnownBytes.{Appends-nil, Appends-trans}
use Rattle.mh_core.specs.Legal.{Setting}
use Rattle.mh_text.specs.Lines.{line_of}
use Rattle.mh_core.specs.declared.refusal.Refusal.{Refusal}
use Rattle.mh_text.specs.Refused.{AreRefused, refused_at, refused_behind}
use Rattle.mh_text.proofs.Runs.{all_or_none, line_written, refused_more, run_next, run_whole}
use Rattle.mh_text.proofs.streams.run.run_steps.Goals as goal

vec_length : {A Z : Type 0} (v : Vec A Z) → vec_len v ≡ length v.items
vec_length v = v.ok.0

pub loop-step-init : goal.loop-step-init
loop-step-init g c = record {
  count = refl;
  quiet = refl;
  setting = refl;
  told = ([], refl, refl, (λ h. c.new-refused.ensures.none), Appends-nil _);
  none = λ h. c.new-refused.ensures.none;
}

pub loop-step-preserved : goal.loop-step-preserved
loop-step-preserved g c =
    let made = c.into_iter-step-iterator.ensures.into_iter_gives in
    let t = YieldsList-turn (YieldsList-from_vec c.args.steps.items made.0 (made.1 ∙ vec_length c.args.steps)) c.loop-step.yielded c.loop-step.step-iterator c.loop-step.yielded_by c.next.result c.next.new.self c.in-Some.step c.in-Some.is c.next.ensures.steps in
    let (replies, count, run, all, written) = c.loop-step.invariant.told in
    let (reply, step, told, (spared, refusal)) = c.in_ok-refusal.ensures.step in
    record {
      count = omega (arith, length_push c.loop-step.yielded c.in-Some.step, c.loop-step.invariant.count);
      quiet = c.in_ok-refusal.ensures.kept ∙ c.loop-step.invariant.quiet;
      setting = c.in_ok-refusal.ensures.setting ∙ c.loop-step.invariant.setting;
      told = (
        replies ++ reply ∷ [],
        omega (arith, length_push replies reply, count),
        run_next _ _ _ _ c.loop-step.at _ replies _ c.in-Some.step reply _ c.loop-step.invariant.count t run c.loop-step.invariant.setting step,
        (λ h. c.add.ensures.all (refused_behind 0 replies) all h ∙ (ap (λ (r : Option Refusal). refused_behind 0 replies ++ refused_at (c.loop-step.at + 1) r) refusal ∙ refused_more 0 (c.loop-step.at + 1) replies reply (omega (arith, count)))),
        line_written _ _ _ _ _ replies reply c.loop-step.invariant.setting written told,
      );
      none = c.add.ensures.none c.loop-step.invariant.none;
    }

pub returns-in_err-refusal-clause-ends : goal.returns-in_err-refusal-clause-ends
returns-in_err-refusal-clause-ends g c =
    let made = c.into_iter-step-iterator.ensures.into_iter_gives in
    let t = YieldsList-turn (YieldsList-from_vec c.args.steps.items made.0 (made.1 ∙ vec_length c.args.steps)) c.loop-step.yielded c.loop-step.step-iterator c.loop-step.yielded_by c.next.result c.next.new.self c.in-Some.step c.in-Some.is c.next.ensures.steps in
    let p = err_from_is_err_and c.from_residual.result c.from_residual.ensures.1 in
    let (replies, count, run, all, written) = c.loop-step.invariant.told in
    let (reply, step, told, (spared, refusal)) = c.in_err-refusal.ensures.step in
    let begun = told.1 in
    rw (p.1, p.2, told.0) (replies, reply, c.write_step.new.machine.history, begun.0, begun.1, omega (arith, count), (begun.2, spared), run_next _ _ _ _ c.loop-step.at _ replies _ c.in-Some.step reply _ c.loop-step.invariant.count t run c.loop-step.invariant.setting step, ap (λ (y : Setting). line_of y.definition reply) (sym c.loop-step.invariant.setting) ∙ begun.3, Appends-trans _ _ _ _ _ written begun.4)

pub returns-clause-ok : goal.returns-clause-ok
returns-clause-ok g c =
    let made = c.into_iter-step-iterator.ensures.into_iter_gives in
    let t = YieldsList-end (YieldsList-from_vec c.args.steps.items made.0 (made.1 ∙ vec_length c.args.steps)) c.loop-step.yielded c.loop-step.step-iterator c.loop-step.yielded_by c.next.result c.next.new.self c.in-None.is c.next.ensures.steps in
    let (replies, count, run, all, written) = c.loop-step.invariant.told in (
      replies,
      run_whole c.args.machine.setting c.args.machine.history _ _ replies _ (omega (arith, t.1, c.loop-step.invariant.count)) run,
      c.loop-step.invariant.setting,
      subst (AreRefused replies) (sym c.into_events.ensures.value) (all_or_none c.loop-step.refused.has_all replies c.loop-step.refused.events.items all c.loop-step.invariant.none),
      written,
    )
