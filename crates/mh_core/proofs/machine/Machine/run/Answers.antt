use Rattle.std.proofs.Common.{◌≡◌, ◌∷◌, [], ◌++◌, List, length, ap, sym, subst, ◌∙◌, arith, append-nil, append_assoc, length-append}
use Rattle.std.proofs.lemmas.List.{nil_from_length}
use Rattle.std.specs.Vec.Iter.{into_iter_items}
use Rattle.mh_core.specs.declared.event.Event.{Event}
use Rattle.mh_core.specs.Legal.{Run}
use Rattle.mh_core.proofs.Headlines.{headline_behind}
use Rattle.mh_core.proofs.Runs.{run_more}
use Rattle.mh_core.proofs.machine.Machine.run.Goals as goal

pub loop-event-preserved : goal.loop-event-preserved
loop-event-preserved c =
    let at = c.loop-event in
    let steps : into_iter_items at.event-iterator ≡ c.in-Some.event ∷ into_iter_items c.next.new.self = c.in-Some.ensures.steps.0 in
    let count = ap length steps in
    record {
      next = tt;
      finite = tt;
      all = append_assoc at.yielded (c.in-Some.event ∷ []) (into_iter_items c.next.new.self) ∙ (ap (λ (w : List Event). at.yielded ++ w) (sym steps) ∙ at.invariant.all);
      left = omega (arith, at.invariant.left, count, c.in-Some.ensures.steps.1);
      room = omega (arith, at.invariant.room, count, c.push_reserved.ensures.capacity, ap length c.push_reserved.ensures.items, length-append at.replies.items (c.step-reply.result ∷ []));
      setting = c.step-reply.ensures.setting ∙ at.invariant.setting;
      run = run_more at.self.setting c.args.self.now.setting c.args.self.now.history at.yielded at.replies.items c.push_reserved.new.self.items at.self.history c.in-Some.event c.step-reply.result c.step-reply.new.self.history
          at.invariant.run at.invariant.setting c.step-reply.ensures.step c.push_reserved.ensures.items;
    }

pub returns-clause-headline : goal.returns-clause-headline
returns-clause-headline c =
    let m = c.args.self.now in
    let same = c.book.ensures in
    let at = c.loop-event in
    let none : into_iter_items at.event-iterator ≡ [] = nil_from_length (into_iter_items at.event-iterator) (sym at.invariant.left ∙ c.in-None.ensures.steps.0) in
    let gives : into_iter_items c.into_iter-event-iterator.result ≡ c.args.events.items = c.into_iter-event-iterator.ensures.into_iter_gives.0 in
    let all : at.yielded ≡ c.args.events.items = sym (append-nil at.yielded) ∙ (ap (λ (w : List Event). at.yielded ++ w) (sym none) ∙ (at.invariant.all ∙ gives)) in
    let run = subst (λ (es : List Event). Run m.setting m.history es at.replies.items at.self.history) all at.invariant.run in
    headline_behind m.setting c.book.result.now m.history c.args.events.items c.loop-event.replies.items c.loop-event.self.history c.kept.ensures.book same.definition same.limits same.records run
