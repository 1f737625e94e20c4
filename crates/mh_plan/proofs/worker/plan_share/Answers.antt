use Rattle.std.proofs.Common.{◌≡◌, ◌+◌, ◌*◌, ◌∙◌, ℕ, List, sym, ap, subst, arith, length, length-append}
use Rattle.std.specs.Vec.{with_items}
use Rattle.std.proofs.lemmas.List.{get_or_default, with_items_is}
use Rattle.mh_network.specs.declared.part.Part.{Part}
use Rattle.mh_network.specs.Parts.{IsPartOf, no_part, part_at, part_problem}
use Rattle.mh_plan.specs.Solved.{IsSolved}
use Rattle.mh_plan.proofs.Shared.{share_more}
use Rattle.mh_plan.proofs.worker.plan_share.Goals as goal

pub solve-run-requires : goal.solve-run-requires
solve-run-requires g c =
    let same : part_at c.args.parts.now c.loop-part.part ≡ c.index-parts-part.result = get_or_default c.args.parts.now c.loop-part.part no_part _ c.loop-part-test.true ∙ sym c.index-parts-part.is in
    record {
      part = subst (λ (part : Part). IsPartOf c.args.problem.now part) same ((c.parts_join.ensures.alone c.args.parts.now c.requires.parts).part c.loop-part.part);
      room = ap (λ (xs : List ℕ). length xs) c.deref_mut.ensures.value ∙ c.loop-part.invariant.room;
    }

pub loop-part-preserved : goal.loop-part-preserved
loop-part-preserved g c =
    let same : part_at c.args.parts.now c.loop-part.part ≡ c.index-parts-part.result = get_or_default c.args.parts.now c.loop-part.part no_part _ c.loop-part-test.true ∙ sym c.index-parts-part.is in
    let solved : IsSolved (part_problem c.args.problem.now (part_at c.args.parts.now c.loop-part.part)) c.in_ok-run.run' =
    subst (λ (part : Part). IsSolved (part_problem c.args.problem.now part) c.in_ok-run.run') (sym same) c.in_ok-run.ensures.solved in
    let more = c.in_ok-push.ensures.items in
    let count : length c.push.new.self.items ≡ length c.loop-part.runs.items + 1 = ap length more ∙ length-append c.loop-part.runs.items _ in
    let product : length c.push.new.self.items * c.args.workers ≡ (length c.loop-part.runs.items + 1) * c.args.workers = ap (λ n. n * c.args.workers) count in
    let kept : length c.solve-run.new.places ≡ length c.loop-part.places.items = c.solve-run.ensures.room ∙ ap (λ (xs : List ℕ). length xs) c.deref_mut.ensures.value in
    let same_places : (with_items c.loop-part.places c.solve-run.new.places).items ≡ c.solve-run.new.places = with_items_is c.loop-part.places c.solve-run.new.places (kept ∙ sym c.loop-part.places.ok.0) in
    record {
      room = ap (λ (xs : List ℕ). length xs) same_places ∙ (kept ∙ c.loop-part.invariant.room);
      place = omega (arith, product, c.loop-part.invariant.place);
      solved = share_more _ _ _ _ _ _ _ _ more c.loop-part.invariant.place c.loop-part.invariant.solved solved;
    }
