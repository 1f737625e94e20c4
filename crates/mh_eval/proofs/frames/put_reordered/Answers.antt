use Rattle.std.proofs.Common.{◌≡◌, ◌+◌, ◌∙◌, ◌<◌, sym, arith, drop, map, length, length-drop, false, slice_index_or}
use Rattle.std.proofs.lemmas.Result.{err_from_is_err_and}
use Rattle.std.proofs.lemmas.List.{get_or-drop, get_or-map, length-map}
use Rattle.std.proofs.lemmas.List.Elements.{All-get_or}
use Rattle.mh_type.specs.declared.value.Value.TheVariants.{Boolean}
use Rattle.mh_tree.specs.Meaning.{argument}
use Rattle.mh_eval.proofs.Extending.{goes, stops, argument_above}
use Rattle.mh_eval.proofs.frames.put_reordered.Goals as goal

pub returns-in_err-put_copy : goal.returns-in_err-put_copy
returns-in_err-put_copy c =
    let p = err_from_is_err_and c.from_residual.result c.from_residual.ensures.1 in
    let old = c.args.stack.now.items in
    let from = c.args.from in
    let a = drop from old in
    let i = c.loop-place.place-index in
    let r = c.args.reorder.now in
    let place = slice_index_or r i 0 in
    let below : i < length r = omega (arith, c.loop-place-test.true) in
    let inside : i < length (map (argument a) r) = omega (arith, below, length-map r (argument a)) in
    let few : place < length a = All-get_or (λ k. k < length a) r i 0 below c.requires.inside in
    let is : argument c.loop-place.stack.items (from + place) ≡ argument (map (argument a) r) i =
    argument_above _ old c.loop-place.stack.items (from + place) c.loop-place.invariant.0 (omega (arith, few, length-drop from old))
    ∙ sym (get_or-drop from old place (Boolean false)) ∙ sym (get_or-map (argument a) r i 0 (Boolean false) below) in
    record { extends = rw (p.1) (stops old _ c.loop-place.stack.items _ i _ _ _ _ inside c.loop-place.invariant.0 c.loop-place.invariant.1 is _ _ c.in_err-put_copy.ensures.extends) }

pub loop-place-preserved : goal.loop-place-preserved
loop-place-preserved c =
    let old = c.args.stack.now.items in
    let from = c.args.from in
    let a = drop from old in
    let i = c.loop-place.place-index in
    let r = c.args.reorder.now in
    let place = slice_index_or r i 0 in
    let below : i < length r = omega (arith, c.loop-place-test.true) in
    let inside : i < length (map (argument a) r) = omega (arith, below, length-map r (argument a)) in
    let few : place < length a = All-get_or (λ k. k < length a) r i 0 below c.requires.inside in
    let is : argument c.loop-place.stack.items (from + place) ≡ argument (map (argument a) r) i =
    argument_above _ old c.loop-place.stack.items (from + place) c.loop-place.invariant.0 (omega (arith, few, length-drop from old))
    ∙ sym (get_or-drop from old place (Boolean false)) ∙ sym (get_or-map (argument a) r i 0 (Boolean false) below) in
    let more = goes old _ c.loop-place.stack.items _ i _ _ _ _ inside c.loop-place.invariant.0 c.loop-place.invariant.1 is _ c.in_ok-put_copy.ensures.extends in
    (more, omega (arith, c.loop-place.invariant.1, c.put_copy.ensures.extends.room))
