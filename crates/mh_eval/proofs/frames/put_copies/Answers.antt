use Rattle.std.proofs.Common.{◌≡◌, ◌+◌, ◌-◌, ◌∙◌, ◌<◌, sym, ap, arith, take, drop, length, length-take, length-drop}
use Rattle.std.proofs.lemmas.Result.{err_from_is_err_and}
use Rattle.mh_tree.specs.Meaning.{argument}
use Rattle.mh_eval.proofs.Extending.{goes, stops, argument_above, argument_between}
use Rattle.mh_eval.proofs.frames.put_copies.Goals as goal

pub returns-in_err-put_copy : goal.returns-in_err-put_copy
returns-in_err-put_copy c =
    let p = err_from_is_err_and c.from_residual.result c.from_residual.ensures.1 in
    let old = c.args.stack.now.items in
    let place = c.loop-place.place in
    let first = c.args.first in
    let from : first + (place - first) ≡ place = omega (arith, c.loop-place.auto) in
    let below : place < c.args.end = omega (arith, c.loop-place-test.true, c.loop-place.auto) in
    let inside : place - first < length (drop first (take c.args.end old)) =
    omega (arith, below, from, c.requires.inside, length-drop first (take c.args.end old), length-take c.args.end old) in
    let is : argument c.loop-place.stack.items place ≡ argument (drop first (take c.args.end old)) (place - first) =
    argument_above _ old c.loop-place.stack.items place c.loop-place.invariant.0 (omega (arith, below, c.requires.inside))
    ∙ sym (argument_between old first c.args.end (place - first) (omega (arith, below, from)) ∙ ap (argument old) from) in
    record { extends = rw (p.1) (stops old _ c.loop-place.stack.items _ (place - first) _ _ _ _ inside c.loop-place.invariant.0 c.loop-place.invariant.1 is _ _ c.in_err-put_copy.ensures.extends) }

pub loop-place-preserved : goal.loop-place-preserved
loop-place-preserved c =
    let old = c.args.stack.now.items in
    let place = c.loop-place.place in
    let first = c.args.first in
    let from : first + (place - first) ≡ place = omega (arith, c.loop-place.auto) in
    let below : place < c.args.end = omega (arith, c.loop-place-test.true, c.loop-place.auto) in
    let inside : place - first < length (drop first (take c.args.end old)) =
    omega (arith, below, from, c.requires.inside, length-drop first (take c.args.end old), length-take c.args.end old) in
    let is : argument c.loop-place.stack.items place ≡ argument (drop first (take c.args.end old)) (place - first) =
    argument_above _ old c.loop-place.stack.items place c.loop-place.invariant.0 (omega (arith, below, c.requires.inside))
    ∙ sym (argument_between old first c.args.end (place - first) (omega (arith, below, from)) ∙ ap (argument old) from) in
    let more = goes old _ c.loop-place.stack.items _ (place - first) _ _ _ _ inside c.loop-place.invariant.0 c.loop-place.invariant.1 is _ c.in_ok-put_copy.ensures.extends in
    let next : place - first + 1 ≡ place + 1 - first = omega (arith, from) in
    (rw (sym next) more, omega (arith, c.loop-place.invariant.1, c.put_copy.ensures.extends.room))
