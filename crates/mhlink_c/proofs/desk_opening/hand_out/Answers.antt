use Rattle.std.proofs.Common.{◌∙◌, ◌+◌, ◌<◌, ◌∷◌, [], ◌++◌, ◌≡◌, List, ap, arith, length, map, slice_set, subst, sym, take}
use Rattle.std.proofs.lemmas.List.{length-set, map-append}
use Rattle.mhlink_c.specs.Callers.{HeldCallerState}
use Rattle.mhlink_c.specs.Handles.{AreHandlesOf}
use Rattle.mhlink_c.proofs.HandedOut.{handed_next}
use Rattle.mhlink_c.proofs.desk_opening.hand_out.Goals as goal

pub loop-held-preserved : goal.loop-held-preserved
loop-held-preserved c =
    let handles = c.loop-held.handles in
    let place = c.loop-held.place in
    let inv = c.loop-held.invariant in
    let cs = map (λ b. b.value) c.loop-held.yielded in
    let left = ap length c.in-Some.ensures.steps.0 in
    let lt : place < length handles = omega (arith, inv.0, left) in
    let next = handed_next handles place c.of.result cs lt c.of.ensures.full inv.1.1 in
    let same = ap (λ (x : HeldCallerState). cs ++ x ∷ []) c.of.ensures.value ∙ sym (map-append (λ b. b.value) c.loop-held.yielded (c.in-Some.held ∷ [])) in
    let stays = length-set handles place c.of.result in (
      omega (arith, inv.0, left, stays),
      (stays ∙ inv.1.0, subst (λ (ys : List HeldCallerState). AreHandlesOf (take (place + 1) (slice_set handles place c.of.result)) ys) same next),
    )
