use Rattle.std.proofs.Common.{◌≡◌, inl, inr, arith, refl}
use Rattle.mh_explain.proofs.Names.{at_most, found_nearest, found_none, passed, steps_to, taken}
use Rattle.mh_explain.proofs.near.nearest.Goals.{then-edits-least+then-edits-word, else-edits-least, else-edits-least-via-then-edits-least+else-edits-word, else-edits-least-via-else-edits-least}
use Rattle.mh_explain.proofs.near.nearest.Goals as goal

pub loop-name-init : goal.loop-name-init
loop-name-init c = (refl, λ j l near. absurd (omega (arith, l)))

pub loop-name-preserved : goal.loop-name-preserved
loop-name-preserved c =
    let word = c.args.word.now in
    let known = c.args.known.now in
    let n = c.loop-name.name-index in
    let least = c.loop-name.least in
    let so = c.loop-name.invariant in
    let edits : c.in_ok-edits.edits ≡ steps_to word known n = c.in_ok-edits.ensures.value in
    elim c.if-edits-least.branch [
      | then-edits-least+then-edits-word w ↦
          rw (w.found-is, w.least-is, edits) (taken word known n least c.loop-name.found so (at_most word known n least c.loop-name.found so) (omega (arith, w.if-edits-least.true, edits)) (omega (arith, w.if-edits-word.true, edits)))
      | else-edits-least w ↦
          rw (w.found-is, w.least-is) (passed word known n least c.loop-name.found so
          (elim w.else-edits-least.branch [
            | else-edits-least-via-then-edits-least+else-edits-word v ↦ inr (omega (arith, v.if-edits-word.false, edits))
            | else-edits-least-via-else-edits-least v ↦ inl (omega (arith, v.if-edits-least.false, edits))
          ]))
    ]

pub returns-clause-nearest : goal.returns-clause-nearest
returns-clause-nearest c = found_nearest c.args.word.now c.args.known.now c.loop-name.name-index c.loop-name.least c.loop-name.found c.loop-name.invariant (omega (arith, c.loop-name-test.false, c.loop-name.auto.name-index-end))

pub returns-clause-none : goal.returns-clause-none
returns-clause-none c = found_none c.args.word.now c.args.known.now c.loop-name.name-index c.loop-name.least c.loop-name.found c.loop-name.invariant (omega (arith, c.loop-name-test.false, c.loop-name.auto.name-index-end))
