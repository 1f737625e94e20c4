use Rattle.std.proofs.Common.{◌≡◌, ◌≢◌, ◌<◌, ℕ, length, get_or, arith, ◌∙◌, sym, ap, inl, inr, refl, get_or-set_same, get_or-set_other}
use Rattle.std.proofs.Math.ListN.{length-set}
use Rattle.std.proofs.lemmas.Bool.{cases_lt}
use Rattle.std.proofs.lemmas.List.Kept.{AllPairs-from_increasing}
use Rattle.mh_sweep.proofs.Numbering.{num, place_in}
use Rattle.mh_sweep.proofs.marking.set_places.Goals as goal

pub loop-at-preserved : goal.loop-at-preserved
loop-at-preserved c =
    let at : ℕ = c.loop-at.at in
    let here : ℕ = num c.args.points.now at in
    let within : here < length c.loop-at.places = omega (arith, c.requires.inside at 0 (omega arith), c.loop-at.invariant.count) in
    record {
      count = length-set c.loop-at.places here at ∙ c.loop-at.invariant.count;
      value = λ i l. elim (cases_lt i at) [
        | inl below ↦
            let rising = AllPairs-from_increasing c.args.points.now c.requires.ascending i at 0 below (omega arith) in
            let other : num c.args.points.now i ≢ here = λ e. absurd (omega (arith, rising, e)) in
            rw get_or-set_other (c.loop-at.invariant.value i below)
        | inr past ↦
            let same : i ≡ at = omega (arith, l, past) in
            rw same (rw get_or-set_same refl)
      ];
    }

pub returns-clause-value : goal.returns-clause-value
returns-clause-value c =
    record {
      count = c.loop-at.invariant.count;
      value = λ p e.
          let there = place_in c.args.points.now p e in
          sym (ap (λ (q : ℕ). get_or c.loop-at.places q 0) there.1) ∙ c.loop-at.invariant.value _ (omega (arith, there.0));
    }
