use Rattle.std.proofs.Common.{ℕ, length, sym, ◌∙◌, arith}
use Rattle.std.proofs.lemmas.List.{ext_get_or, get_or-map, length-map}
use Rattle.mh_ledger.specs.Renewals.{left_of}
use Rattle.mh_ledger.proofs.old_hits.lessen.Goals as goal

pub returns : goal.returns
returns c =
    let was = c.args.numbers.now.items in
    let left = left_of c.args.hits in
    let same = c.loop-place.invariant.same in
    record {
      value = ext_get_or 0 _ _ (same ∙ sym (length-map was left))
          (λ j inside. c.loop-place.invariant.before j (omega (arith, inside, same)) ∙ sym (get_or-map left was j 0 0 (omega (arith, inside, same))));
    }
