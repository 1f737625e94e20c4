use Rattle.std.proofs.Common.{◌<◌, ◌+◌, ◌∙◌, ap, arith, length, rules, slice_index_or}
use Rattle.std.proofs.lemmas.List.{get_or_default}
use Rattle.mh_profile.proofs.Amounts.{added_more}
use Rattle.mh_profile.proofs.accounts.add_at.Goals as goal

pub loop-number-preserved : goal.loop-number-preserved
loop-number-preserved c =
    let sums = c.loop-number.sums.items in
    let at = slice_index_or c.args.numbers.now c.loop-number.number-index 0 in
    let inside : at < length sums = omega (arith, c.requires.inside c.loop-number.number-index 0 c.loop-number-test.true, c.loop-number.invariant.count) in
    let value = ap (λ n. n + c.args.amount) (c.index_mut.ensures.value ∙ get_or_default sums at c.index_mut.result.now 0 inside) in
    record {
      count = search rules;
      sums = λ p. added_more sums c.args.sums.now.items c.args.numbers.now c.loop-number.number-index c.args.amount _ p c.requires.ascending c.loop-number-test.true inside value (c.loop-number.invariant.sums p);
    }
