use Rattle.std.proofs.Common.{◌+◌, ◌==◌, ap, sym, ◌∙◌}
use Rattle.std.specs.List.{count_by}
use Rattle.std.proofs.lemmas.List.{take_all}
use Rattle.std.proofs.lemmas.List.Splits.{length-slice_split}
use Rattle.mh_profile.proofs.claim.line_count.Goals as goal

pub returns : goal.returns
returns c =
    let bytes = c.args.bytes.now in
    record {
      value = c.loop-byte.invariant.number
          ∙ (ap (λ xs. count_by (λ b. b == 10) xs + 1) (take_all c.loop-byte.byte-index bytes c.loop-byte-test.false) ∙ sym (length-slice_split (λ b. b == 10) bytes));
    }
