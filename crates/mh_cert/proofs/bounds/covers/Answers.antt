use Rattle.std.proofs.Common.{◌≡◌, ◌<◌, ◌∙◌, sym, arith, length, slice_index}
use Rattle.std.proofs.lemmas.Bool.{true≢false}
use Rattle.std.proofs.lemmas.List.{get_or_default}
use Rattle.mh_cert.specs.inner.Ends.{end_of}
use Rattle.mh_cert.proofs.Within.{exceeds}
use Rattle.mh_cert.proofs.bounds.covers.Goals as goal

pub returns-then-row-spare : goal.returns-then-row-spare
returns-then-row-spare c =
    let inside : c.place-at.result < length c.loop-row.left.items = omega (arith, c.requires.inside c.loop-row.row-index (0, 0, 0) c.loop-row-test.true) in
    let same : c.index-spare.result.now ≡ slice_index c.loop-row.left.items c.place-at.result =
    c.index-spare.ensures ∙ get_or_default c.loop-row.left.items c.place-at.result c.index-spare.result.now 0 inside in
    record {
      value = (
        λ t. absurd (true≢false (sym t)),
        λ within. absurd (exceeds (end_of c.args.end) (λ r. r.2) (0, 0, 0) c.args.flow.now c.loop-row.row-index c.place-at.result
            (slice_index c.loop-row.left.items c.place-at.result) (slice_index c.args.left.now.items c.place-at.result)
            c.loop-row-test.true c.place-at.ensures.value (c.loop-row.invariant.left c.place-at.result) (omega arith) (within c.place-at.result)),
      );
    }
