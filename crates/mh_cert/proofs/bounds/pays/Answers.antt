use Rattle.std.proofs.Common.{◌≡◌, ◌<◌, ◌∙◌, ℕ, arith, length, refl, slice_index, slice_index_or, sym}
use Rattle.std.proofs.lemmas.Bool.{true≢false}
use Rattle.std.proofs.lemmas.List.{get_or_default}
use Rattle.mh_cert.proofs.Within.{exceeds}
use Rattle.mh_cert.proofs.bounds.pays.Goals as goal

pub returns-then-charge-spare-clause-value : goal.returns-then-charge-spare-clause-value
returns-then-charge-spare-clause-value c =
    let at : ℕ = (slice_index_or c.args.charges.now c.loop-charge.charge-index (0, 0)).0 in
    let inside : at < length c.loop-charge.left.items = omega (arith, c.requires.inside c.loop-charge.charge-index (0, 0) c.loop-charge-test.true, c.loop-charge.invariant.count) in
    let same : c.index-spare.result.now ≡ slice_index c.loop-charge.left.items at =
    c.index-spare.ensures ∙ get_or_default c.loop-charge.left.items at c.index-spare.result.now 0 inside in (
      λ t. absurd (true≢false (sym t)),
      λ within. absurd (exceeds (λ r. r.0) (λ r. r.1) (0, 0) c.args.charges.now c.loop-charge.charge-index at
          (slice_index c.loop-charge.left.items at) (slice_index c.args.left.now.items at)
          c.loop-charge-test.true refl (c.loop-charge.invariant.left at) (omega (arith, same, c.if-charge-spare.true)) (within at)),
    )
