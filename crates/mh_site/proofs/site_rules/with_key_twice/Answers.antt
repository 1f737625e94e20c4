use Rattle.std.proofs.Common.{ap, arith, not, ◌∙◌}
use Rattle.mh_site.proofs.Found.{found_none, found_twice, key_read}
use Rattle.mh_site.proofs.site_rules.with_key_twice.Goals as goal

pub returns-then-has_key : goal.returns-then-has_key
returns-then-has_key c =
    let links = c.args.links.now in
    let i = c.loop-index.index in
    let lt = c.loop-index-test.true in
    let read = key_read links i c.index-links-index.result c.has_key.result lt c.index-links-index.is c.has_key.ensures.value in
    record { value = found_twice links i lt c.loop-index.invariant (read ∙ ap not c.if-has_key.true) }

pub returns : goal.returns
returns c = record { value = found_none c.args.links.now c.loop-index.index (omega (arith, c.loop-index-test.false, c.loop-index.auto.index-end)) c.loop-index.invariant }
