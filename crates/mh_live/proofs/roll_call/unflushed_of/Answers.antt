use Rattle.std.proofs.Common.{arith, subst, sym}
use Rattle.std.proofs.lemmas.List.Elements.{All-get_or}
use Rattle.mh_ledger.specs.Ledgers.{Holds}
use Rattle.mh_ledger.specs.Laws.{held_links}
use Rattle.mh_live.specs.Passes.{PassState}
use Rattle.mh_live.proofs.roll_call.unflushed_of.Goals as goal

pub unflushed-requires : goal.unflushed-requires
unflushed-requires g c =
    let IsHeld : PassState → Type 0 = λ p. Holds c.args.totals.now p.ledger in
    let held = All-get_or IsHeld c.args.passes.now c.loop-pass.pass-index c.pass-item.result c.loop-pass-test.true c.requires.back.held in
    let is_held : Holds c.args.totals.now c.ledger-ledger.result.now = subst (Holds c.args.totals.now) (sym c.ledger-ledger.ensures.value) (subst IsHeld (sym c.pass-item.is) held) in
    let links = held_links c.args.totals.now c.ledger-ledger.result.now c.links-links.ensures.totals c.links-links-in-loop-pass.ensures.ledger is_held in
    record { inside = omega (arith, links, c.requires.inside) }
