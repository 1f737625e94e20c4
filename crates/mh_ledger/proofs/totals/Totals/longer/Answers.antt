use Rattle.std.proofs.Common.{ap, map, refl, sym, subst, ◌≡◌, ◌∙◌}
use Rattle.mh_ledger.specs.Ledgers.{IsTotals, totals_state}
use Rattle.mh_ledger.specs.Extensions.{longer}
use Rattle.mh_ledger.proofs.Extended.{extended_sound, made_totals}
use Rattle.mh_ledger.proofs.Taken.{items_of}
use Rattle.mh_ledger.proofs.totals.Totals.longer.Goals as goal

pub invariant_of-result : goal.invariant_of-result
invariant_of-result c =
    let x = c.self.inside in
    let total : c.in_ok-longer.field-0.items ≡ longer c.args.more x.totals.items = c.in_ok-longer.ensures.value ∙ ap (longer c.args.more) c.deref.ensures.value in
    let shares : map items_of c.in_ok-extend_shares.field-0.items ≡ map (longer c.args.more) (map items_of x.shares.items) =
    c.in_ok-extend_shares.ensures.value ∙ ap (λ rows. map (longer c.args.more) (map items_of rows)) c.deref-2.ensures.value in
    subst IsTotals (sym (made_totals c.args.more (totals_state x) x.limit _ _ refl total shares)) (extended_sound c.args.more (totals_state x) c.self.invariant)
