use Rattle.std.proofs.Common.{◌∙◌, ap, length, map, sym}
use Rattle.std.proofs.lemmas.List.{length-map}
use Rattle.std.proofs.lemmas.List.FromFn.{length-map-range_with_len}
use Rattle.mh_core.specs.Books.{opened_book}
use Rattle.mh_core.specs.Links.{links}
use Rattle.mh_ledger.specs.Ledgers.{opened_ledger}
use Rattle.mh_share.specs.Callers.{caller_by}
use Rattle.mhlink_c.specs.Callers.{opened_held_caller}
use Rattle.mhlink_c.specs.Opening.{limits_of}
use Rattle.mhlink_c.proofs.desk_opening.open.Goals as goal

pub hand_out-requires : goal.hand_out-requires
hand_out-requires c =
    let o = c.in_ok-held.ensures.opened in
    let d = o.0.definition in
    let l = limits_of c.args.limits.now in
    let n = length c.args.callers.now in
    let count = length-map-range_with_len (λ w. caller_by (opened_book d n l) (opened_ledger (length (links d)) l.ledger w)) 0 n in
    record {
      each = sym (length-map c.in_ok-boxed.boxed.items (λ b. b.value))
          ∙ (ap length c.in_ok-boxed.ensures.value ∙ (length-map c.in_ok-held.opened.items opened_held_caller ∙ (ap length o.1.1.1.1 ∙ count)));
    }
