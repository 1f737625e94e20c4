use Rattle.std.proofs.Common.{◌≡◌, ◌<◌, ◌∙◌, ℕ, List, ap, arith, length, map, refl, subst, sym}
use Rattle.std.proofs.lemmas.List.{length-map}
use Rattle.mh_ledger.specs.Ledgers.{AreHeld, LedgerState, ledger_at}
use Rattle.mh_share.specs.Callers.{CallerState}
use Rattle.mh_share.specs.Laws.{all_kept, all_renewed, ledgers_after, same_count, same_links}
use Rattle.mh_share.specs.Renewals.{ledgers_of, with_ledger}
use Rattle.mh_share.proofs.Results.{both_on_err, on_ok}
use Rattle.mh_share.proofs.desk.Desk.renew.Goals as goal

abbrev get : CallerState → LedgerState
get c = c.ledger

pub exchange_all-requires-2-clause-count : goal.exchange_all-requires-2-clause-count
exchange_all-requires-2-clause-count c =
    let held = c.if-not-has_all.ensures.decides.0 refl in
    let cs = c.args.callers.now.items in
    let callers = ap length (sym c.deref.ensures.value) in
    let count : length c.in-Ok.ledgers.items ≡ length cs = c.in-Ok.ensures.count ∙ (sym held.count ∙ (length-map c.deref.result.now get ∙ sym callers)) in
    same_count get with_ledger (λ x l. refl) c.args.renewal.hits cs c.exchange_all.new.callers.items c.in-Ok.ledgers.items c.exchange_all.new.ledgers.items c.renew_over-answer.new.ledgers.items count c.exchange_all.ensures.callers
    c.exchange_all.ensures.ledgers c.renew_over-answer.result (c.renew_over-answer.ensures.ledgers, c.renew_over-answer.ensures.kept)

pub exchange_all-requires-2-clause-links : goal.exchange_all-requires-2-clause-links
exchange_all-requires-2-clause-links c =
    let held = c.if-not-has_all.ensures.decides.0 refl in
    let cs = c.args.callers.now.items in
    let callers = ap length (sym c.deref.ensures.value) in
    let count : length c.in-Ok.ledgers.items ≡ length cs = c.in-Ok.ensures.count ∙ (sym held.count ∙ (length-map c.deref.result.now get ∙ sym callers)) in
    let links = length c.args.self.now.book.totals.total in
    let sizes = subst (λ (xs : List CallerState). (w : ℕ) → w < length xs → length (ledger_at (ledgers_of xs) w).unflushed ≡ links) c.deref.ensures.value (c.if-not-has_all.ensures.links refl) in
    same_links get with_ledger (λ x l. refl) c.args.renewal.hits cs c.exchange_all.new.callers.items c.in-Ok.ledgers.items c.exchange_all.new.ledgers.items c.renew_over-answer.new.ledgers.items count c.exchange_all.ensures.callers
    c.exchange_all.ensures.ledgers c.renew_over-answer.result (c.renew_over-answer.ensures.ledgers, c.renew_over-answer.ensures.kept) links sizes c.in-Ok.ensures.links

pub returns-clause-callers : goal.returns-clause-callers
returns-clause-callers c =
    let held = c.if-not-has_all.ensures.decides.0 refl in
    let cs = c.args.callers.now.items in
    let callers = ap length (sym c.deref.ensures.value) in
    let count : length c.in-Ok.ledgers.items ≡ length cs = c.in-Ok.ensures.count ∙ (sym held.count ∙ (length-map c.deref.result.now get ∙ sym callers)) in
    all_renewed get with_ledger (λ x l. refl) c.args.renewal.hits cs c.exchange_all.new.callers.items c.in-Ok.ledgers.items c.exchange_all.new.ledgers.items c.renew_over-answer.new.ledgers.items count c.exchange_all.ensures.callers
    c.exchange_all.ensures.ledgers (λ x l m. refl) c.exchange_all-2.new.callers.items c.exchange_all-2.ensures.callers c.renew_over-answer.result (c.renew_over-answer.ensures.ledgers, c.renew_over-answer.ensures.kept)

pub returns-clause-all : goal.returns-clause-all
returns-clause-all c =
    let held = c.if-not-has_all.ensures.decides.0 refl in
    let cs = c.args.callers.now.items in
    let callers = ap length (sym c.deref.ensures.value) in
    let count : length c.in-Ok.ledgers.items ≡ length cs = c.in-Ok.ensures.count ∙ (sym held.count ∙ (length-map c.deref.result.now get ∙ sym callers)) in
    let now = c.renew_over-answer.new.ledgers.items in
    let same = same_count get with_ledger (λ x l. refl) c.args.renewal.hits cs c.exchange_all.new.callers.items c.in-Ok.ledgers.items c.exchange_all.new.ledgers.items now count c.exchange_all.ensures.callers
    c.exchange_all.ensures.ledgers c.renew_over-answer.result (c.renew_over-answer.ensures.ledgers, c.renew_over-answer.ensures.kept) in
    let after = ledgers_after get with_ledger (λ x l. refl) c.args.renewal.hits cs c.exchange_all.new.callers.items c.in-Ok.ledgers.items c.exchange_all.new.ledgers.items now count c.exchange_all.ensures.callers
    c.exchange_all.ensures.ledgers c.exchange_all-2.new.callers.items c.exchange_all-2.ensures.callers same in
    on_ok c.renew_over-answer.result _ (subst (AreHeld c.renew_over-answer.new.self.book.totals) (sym after) c.renew_over-answer.ensures.held)

pub returns-clause-kept : goal.returns-clause-kept
returns-clause-kept c =
    let held = c.if-not-has_all.ensures.decides.0 refl in
    let cs = c.args.callers.now.items in
    let callers = ap length (sym c.deref.ensures.value) in
    let count : length c.in-Ok.ledgers.items ≡ length cs = c.in-Ok.ensures.count ∙ (sym held.count ∙ (length-map c.deref.result.now get ∙ sym callers)) in
    both_on_err c.renew_over-answer.result _ _ c.renew_over-answer.ensures.same
    (all_kept get with_ledger (λ x l. refl) c.args.renewal.hits cs c.exchange_all.new.callers.items c.in-Ok.ledgers.items c.exchange_all.new.ledgers.items c.renew_over-answer.new.ledgers.items count c.exchange_all.ensures.callers
    c.exchange_all.ensures.ledgers (λ x l m. refl) (λ x. refl) c.exchange_all-2.new.callers.items c.exchange_all-2.ensures.callers c.renew_over-answer.result (c.renew_over-answer.ensures.ledgers, c.renew_over-answer.ensures.kept))
