use Rattle.std.proofs.Common.{◌≡◌, ◌<◌, ◌∙◌, ℕ, List, Ok, Err, ap, arith, inr, length, map, refl, subst, sym}
use Rattle.std.proofs.lemmas.List.{length-map}
use Rattle.std.proofs.lemmas.Result.{err_from_is_err_and}
use Rattle.mh_base.specs.Tests.{Refuses}
use Rattle.mh_ledger.specs.Ledgers.{AreHeld, LedgerState, ledger_at}
use Rattle.mh_ledger.specs.Renewals.{renewed_ledger}
use Rattle.mh_core.specs.Renewals.{renewal_tests}
use Rattle.mh_share.specs.Desks.{DeskState}
use Rattle.mh_share.specs.Laws.{all_kept, all_renewed, ledgers_after, same_count, same_links}
use Rattle.mh_share.specs.Renewals.{with_each}
use Rattle.mhlink_c.specs.Callers.{HeldCallerState, with_ledger}
use Rattle.mhlink_c.specs.DeskRenewals.{DeskBeginsAnew, callers_of, ledgers_of}
use Rattle.mhlink_c.specs.Desks.{HeldDeskState}
use Rattle.mhlink_c.specs.Renewals.{IsFresh}
use Rattle.mhlink_c.proofs.NoHandle.{held_of, ledger_of}
use Rattle.mhlink_c.proofs.Renewed.{fresh_is}
use Rattle.mhlink_c.proofs.desk.HeldDesk.begin_anew.Goals as goal

pub exchange_all-requires-2-clause-links : goal.exchange_all-requires-2-clause-links
exchange_all-requires-2-clause-links c =
    let held = c.if-not-has_all.ensures.decides.0 refl in
    let same = c.has_all.ensures.same in
    let cs = callers_of c.args.callers.now in
    let between = callers_of c.exchange_all.new.callers in
    let spare = c.in_ok-ledgers.ledgers.items in
    let before = c.exchange_all.new.ledgers.items in
    let now = c.renew_over-answer.new.ledgers.items in
    let hits = c.args.renewal.hits in
    let shares : length c.self.inside.desk.book.totals.shares ≡ length c.args.self.now.desk.book.totals.shares = ap (λ (h : HeldDeskState). length h.desk.book.totals.shares) c.self.view_is in
    let count : length spare ≡ length cs = c.in_ok-ledgers.ensures.count ∙ (shares ∙ (sym held.count ∙ length-map cs ledger_of)) in
    let gone : between ≡ with_each with_ledger cs spare = c.exchange_all.ensures.callers ∙ ap (λ (hs : List HeldCallerState). with_each with_ledger hs spare) same in
    let taken : before ≡ ledgers_of cs = c.exchange_all.ensures.ledgers ∙ ap ledgers_of same in
    let links = length c.self.inside.desk.book.totals.total in
    let sizes = subst (λ (n : ℕ). (w : ℕ) → w < length cs → length (ledger_at (ledgers_of cs) w).unflushed ≡ n) (ap (λ (h : HeldDeskState). length h.desk.book.totals.total) (sym c.self.view_is))
    (λ w inside. c.if-not-has_all.ensures.links refl w (omega (arith, inside, length-map c.args.callers.now held_of))) in
    let each = same_links ledger_of with_ledger (λ h l. refl) hits cs between spare before now count gone taken c.renew_over-answer.result (c.renew_over-answer.ensures.ledgers, c.renew_over-answer.ensures.kept) links sizes c.in_ok-ledgers.ensures.links in
    λ w inside. each w (omega (arith, inside, length-map c.exchange_all.new.callers held_of))

pub returns-in_err-answer-clause-refused : goal.returns-in_err-answer-clause-refused
returns-in_err-answer-clause-refused c =
    let held = c.if-not-has_all.ensures.decides.0 refl in
    let same = c.has_all.ensures.same in
    let cs = callers_of c.args.callers.now in
    let between = callers_of c.exchange_all.new.callers in
    let spare = c.in_ok-ledgers.ledgers.items in
    let before = c.exchange_all.new.ledgers.items in
    let now = c.renew_over-answer.new.ledgers.items in
    let hits = c.args.renewal.hits in
    let shares : length c.self.inside.desk.book.totals.shares ≡ length c.args.self.now.desk.book.totals.shares = ap (λ (h : HeldDeskState). length h.desk.book.totals.shares) c.self.view_is in
    let count : length spare ≡ length cs = c.in_ok-ledgers.ensures.count ∙ (shares ∙ (sym held.count ∙ length-map cs ledger_of)) in
    let gone : between ≡ with_each with_ledger cs spare = c.exchange_all.ensures.callers ∙ ap (λ (hs : List HeldCallerState). with_each with_ledger hs spare) same in
    let taken : before ≡ ledgers_of cs = c.exchange_all.ensures.ledgers ∙ ap ledgers_of same in
    let p = err_from_is_err_and c.from_residual-in_err-answer.result c.from_residual-in_err-answer.ensures.1 in
    let told = c.in_err-answer.field-0.0 in
    let b = c.self.inside.desk.book in
    let again = c.args.renewal.again.now in
    let of = subst (λ (ls : List LedgerState). Refuses (renewal_tests b.definition b.limits (length ls) again) told) taken c.in_err-answer.ensures.refused in
    let Tells : HeldDeskState → Type 0 = λ h. Refuses (renewal_tests h.desk.book.definition h.desk.book.limits (length (ledgers_of cs)) again) told in
    rw p.1 (told, (p.2, inr (held, inr (subst Tells c.self.view_is of))))

pub returns-in_err-answer-clause-kept : goal.returns-in_err-answer-clause-kept
returns-in_err-answer-clause-kept c =
    let held = c.if-not-has_all.ensures.decides.0 refl in
    let same = c.has_all.ensures.same in
    let cs = callers_of c.args.callers.now in
    let between = callers_of c.exchange_all.new.callers in
    let spare = c.in_ok-ledgers.ledgers.items in
    let before = c.exchange_all.new.ledgers.items in
    let now = c.renew_over-answer.new.ledgers.items in
    let hits = c.args.renewal.hits in
    let shares : length c.self.inside.desk.book.totals.shares ≡ length c.args.self.now.desk.book.totals.shares = ap (λ (h : HeldDeskState). length h.desk.book.totals.shares) c.self.view_is in
    let count : length spare ≡ length cs = c.in_ok-ledgers.ensures.count ∙ (shares ∙ (sym held.count ∙ length-map cs ledger_of)) in
    let gone : between ≡ with_each with_ledger cs spare = c.exchange_all.ensures.callers ∙ ap (λ (hs : List HeldCallerState). with_each with_ledger hs spare) same in
    let taken : before ≡ ledgers_of cs = c.exchange_all.ensures.ledgers ∙ ap ledgers_of same in
    let after = callers_of c.exchange_all-2.new.callers in
    let p = err_from_is_err_and c.from_residual-in_err-answer.result c.from_residual-in_err-answer.ensures.1 in
    let told = c.in_err-answer.field-0.0 in
    let given = c.exchange_all-2.ensures.callers in
    let desk : DeskState → HeldDeskState = λ d. record { desk = d; scope = c.self.inside.scope } in
    rw p.1
    (ap desk c.in_err-answer.ensures.same ∙ c.self.view_is, all_kept ledger_of with_ledger (λ h l. refl) hits cs between spare before now count gone taken (λ h l m. refl) (λ h. refl) after given (Err told) (tt, c.in_err-answer.ensures.kept))

pub returns-clause-renewed : goal.returns-clause-renewed
returns-clause-renewed c =
    let held = c.if-not-has_all.ensures.decides.0 refl in
    let same = c.has_all.ensures.same in
    let cs = callers_of c.args.callers.now in
    let between = callers_of c.exchange_all.new.callers in
    let spare = c.in_ok-ledgers.ledgers.items in
    let before = c.exchange_all.new.ledgers.items in
    let now = c.renew_over-answer.new.ledgers.items in
    let hits = c.args.renewal.hits in
    let shares : length c.self.inside.desk.book.totals.shares ≡ length c.args.self.now.desk.book.totals.shares = ap (λ (h : HeldDeskState). length h.desk.book.totals.shares) c.self.view_is in
    let count : length spare ≡ length cs = c.in_ok-ledgers.ensures.count ∙ (shares ∙ (sym held.count ∙ length-map cs ledger_of)) in
    let gone : between ≡ with_each with_ledger cs spare = c.exchange_all.ensures.callers ∙ ap (λ (hs : List HeldCallerState). with_each with_ledger hs spare) same in
    let taken : before ≡ ledgers_of cs = c.exchange_all.ensures.ledgers ∙ ap ledgers_of same in
    let after = callers_of c.exchange_all-2.new.callers in
    let given = c.exchange_all-2.ensures.callers in
    let renewed : (now ≡ map (renewed_ledger hits) before) × Unit {0} = (c.in_ok-answer.ensures.ledgers, tt) in
    let own : HeldDeskState = record { desk = c.self.inside.desk; scope = c.self.inside.scope } in
    let new : HeldDeskState = record { desk = c.renew_over-answer.new.self; scope = c.self.inside.scope } in
    let again = c.args.renewal.again.now in
    let held_own : AreHeld own.desk.book.totals (ledgers_of cs) = subst (λ (h : HeldDeskState). AreHeld h.desk.book.totals (ledgers_of cs)) (sym c.self.view_is) held in
    let many : length before ≡ length cs = ap length taken ∙ length-map cs ledger_of in
    let left : map ledger_of after ≡ now =
    ledgers_after ledger_of with_ledger (λ h l. refl) hits cs between spare before now count gone taken after given (same_count ledger_of with_ledger (λ h l. refl) hits cs between spare before now count gone taken (Ok tt) renewed) in
    let fresh = fresh_is again hits own.desk.book new.desk.book (ledgers_of cs) c.book.ensures.book held_own c.in_ok-answer.ensures.renewed in
    let anew : DeskBeginsAnew own cs again hits new after = record {
      held = held_own;
      passes = subst (λ (n : ℕ). n < own.desk.book.limits.history) many c.in_ok-answer.ensures.passes;
      renewed = c.in_ok-answer.ensures.renewed;
      means = c.in_ok-answer.ensures.means;
      links = c.in_ok-answer.ensures.links;
      each = all_renewed ledger_of with_ledger (λ h l. refl) hits cs between spare before now count gone taken (λ h l m. refl) after given (Ok tt) renewed;
      all = subst (AreHeld new.desk.book.totals) (sym left) c.in_ok-answer.ensures.held;
      fresh = subst (λ (n : ℕ). IsFresh new.desk.book n) (length-map cs ledger_of) fresh;
      shown = c.in_ok-answer.ensures.shown;
      scope = refl;
    } in
    subst (λ (h : HeldDeskState). DeskBeginsAnew h cs again hits new after) c.self.view_is anew
