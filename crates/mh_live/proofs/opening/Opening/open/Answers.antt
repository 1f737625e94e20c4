use Rattle.std.proofs.Common.{arith, ◌≡◌, ◌∙◌, List, ap, length, map, subst, sym}
use Rattle.std.specs.List.{All}
use Rattle.std.proofs.lemmas.List.{get_or-map, length-map}
use Rattle.std.proofs.lemmas.Simd.{map-map}
use Rattle.mh_ledger.specs.Laws.{opened_lengths}
use Rattle.mh_ledger.specs.Ledgers.{AreHeld, LedgerState, TotalsState}
use Rattle.mh_site.specs.Defined.{DefinitionData}
use Rattle.mh_site.specs.Links.{links}
use Rattle.mh_core.specs.Books.{BookState, opened_book}
use Rattle.mh_live.specs.Openings.{OpeningState}
use Rattle.mh_live.specs.Passes.{PassState, new_pass, new_passes}
use Rattle.mh_live.specs.declared.opening.Seat.{Seat}
use Rattle.mh_live.proofs.Fresh.{ledgers_back, passes_are}
use Rattle.mh_live.proofs.opening.Opening.open.Goals as goal

pub seat_all-requires-clause-links : goal.seat_all-requires-clause-links
seat_all-requires-clause-links g c =
    let d = c.self.inside.book.definition in
    let ls = c.self.inside.ledgers.items in
    let all : All (λ (l : LedgerState). length l.unflushed ≡ length (links d)) ls = subst (λ (ms : List LedgerState). All (λ (m : LedgerState). length m.unflushed ≡ length (links d)) ms) (sym c.self.invariant.ledgers_are) (opened_lengths (length (links d)) c.self.inside.book.limits.ledger c.self.inside.workers) in
    let same = ap (λ (e : DefinitionData). length (links e)) (ap (λ (o : OpeningState). o.definition) c.self.view_is ∙ c.requires.definition) in
    let seated = subst (All (λ (l : LedgerState). length l.unflushed ≡ length (links d))) (sym c.in_ok-seats.ensures.ledgers) all in
    λ k s h.
    let there = get_or-map (λ (x : Seat). x.ledger) c.in_ok-seats.seats.items k s s.ledger h in
    ap (λ (l : LedgerState). length l.unflushed) (sym there)
    ∙ (seated k s.ledger (omega (arith, h, length-map c.in_ok-seats.seats.items (λ (x : Seat). x.ledger))) ∙ same)

seated : (xs : List Seat) (ls : List LedgerState) → map (λ (s : Seat). s.ledger) xs ≡ ls → map (λ (s : Seat). new_pass s.ledger) xs ≡ map new_pass ls
seated xs ls h = sym (map-map new_pass (λ (s : Seat). s.ledger) xs) ∙ ap (map new_pass) h

pub returns-in-Ok-clause-passes : goal.returns-in-Ok-clause-passes
returns-in-Ok-clause-passes g c =
    c.in-Ok.ensures.passes
    ∙ (seated c.in_ok-seats.seats.items c.self.inside.ledgers.items c.in_ok-seats.ensures.ledgers
    ∙ (ap (λ (ls : List LedgerState). map new_pass ls) c.self.invariant.ledgers_are
    ∙ (passes_are c.self.inside.book.definition c.self.inside.book.limits.ledger c.self.inside.workers
    ∙ ap (λ (o : OpeningState). new_passes o.definition o.limits.ledger o.workers) c.self.view_is)))

pub returns-in-Ok-clause-held : goal.returns-in-Ok-clause-held
returns-in-Ok-clause-held g c =
    let o = c.args.self in
    let ledgers = c.self.inside.ledgers.items in
    let totals = ap (λ (b : BookState). b.totals) c.self.invariant.book ∙ ap (λ (p : OpeningState). (opened_book p.definition p.workers p.limits).totals) c.self.view_is in
    let made = c.in-Ok.ensures.passes ∙ seated c.in_ok-seats.seats.items ledgers c.in_ok-seats.ensures.ledgers in
    let back = ap (λ (ps : List PassState). map (λ (p : PassState). p.ledger) ps) made ∙ ledgers_back ledgers in
    subst (λ (ls : List LedgerState). AreHeld (opened_book o.definition o.workers o.limits).totals ls) (sym back) (subst (λ (t : TotalsState). AreHeld t ledgers) totals c.self.invariant.held)
