use Rattle.std.proofs.Common.{◌≡◌, ◌∙◌, List, ap, length, map, subst, sym}
use Rattle.std.specs.List.{All, range_with_len}
use Rattle.std.proofs.lemmas.Simd.{map-map}
use Rattle.mh_ledger.specs.Laws.{opened_lengths}
use Rattle.mh_ledger.specs.Ledgers.{LedgerState, opened_ledger}
use Rattle.mh_site.specs.Links.{links}
use Rattle.mh_core.specs.Books.{BookState, opened_book}
use Rattle.mh_share.specs.Callers.{caller_by}
use Rattle.mh_share.proofs.desk.Desk.open.Goals as goal

pub callers-requires : goal.callers-requires
callers-requires c =
    let d = c.args.definition.now in
    let shown = c.in_ok-shown.ensures.value ∙ c.in_ok-book.ensures.book in
    let each = subst (λ (ls : List LedgerState). All (λ (l : LedgerState). length l.unflushed ≡ length (links d)) ls) (sym c.in_ok-book.ensures.ledgers) (opened_lengths (length (links d)) c.args.limits.ledger c.args.workers) in
    record { links = subst (λ (b : BookState). All (λ (l : LedgerState). length l.unflushed ≡ length (links b.definition)) c.in_ok-book.ledgers.items) (sym shown) each }

pub returns-clause-callers : goal.returns-clause-callers
returns-clause-callers c =
    let d = c.args.definition.now in
    let b = opened_book d c.args.workers c.args.limits in
    let opened = opened_ledger (length (links d)) c.args.limits.ledger in
    c.in_ok-callers.ensures.value
    ∙ (ap (λ (x : BookState). map (caller_by x) c.in_ok-book.ledgers.items) (c.in_ok-shown.ensures.value ∙ c.in_ok-book.ensures.book)
    ∙ (ap (map (caller_by b)) c.in_ok-book.ensures.ledgers ∙ map-map (caller_by b) opened (range_with_len 0 c.args.workers)))
