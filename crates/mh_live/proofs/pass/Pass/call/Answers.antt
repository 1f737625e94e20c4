use Rattle.std.proofs.Common.{◌≡◌, ◌<◌, ◌≤◌, ℕ, Bool, false, List, inl, inr, length, arith, ap, subst, sym, ◌∙◌}
use Rattle.std.specs.Prelude.{IfSome, IsTrue, Option, Some, None, true, ◌↔◌}
use Rattle.std.proofs.lemmas.Bool.{cases_lt}
use Rattle.mh_type.specs.declared.value.Value.{Value}
use Rattle.mh_ledger.specs.Ledgers.{IsLedger, LedgerState, at}
use Rattle.mh_site.specs.Defined.{DefinitionData}
use Rattle.mh_site.specs.Links.{links}
use Rattle.mh_core.specs.Callers.{IsCallable}
use Rattle.mh_live.specs.Passes.{PassState}
use Rattle.mh_core.specs.Hits.{IsHitLink, hits}
use Rattle.mh_live.proofs.pass.Pass.call.Goals as goal

-- the link that a call hits has as many hits as it may, where there is no room
full : (d : DefinitionData) (l : LedgerState) (s : ℕ) (a : List Value) (link : Option ℕ) (room : Bool) → IsHitLink d s a link → IsLedger l → length l.unflushed ≡ length (links d) → room ≡ false
    → IsTrue room ↔ IfSome link (λ j. at l.unflushed j < l.limit) → (j : ℕ) × ((hits d s a j ≡ true) × (at l.unflushed j ≡ l.limit))
full d l s a (Some j) room hit is count fails decides =
    let most : at l.unflushed j ≤ l.limit = is.unflushed j 0 (omega (arith, hit.0, count)) in
    (j, (hit.1.0, elim (cases_lt (at l.unflushed j) l.limit) [ inl few ↦ absurd (let has = decides.1 few in cc) | inr past ↦ omega (arith, most, past) ]))
full d l s a None room hit is count fails decides = absurd (let has = decides.1 tt in cc)

pub returns-then-not-has_room-clause-refused : goal.returns-then-not-has_room-clause-refused
returns-then-not-has_room-clause-refused g c =
    let d = g.N.ListName.definition in
    let s = c.args.site in
    let a = c.args.arguments.now in
    let l = c.self.inside.ledger in
    let is : c.self.inside.definition ≡ d = c.self.invariant.0 in
    let may = subst (λ (e : DefinitionData). IsCallable e s a) is c.in_ok-link.ensures.callable in
    let hit = subst (λ (e : DefinitionData). IsHitLink e s a c.in_ok-link.link) is c.in_ok-link.ensures.link in
    let found = full d l s a c.in_ok-link.link c.has_room.result hit c.limit-limit.ensures.ledger c.self.invariant.1 c.if-not-has_room.true c.has_room.ensures.decides in
    let same : l ≡ c.args.self.now.ledger = ap (λ (p : PassState). p.ledger) c.self.view_is in
    (may.inside, may.fits, (found.0, found.1.0, ap (λ (x : LedgerState). at x.unflushed found.0) (sym same) ∙ (found.1.1 ∙ ap (λ (x : LedgerState). x.limit) same)))
