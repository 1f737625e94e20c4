use Rattle.std.proofs.Common.{◌≡◌, ◌∙◌, ◌||◌, Bool, false, List, ℕ, ap, length, nat_lt, not, subst, sym, arith}
use Rattle.mh_site.specs.Worlds.{SiteState, state_at}
use Rattle.mh_core.specs.Books.{BookState, IsBook}
use Rattle.mh_core.specs.Installations.{kept}
use Rattle.mh_core.proofs.InstalledLinks.{sites_now, some_length, state_now}
use Rattle.mh_core.proofs.book.Book.is_concerned.Goals as goal

pub kept-requires : goal.kept-requires
kept-requires c =
    let is = subst IsBook c.self.view_is c.self.invariant in
    let same = ap (λ (b : BookState). length b.world.sites) c.self.view_is in
    record { inside = omega (arith, c.requires.inside, same, sites_now c.args.self.now is) }

pub returns-else-not-is_empty : goal.returns-else-not-is_empty
returns-else-not-is_empty c =
    let now = c.args.self.now in
    let is = subst IsBook c.self.view_is c.self.invariant in
    let links : c.kept.result.now ≡ kept now.definition now.records c.args.site =
    c.kept.ensures.value
    ∙ (ap (λ (b : BookState). (state_at b.world c.args.site).kept) c.self.view_is ∙ ap (λ (x : SiteState). x.kept) (state_now now c.args.site is c.requires.inside)) in
    let none : nat_lt 0 (length c.args.chosen.now) ≡ false = sym (some_length (length c.args.chosen.now)) ∙ ap not (sym c.is_empty.ensures ∙ c.if-not-is_empty.false) in
    record {
      value =
          ap not c.is_empty-else-not-is_empty.ensures
          ∙ (some_length (length c.kept.result.now)
          ∙ (ap (λ (js : List ℕ). nat_lt 0 (length js)) links ∙ sym (ap (λ (b : Bool). b || nat_lt 0 (length (kept now.definition now.records c.args.site))) none)));
    }
