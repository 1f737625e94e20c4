use Rattle.std.proofs.Common.{◌≡◌, ◌∙◌, ◌++◌, ◌&&◌, Bool, List, ℕ, false, ap, length, not, slice_index_or, subst, sym, arith}
use Rattle.std.proofs.lemmas.List.{append-nil}
use Rattle.std.specs.List.{All}
use Rattle.mh_site.specs.Defined.{no_site}
use Rattle.mh_core.specs.Books.{IsBook}
use Rattle.mh_core.specs.Installations.{is_current}
use Rattle.mh_core.specs.Problems.{is_eligible}
use Rattle.mh_core.specs.Laws.Members.{filter_none}
use Rattle.mh_core.proofs.CachedLinks.{IsOwn, chosen_few, chosen_own}
use Rattle.mh_core.proofs.book.Book.link.Goals as goal

pub usable-requires-clause-few : goal.usable-requires-clause-few
usable-requires-clause-few c =
    let now = c.args.self.now in
    let is : IsBook now = c.kept.ensures.book in
    let few = (is.definition.sites c.args.site no_site c.requires.inside).few in
    omega (arith, ap length c.requires.chosen, chosen_few now.definition now.records c.args.plan c.args.site, few)

pub usable-requires-clause-inside : goal.usable-requires-clause-inside
usable-requires-clause-inside c =
    let now = c.args.self.now in
    let is : IsBook now = c.kept.ensures.book in
    let own = subst (All (IsOwn now.definition c.args.site)) (sym c.requires.chosen) (chosen_own now.definition now.records c.args.plan c.args.site is.definition c.requires.inside) in
    λ k e within. (own k e within).inside

pub returns-then-not-is_current-clause-left_out : goal.returns-then-not-is_current-clause-left_out
returns-then-not-is_current-clause-left_out c =
    let now = c.args.self.now in
    let js : List ℕ = c.args.chosen.now in
    let skips : is_current now.records c.args.plan c.args.site ≡ false = sym c.is_current.ensures.value ∙ c.if-not-is_current.true in
    let none = filter_none (λ j. is_current now.records c.args.plan c.args.site && not (is_eligible now.definition now.records j)) js
    (λ k e below. ap (λ (b : Bool). b && not (is_eligible now.definition now.records (slice_index_or js k e))) skips) in
    sym (append-nil _) ∙ ap (λ (l : List ℕ). c.args.left_out.now.items ++ l) (sym none)
