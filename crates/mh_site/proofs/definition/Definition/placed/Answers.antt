use Rattle.std.proofs.Common.{◌≡◌, inl, List, None, map, ap, subst, sym, ◌∙◌}
use Rattle.std.proofs.lemmas.Result.{err_from_is_err_and}
use Rattle.mh_site.specs.declared.point.Point.{Point}
use Rattle.mh_site.specs.declared.site.Site.{Site}
use Rattle.mh_site.specs.declared.version.Version.{Version}
use Rattle.mh_site.specs.Definitions.{site_in_order}
use Rattle.mh_site.specs.Places.{placed_fault}
use Rattle.mh_site.specs.Lawful.{IsDefinition}
use Rattle.mh_site.specs.Links.{AreNumbers, IsNumbered}
use Rattle.mh_site.specs.declared.definition.Parts.{Parts}
use Rattle.mh_site.proofs.Lawful.{lawful}
use Rattle.mh_site.proofs.Places.{given_fault, made_fault, placed_fails, placed_hold, placed_memory}
use Rattle.mh_site.proofs.definition.Definition.placed.Goals as goal

-- the parts that were tested are those that were given, and what is kept are the sites in order
made : (version : Version) (ps tested : List Point) (ss others kept : List Site) → placed_fault version tested others ≡ None → tested ≡ ps → others ≡ ss → kept ≡ map site_in_order ss
    → IsDefinition record { points = ps; sites = kept }
made version ps tested ss others kept h same alike e =
    let none : placed_fault version ps ss ≡ None = sym (ap (λ xs. placed_fault version xs ss) same) ∙ (sym (ap (λ xs. placed_fault version tested xs) alike) ∙ h) in
    subst (λ xs. IsDefinition record { points = ps; sites = xs }) (sym e) (lawful version ps ss (placed_hold version ps ss none))

-- what a definition keeps, of its parts
abbrev Keeps : Parts → Type 0
Keeps p = IsNumbered record { points = p.points; sites = p.sites } p.numbering.firsts.items p.numbering.homes.items

pub invariant_of-result : goal.invariant_of-result
invariant_of-result c =
    let same = c.from_vec-sites.ensures.value in
    subst Keeps (sym c.in_ok-parts.ensures.value) record {
      lawful = made c.args.version c.args.points _ c.args.sites _ _ c.in_ok-test.ensures.value c.as_slice.ensures.value c.as_slice-2.ensures.value
          (same ∙ (c.order_sites.ensures.value ∙ ap (map site_in_order) c.into_vec-sites.ensures.value));
      numbers = subst (λ (ss : List Site). AreNumbers ss c.in_ok-numbering.numbering.firsts.items c.in_ok-numbering.numbering.homes.items) (c.deref.ensures.value ∙ sym same) c.in_ok-numbering.ensures.value;
    }

pub returns-in_err-test-clause-refused : goal.returns-in_err-test-clause-refused
returns-in_err-test-clause-refused c =
    let p = err_from_is_err_and c.from_residual.result c.from_residual.ensures.1 in
    let told = given_fault c.args.version _ c.args.points _ c.args.sites _ c.as_slice.ensures.value c.as_slice-2.ensures.value c.in_err-test.ensures.value in
    rw (p.1, p.2) (inl (made_fault c.args.version c.args.points c.args.sites _ told))

pub returns-in_err-test-clause-told : goal.returns-in_err-test-clause-told
returns-in_err-test-clause-told c =
    let p = err_from_is_err_and c.from_residual.result c.from_residual.ensures.1 in
    let told = given_fault c.args.version _ c.args.points _ c.args.sites _ c.as_slice.ensures.value c.as_slice-2.ensures.value c.in_err-test.ensures.value in
    rw (p.1, p.2) (placed_fails c.args.version c.args.points c.args.sites _ told)

pub returns-in_err-numbering-clause-told : goal.returns-in_err-numbering-clause-told
returns-in_err-numbering-clause-told c =
    let p = err_from_is_err_and c.from_residual-in_err-numbering.result c.from_residual-in_err-numbering.ensures.1 in
    let none = given_fault c.args.version _ c.args.points _ c.args.sites None c.as_slice.ensures.value c.as_slice-2.ensures.value c.in_ok-test.ensures.value in
    rw p.1 (placed_memory c.args.version c.args.points c.args.sites _ none p.2)

pub returns-in_err-parts-clause-told : goal.returns-in_err-parts-clause-told
returns-in_err-parts-clause-told c =
    let p = err_from_is_err_and c.from_residual-in_err-parts.result c.from_residual-in_err-parts.ensures.1 in
    let none = given_fault c.args.version _ c.args.points _ c.args.sites None c.as_slice.ensures.value c.as_slice-2.ensures.value c.in_ok-test.ensures.value in
    rw p.1 (placed_memory c.args.version c.args.points c.args.sites _ none p.2)
