-- Sites read one by one, as a loop does.
use Rattle.std.proofs.Common.{◌≡◌, ℕ, ◌+◌, ◌<◌, ◌⊎◌, inl, inr, List, ◌∷◌, length, drop, get_or, map, None, Result, Ok, Err, refl, sym, ap, ◌∙◌}
use Rattle.std.proofs.lemmas.List.{at_drop_more}
use Rattle.serde_json.specs.View.{view}
use Rattle.serde_json.specs.declared.value.Value.{Value}
use Rattle.mh_site.specs.declared.version.Version.{Version}
use Rattle.mh_json.specs.declared.json.sites.Sited.{Sited}
use Rattle.mh_site.specs.Places.{out_of_memory, placed_fault, placed_made}
use Rattle.mh_site.specs.declared.place.DefinitionMisfit.{DefinitionMisfit}
use Rattle.mh_site.specs.declared.point.Point.{Point}
use Rattle.serde_json.specs.Data.{Data}
use Rattle.mh_json.specs.declared.json.scope.Scope.{Scope}
use Rattle.mh_json.specs.declared.key.Field.TheVariants as field
use Rattle.mh_json.specs.declared.key.Key.TheVariants.{Item}
use Rattle.mh_json.specs.Gives.{of_definition}
use Rattle.mh_json.specs.Misfits.{fitted, of_misfit}
use Rattle.mh_json.specs.declared.fault.InputFault.TheVariants.{NoMemory}
use Rattle.mh_json.specs.Shape.{member_of}
use Rattle.mh_json.specs.Shared.{shared_in}
use Rattle.mh_json.specs.Versions.{version_of}
use Rattle.mh_json.specs.Misreads.{MisreadData, under}
use Rattle.mh_json.specs.Script.{all_sites_of, definition_of, one_sited, point_names_of, points_of, site_of, sites_in}
use Rattle.mh_site.specs.declared.site.Site.{Site}

module _ (version : Version) (sited : Sited) (xs : List Value) (i : ℕ) where
  abbrev rest : List Value → Result Sited MisreadData
  rest ys = all_sites_of version sited i (map view ys)

  next_site : (v : Value) (total : Result Sited MisreadData) → i < length xs → v ≡ get_or xs i v → rest (drop i xs) ≡ total → rest (v ∷ drop (i + 1) xs) ≡ total
  next_site v total lt is so_far = ap (λ w. rest (w ∷ drop (i + 1) xs)) is ∙ sym (at_drop_more rest xs i v lt) ∙ so_far

  pub site_more : (v : Value) (x : Site) (total : Result Sited MisreadData) → i < length xs → v ≡ get_or xs i v → under (Item i) (site_of version sited.scope (view v)) ≡ Ok x
      → rest (drop i xs) ≡ total → all_sites_of version (one_sited sited x) (i + 1) (map view (drop (i + 1) xs)) ≡ total
  site_more v x total lt is read so_far =
      let here : rest (v ∷ drop (i + 1) xs) ≡ all_sites_of version (one_sited sited x) (i + 1) (map view (drop (i + 1) xs)) = rw read refl in
      sym here ∙ next_site v total lt is so_far

  pub site_stops : {M : Type 0} (v : Value) (e : MisreadData) (total : Result Sited MisreadData) → i < length xs → v ≡ get_or xs i v → M ⊎ (under (Item i) (site_of version sited.scope (view v)) ≡ Err e)
      → rest (drop i xs) ≡ total → M ⊎ (total ≡ Err e)
  site_stops v e total lt is (inl memory) so_far = inl memory
  site_stops v e total lt is (inr read) so_far =
      let here : rest (v ∷ drop (i + 1) xs) ≡ Err e = rw read refl in
      inr (sym (next_site v total lt is so_far) ∙ here)

-- what the parts of a definition make is refused
pub declared_fails : (d : Data) (version : Version) (points : List Point) (scope : Scope) (sited : Sited) (m : MisreadData) → member_of field.Version version_of d ≡ Ok version
    → member_of field.Points points_of d ≡ Ok points → shared_in (point_names_of points) d ≡ Ok scope → sites_in version scope d ≡ Ok sited
    → fitted of_misfit (placed_made version points sited.sites) ≡ Err m → definition_of d ≡ Err m
unfolding definition_of
declared_fails d version points scope sited m b p s t made = rw (b, p, s, t, made) refl

-- what `Definition::placed` refuses, as a misread
pub misfit_is_told : (version : Version) (points : List Point) (sites : List Site) (misfit : DefinitionMisfit) (m : MisreadData)
    → (placed_made version points sites ≡ Err misfit) ⊎ ((placed_fault version points sites ≡ None) × (misfit ≡ out_of_memory))
    → (m.fault ≡ NoMemory) ⊎ (m ≡ of_misfit misfit) → (m.fault ≡ NoMemory) ⊎ (fitted of_misfit (placed_made version points sites) ≡ Err m)
misfit_is_told version points sites misfit m refused (inl memory) = inl memory
misfit_is_told version points sites misfit m (inl made) (inr is) = inr (ap (fitted of_misfit) made ∙ ap (λ (m : MisreadData). Err m) (sym is))
misfit_is_told version points sites misfit m (inr memory) (inr is) = inl (ap (λ (m : MisreadData). m.fault) is ∙ ap (λ (m : DefinitionMisfit). of_definition m.fault) memory.1)
