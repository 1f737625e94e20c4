use Rattle.std.proofs.Common.{◌≡◌, ◌∙◌, inl, inr, List, Ok, ap, sym, of_calls}
use Rattle.std.proofs.lemmas.Result.{err_from_is_err_and}
use Rattle.serde_json.specs.View.{view}
use Rattle.mh_json.specs.declared.key.Field.TheVariants as field
use Rattle.mh_json.specs.Shape.{member_of}
use Rattle.mh_json.specs.Script.{point_names_of, points_of}
use Rattle.mh_json.specs.Shared.{shared_in}
use Rattle.mh_json.specs.Versions.{version_of}
use Rattle.mh_json.proofs.Charges.{no_charges}
use Rattle.mh_json.proofs.SitesInOrder.{declared_fails}
use Rattle.mh_json.proofs.json.script.read_definition.Goals as goal

pub define-requires : goal.define-requires
define-requires c = record {
  charges = no_charges c.in_ok-version.version c.in_ok-scope.scope (view c.args.value.now) _ c.in_ok-scope-2.ensures.value;
}

pub returns-in_err-definition : goal.returns-in_err-definition
returns-in_err-definition c =
    let p = err_from_is_err_and c.from_residual-in_err-definition.result c.from_residual-in_err-definition.ensures.1 in
    let definition = view c.args.value.now in
    let version = c.in_ok-version.version in
    let points = c.in_ok-points.points in
    let names : c.in_ok-names.names ≡ point_names_of points = c.in_ok-names.ensures.value ∙ ap point_names_of c.as_slice.ensures.value in
    let of_version : member_of field.Version version_of definition ≡ Ok version = c.in_ok-version.ensures.value version_of (search of_calls) in
    let of_points : member_of field.Points points_of definition ≡ Ok points = c.in_ok-points.ensures.value points_of (search of_calls) in
    record {
      value = rw (p.1, p.2) (elim c.in_err-definition.ensures.value [
        | inl memory ↦ inl memory
        | inr made ↦
            inr
            (declared_fails definition version points c.in_ok-scope.scope c.in_ok-scope-2.field-0 _ of_version of_points
            (ap (λ (ns : List (List _)). shared_in ns definition) (sym names) ∙ c.in_ok-scope.ensures.value) c.in_ok-scope-2.ensures.value made)
      ]);
    }
