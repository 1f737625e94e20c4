use Rattle.std.proofs.Common.{[], ◌∷◌}
use Rattle.serde_json.specs.View.{view}
use Rattle.mh_explain.specs.Unread.{script_object, definition_object, point_objects, site_objects, link_objects, limits_object, offered_objects}
use Rattle.mh_explain.proofs.Unreads.{joined, joined_none}
use Rattle.mh_explain.proofs.unread.UnreadKeys.add_script.Goals as goal

pub returns : goal.returns
returns c =
    let d = view c.args.script.now in
    let links = link_objects c.args.version in
    let found = c.add_objects-7.new.self.first in
    let offered = joined d offered_objects [] c.add_objects-6.new.self.first found found c.in_ok-add_objects-7.ensures.first (joined_none d found) in
    let limits = joined d limits_object (offered_objects ∷ []) c.add_objects-5.new.self.first c.add_objects-6.new.self.first found c.in_ok-add_objects-6.ensures.first offered in
    let linked = joined d links (limits_object ∷ offered_objects ∷ []) c.add_objects-4.new.self.first c.add_objects-5.new.self.first found (rw c.link_keys.ensures.value at c.in_ok-add_objects-5.ensures.first) limits in
    let sites = joined d site_objects (links ∷ limits_object ∷ offered_objects ∷ []) c.add_objects-3.new.self.first c.add_objects-4.new.self.first found c.in_ok-add_objects-4.ensures.first linked in
    let points = joined d point_objects (site_objects ∷ links ∷ limits_object ∷ offered_objects ∷ []) c.add_objects-2.new.self.first c.add_objects-3.new.self.first found c.in_ok-add_objects-3.ensures.first sites in
    let definition = joined d definition_object (point_objects ∷ site_objects ∷ links ∷ limits_object ∷ offered_objects ∷ []) c.add_objects.new.self.first c.add_objects-2.new.self.first found c.in_ok-add_objects-2.ensures.first points in
    record {
      first = joined d script_object (definition_object ∷ point_objects ∷ site_objects ∷ links ∷ limits_object ∷ offered_objects ∷ []) c.args.self.now.first c.add_objects.new.self.first found c.in_ok-add_objects.ensures.first definition;
    }
