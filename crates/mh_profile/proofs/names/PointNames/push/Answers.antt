use Rattle.std.proofs.Common.{◌≡◌, false, map, string_bytes}
use Rattle.std.specs.List.{list_any}
use Rattle.std.specs.Str.{bytes_eq}
use Rattle.mh_profile.proofs.NameTexts.{new_last}
use Rattle.mh_profile.proofs.names.PointNames.push.Goals as goal

pub returns-clause-ok : goal.returns-clause-ok
returns-clause-ok c =
    let new : list_any (bytes_eq (string_bytes c.in_ok-name.name)) (map string_bytes c.self.inside.set.keys) ≡ false = rw (c.in_ok-name.ensures.ok, c.self.view_is) c.requires.new in
    rw (← c.self.view_is, ← c.in_ok-name.ensures.ok, c.in_ok-insert_full.ensures.keys) (new_last c.self.inside.set.keys c.in_ok-name.name new)
