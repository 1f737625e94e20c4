use Rattle.std.proofs.Common.{◌≡◌, drop, map}
use Rattle.serde_json.specs.View.{view}
use Rattle.mh_json.specs.Script.{all_sites_of}
use Rattle.mh_json.proofs.json.sites.read_sites.Given as goal

-- the sites so far, and then those that are read of the rest, are those that are read of all
abbrev pub invariant-loop-i : goal.invariant-loop-i
invariant-loop-i l =
    all_sites_of l.version l.sited l.i (map view (drop l.i l.sites)) ≡ all_sites_of l.version l.initial.sited 0 (map view l.sites)
