-- The changes that records make to a world.
use Rattle.std.specs.Prelude.{ℕ, List, [], ◌∷◌, map, filter, reverse}
use Rattle.mh_site.specs.Controls.{Relinked}
use Rattle.mh_site.specs.Defined.{DefinitionData}
use Rattle.mh_site.specs.Worlds.{WorldState, opened, replay}
use Rattle.mh_site.specs.declared.control.Control.{Control}
use Rattle.mh_site.specs.declared.control.Control.TheVariants as control
use Rattle.mh_core.specs.declared.record.Record.{Record}
use Rattle.mh_core.specs.declared.record.Record.TheVariants.{Flushed, Targeted, Invalidated, Snapped, Published, Installed}
use Rattle.mh_core.specs.Installations.{cached, concerned, is_current, usable}
use Rattle.mh_core.specs.Records.{base}

-- a concerned site that is not skipped gets the cache of its usable links
abbrev pub relinked : DefinitionData → List Record → ℕ → ℕ → Relinked
relinked d r m s = record { site = s; linked = cached d s (base d r s) (usable d r m s); kept = usable d r m s }

abbrev pub changes : DefinitionData → List Record → ℕ → List Relinked
changes d r m = map (relinked d r m) (filter (is_current r m) (concerned d r m))

-- the changes that the records make to a world, newest first
abbrev pub controls : DefinitionData → List Record → List Control
controls d [] = []
controls d (Flushed w hits ∷ r) = controls d r
controls d (Targeted s tree ∷ r) = control.Target record { site = s; tree = tree } ∷ controls d r
controls d (Invalidated points ∷ r) = control.Invalidate points ∷ controls d r
controls d (Snapped ∷ r) = controls d r
controls d (Published n plan ∷ r) = controls d r
controls d (Installed m ∷ r) = control.Install (changes d r m) ∷ controls d r

-- the world after the records
abbrev pub world : DefinitionData → List Record → WorldState
world d r = replay (opened d) (reverse (controls d r))
