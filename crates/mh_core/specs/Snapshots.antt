-- The snapshots that a book stores.
use Rattle.std.specs.Prelude.{ℕ, Bool, List, [], ◌∷◌, map, length, refl}
use Rattle.std.specs.Coded.{Coded, code_by, coded×, coded_ℕ, coded_bool, coded_list}
use Rattle.mh_site.specs.Defined.{DefinitionData}
use Rattle.mh_site.specs.Links.{links}
use Rattle.mh_core.specs.declared.record.Record.{Record}
use Rattle.mh_core.specs.declared.record.Record.TheVariants.{Flushed, Targeted, Invalidated, Snapped, Published, Installed}
use Rattle.mh_core.specs.Records.{numbers, version, valid_points, total}

-- the total of each link, the validity of the points, and the number of retargetings of each site
pub record SnapshotState : Type 0 where
  pub totals : List ℕ
  pub valid : List Bool
  pub versions : List ℕ

-- a snapshot after these records
abbrev pub snapshot_of : DefinitionData → List Record → SnapshotState
snapshot_of d r = record { totals = map (total r) (numbers (length (links d))); valid = valid_points d r; versions = map (version r) (numbers (length d.sites)) }

-- the snapshots that these records took, newest first
abbrev pub snapshots_of : DefinitionData → List Record → List SnapshotState
snapshots_of d [] = []
snapshots_of d (Flushed w hits ∷ r) = snapshots_of d r
snapshots_of d (Targeted t tree ∷ r) = snapshots_of d r
snapshots_of d (Invalidated points ∷ r) = snapshots_of d r
snapshots_of d (Snapped ∷ r) = snapshot_of d r ∷ snapshots_of d r
snapshots_of d (Published n plan ∷ r) = snapshots_of d r
snapshots_of d (Installed m ∷ r) = snapshots_of d r

abbrev pub coded_snapshot : Coded SnapshotState
coded_snapshot =
    code_by (List ℕ × (List Bool × List ℕ)) (coded× (coded_list coded_ℕ) (coded× (coded_list coded_bool) (coded_list coded_ℕ)))
    (λ s. (s.totals, (s.valid, s.versions))) (λ p. record { totals = p.0; valid = p.1.0; versions = p.1.1 }) (λ _. refl)
