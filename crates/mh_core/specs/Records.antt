-- The state after a list of records, newest first: found by looking back for the last record that decides it.
use Rattle.std.specs.Prelude.{ℕ, ◌+◌, ◌==◌, Bool, not, List, [], ◌∷◌, map, filter, length, if◌then◌else◌}
use Rattle.std.specs.List.{range_with_len}
use Rattle.mh_tree.specs.Handle.{TypedTree}
use Rattle.mh_network.specs.Sums.{amount_at}
use Rattle.mh_ledger.specs.Ledgers.{at}
use Rattle.mh_site.specs.Defined.{DefinitionData}
use Rattle.mh_site.specs.LookBack as look_back
use Rattle.mh_site.specs.declared.control.Control.{Control}
use Rattle.mh_site.specs.declared.control.Control.TheVariants as control
use Rattle.mh_core.specs.declared.record.Record.{Record}
use Rattle.mh_core.specs.declared.record.Record.TheVariants.{Flushed, Targeted, Invalidated, Snapped, Published, Installed}
use Rattle.mh_tree.specs.Environment.{Environment}
use Rattle.mh_tree.specs.Sites.{with_sites}

-- the numbers below a bound
abbrev pub numbers : ℕ → List ℕ
numbers n = range_with_len 0 n

-- the retargetings and the invalidations among records, as controls: an installation retargets no site and invalidates no point
abbrev pub plain_controls : List Record → List Control
plain_controls [] = []
plain_controls (Flushed w hits ∷ r) = plain_controls r
plain_controls (Targeted s tree ∷ r) = control.Target record { site = s; tree = tree } ∷ plain_controls r
plain_controls (Invalidated points ∷ r) = control.Invalidate points ∷ plain_controls r
plain_controls (Snapped ∷ r) = plain_controls r
plain_controls (Published n plan ∷ r) = plain_controls r
plain_controls (Installed m ∷ r) = plain_controls r

-- the tree of the site's last retargeting, otherwise the opening one (`MutableCallSite.getTarget`)
abbrev pub base : DefinitionData → List Record → ℕ → TypedTree
base d r s = look_back.base d (plain_controls r) s

-- the number of times that a site was retargeted
abbrev pub version : List Record → ℕ → ℕ
version r s = look_back.version (plain_controls r) s

-- a point is valid until an invalidation names it (`SwitchPoint.hasBeenInvalidated`)
abbrev pub is_valid : List Record → ℕ → Bool
is_valid r p = look_back.is_valid (plain_controls r) p

-- for each point, by number, whether it is valid
abbrev pub valid_points : DefinitionData → List Record → List Bool
valid_points d r = map (is_valid r) (numbers (length d.points))

-- the base tree of each site, by number
abbrev pub bases : DefinitionData → List Record → List TypedTree
bases d r = map (base d r) (numbers (length d.sites))

-- the meaning of trees after the records: an invocation means the base tree of its site
abbrev pub environment_of_bases : DefinitionData → List Record → Environment
environment_of_bases d r = with_sites (valid_points d r) (bases d r)

-- the links that were hit, each with its number of hits, given the number of hits of each link
abbrev pub hits_in : List ℕ → List (ℕ × ℕ)
hits_in counts = filter (λ p. not (p.1 == 0)) (map (λ j. (j, at counts j)) (numbers (length counts)))

-- the number of hits of a link
abbrev pub hits_of : List (ℕ × ℕ) → ℕ → ℕ
hits_of hits j = amount_at (λ p. p.0) (λ p. p.1) hits j

-- the hits of a link that the workers have flushed
abbrev pub total : List Record → ℕ → ℕ
total [] j = 0
total (Flushed w hits ∷ r) j = total r j + hits_of hits j
total (Targeted t tree ∷ r) j = total r j
total (Invalidated points ∷ r) j = total r j
total (Snapped ∷ r) j = total r j
total (Published n plan ∷ r) j = total r j
total (Installed m ∷ r) j = total r j

-- the number of snapshots taken
abbrev pub snapshots : List Record → ℕ
snapshots [] = 0
snapshots (Flushed w hits ∷ r) = snapshots r
snapshots (Targeted t tree ∷ r) = snapshots r
snapshots (Invalidated points ∷ r) = snapshots r
snapshots (Snapped ∷ r) = snapshots r + 1
snapshots (Published n plan ∷ r) = snapshots r
snapshots (Installed m ∷ r) = snapshots r

-- the number of plans published
abbrev pub plans : List Record → ℕ
plans [] = 0
plans (Flushed w hits ∷ r) = plans r
plans (Targeted t tree ∷ r) = plans r
plans (Invalidated points ∷ r) = plans r
plans (Snapped ∷ r) = plans r
plans (Published n plan ∷ r) = plans r + 1
plans (Installed m ∷ r) = plans r

-- the records before the snapshot of this number, from 1
abbrev pub past : List Record → ℕ → List Record
past [] n = []
past (Flushed w hits ∷ r) n = past r n
past (Targeted t tree ∷ r) n = past r n
past (Invalidated points ∷ r) n = past r n
past (Snapped ∷ r) n = if snapshots r + 1 == n then r else past r n
past (Published n′ plan ∷ r) n = past r n
past (Installed m ∷ r) n = past r n
