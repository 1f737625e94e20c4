-- Trees of sites for C.
use Rattle.std.specs.Prelude.{◌≡◌, ◌⊎◌, ◌<◌, ℕ, List, length}
use Rattle.mh_core.specs.Books.{BookState}
use Rattle.mh_core.specs.Records.{base}
use Rattle.mh_json.specs.TreeData.{tree_text}
use Rattle.mhlink_c.specs.Statuses.{no_memory}
use Rattle.mhlink_c.specs.declared.failure.Failure.{Failure}
use Rattle.mhlink_c.specs.declared.failure.Failure.TheVariants.{Unknown}

abbrev pub IsSiteOf : BookState → ℕ → Type 0
IsSiteOf b s = s < length b.definition.sites

-- the tree of its last retargeting, else the opening one, as JSON
abbrev pub tree_of_site : BookState → ℕ → List ℕ
tree_of_site b s = tree_text b.definition (base b.definition b.records s).tree

-- the site does not exist, or memory ran out
abbrev pub HasNoTree : BookState → ℕ → Failure → Type 0
HasNoTree b s e = ((e ≡ Unknown) × (IsSiteOf b s → ⊥)) ⊎ (e ≡ no_memory)
