-- The rule over the published world.
use Rattle.std.specs.Prelude.{ℕ, ◌≡◌, List, [], ◌∷◌, get_or}
use mathlib.Core.Option.{some}
use mathlib.Core.List.{IsPrefix}
use lib.ListN.{get_elem?}
use Rattle.logbook.specs.Pages.{Book}
use Rattle.mh_site.specs.Defined.{DefinitionData}
use Rattle.mh_site.specs.Worlds.{WorldState, opened, replay}
use Rattle.mh_site.specs.declared.control.Control.{Control}
use Rattle.mh_core.specs.Standing.{AreStanding}
use Rattle.mh_live.specs.declared.published.Published.{Published}
use Rattle.mh_live.specs.declared.published.View.{View}

-- the world after these controls, oldest first
abbrev pub world_after : DefinitionData → List Control → WorldState
world_after d controls = replay (opened d) controls

-- the world is the replay of its list, which is a prefix of the list of this book, and calls can run its trees
pub record Stands (book : Book) (d : DefinitionData) (x : Published) : Type 0 where
  pub book_is : x.past.book ≡ book
  pub names_are : x.past.names ≡ []
  pub replays : x.world ≡ world_after d x.past.log
  pub standing : AreStanding d x.world

-- the list of the world that a reader entered last, or the empty list before the first
abbrev pub last_entered : View → List Control
last_entered v = get_or v.entered 0 []

-- the published list begins with all that each reader has seen
abbrev pub Keeps : Book → DefinitionData → Published → List View → Type 0
Keeps book d x views = Stands book d x × ((seat : ℕ) (v : View) → get_elem? views seat ≡ some v → IsPrefix (last_entered v) x.past.log)

-- the published list after the step is entered, once, and begins with all that the reader had seen
abbrev pub Looks : Book → DefinitionData → View → Published → Published → View → Type 0
Looks book d v x y w = Stands book d y × (w.entered ≡ y.past.log ∷ v.entered) × IsPrefix (last_entered v) y.past.log

-- a reader that has entered no world
abbrev pub newcomer : View
newcomer = record { entered = [] }
