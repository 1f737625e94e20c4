-- The one list of controls, oldest first: its book, and the effect of a step that adds to it.
use Rattle.std.specs.Prelude.{ℕ, ◌≡◌, ◌==◌, true, List, [], ◌∷◌, ◌++◌, length, MatchBool}
use Rattle.std.specs.Coded.{Coded, coded_list}
use Rattle.logbook.specs.Pages.{Cell, Step, View, Book, Named}
use Rattle.mh_site.specs.contracts.control.Control as control
use Rattle.mh_site.specs.declared.control.Control.{Control}

-- The first word is the length of the list. A book has two words, of which this one leaves the second at 0
pub record IsKept (cells : List Cell) (log : List Control) : Type 0 where
  pub words : cells ≡ (length log, true) ∷ (0, true) ∷ []

-- the word that counts the controls of a book
abbrev pub head_of : Book → Named
head_of b = record { tracked = true; key = 0; book = b }

-- the control was added to all that had been seen; or the list was longer, and was seen
abbrev pub Adds : Step Control → View Control ℕ → ℕ → View Control ℕ → Type 0
Adds s v found w = MatchBool (found == s.old) (w.0 ≡ v.0 ++ s.ask ∷ []) (length w.0 ≡ found)

abbrev pub coded_controls : Coded (List Control)
coded_controls = coded_list control.the_row.coded
