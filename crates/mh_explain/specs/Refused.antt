-- What lines say about the refused events of a run.
use Rattle.std.specs.Prelude.{◌≡◌, ℕ, List, [], ◌∷◌, ◌++◌, codes, decimal}
use Rattle.mh_core.specs.Refusals.{refusal_text}
use Rattle.mh_json.specs.declared.refused.RefusedEvent.{RefusedEvent}

-- the line of a refused event
abbrev pub refused_line : RefusedEvent → List ℕ
refused_line r = codes "event " ++ (decimal r.event ++ (codes ": refused " ++ (refusal_text r.refusal ++ (10 ∷ []))))

-- lines name these refused events in order, each by its line, followed by its explanation
abbrev pub NamesRefused : List RefusedEvent → List ℕ → Type 0
NamesRefused [] lines = lines ≡ []
NamesRefused (r ∷ rest) lines = (why later : List ℕ) × (lines ≡ refused_line r ++ (why ++ later)) × NamesRefused rest later
