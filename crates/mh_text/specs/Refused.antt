-- The events of a run that were refused.
use Rattle.std.specs.Prelude.{◌≡◌, ◌⊎◌, ℕ, ◌+◌, List, [], ◌∷◌, ◌++◌, Option, Some, None}
use Rattle.mh_core.specs.declared.refusal.Refusal.{Refusal}
use Rattle.mh_core.specs.declared.reply.Reply.{Reply}
use Rattle.mh_core.specs.declared.reply.Reply.TheVariants as reply
use Rattle.mh_text.specs.Steps.{Told}
use Rattle.mh_json.specs.declared.refused.RefusedEvent.{RefusedEvent}

-- the reason why an event was refused, if it was
abbrev pub refusal_in : Reply → Option Refusal
refusal_in (reply.Refused told) = Some told
refusal_in _ = None

-- the event with this number, if it was refused
abbrev pub refused_at : ℕ → Option Refusal → List RefusedEvent
refused_at n (Some told) = record { event = n; refusal = told } ∷ []
refused_at n None = []

-- the refused events of a run with these replies, after n events
abbrev pub refused_behind : ℕ → List Told → List RefusedEvent
refused_behind n [] = []
refused_behind n (told ∷ rest) = refused_at (n + 1) (refusal_in told.1) ++ refused_behind (n + 1) rest

-- all refused events of a run, or none of them, if memory ran out for one
abbrev pub AreRefused : List Told → List RefusedEvent → Type 0
AreRefused replies events = (events ≡ []) ⊎ (events ≡ refused_behind 0 replies)
