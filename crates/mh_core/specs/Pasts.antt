-- The events of a past, newest first, by a fold.
use Rattle.std.specs.Prelude.{List, [], ◌∷◌}
use Rattle.mh_core.specs.declared.event.Event.{Event}
use Rattle.mh_core.specs.declared.event.Event.TheVariants.{Call}
use Rattle.mh_core.specs.declared.history.History.TheInside.{Inside}
use Rattle.mh_core.specs.declared.history.Past.{Past}
use Rattle.mh_core.specs.declared.history.Past.TheFolds.{fold-Past}
use Rattle.mh_core.specs.declared.history.Past.TheOpen.{Past-F, Opening, Called, Recorded}
use Rattle.mh_core.specs.Histories.{event_of}

abbrev pub events_step : Past-F (List Event) → List Event
events_step Opening = []
events_step (Called w s a before) = Call w s a ∷ before.value
events_step (Recorded entry before) = event_of entry.value ∷ before.value

abbrev pub events_of : Past → List Event
events_of = fold-Past (List Event) events_step

abbrev pub history_events : Inside → List Event
history_events h = events_of h.past.value
