-- Histories: the accepted events, newest first.
use Rattle.std.specs.Prelude.{List, [], ◌∷◌}
use Rattle.std.specs.Coded.{Coded, coded_list}
use Rattle.mh_site.specs.Defined.{DefinitionData}
use Rattle.mh_core.specs.contracts.event.Event as event
use Rattle.mh_core.specs.declared.event.Event.{Event}
use Rattle.mh_core.specs.declared.event.Event.TheVariants.{Call, Flush, Target, Invalidate, Snapshot, Publish, Install}
use Rattle.mh_core.specs.declared.record.Record.{Record}
use Rattle.mh_core.specs.declared.record.Record.TheVariants.{Flushed, Targeted, Invalidated, Snapped, Published, Installed}
use Rattle.mh_core.specs.Hits.{moved}

-- the records of a history: its events other than calls, a flush with the hits that it moves
abbrev pub records : DefinitionData → List Event → List Record
records d [] = []
records d (Call w s a ∷ h) = records d h
records d (Flush w ∷ h) = Flushed w (moved d h w) ∷ records d h
records d (Target s tree ∷ h) = Targeted s tree ∷ records d h
records d (Invalidate points ∷ h) = Invalidated points ∷ records d h
records d (Snapshot ∷ h) = Snapped ∷ records d h
records d (Publish n plan ∷ h) = Published n plan ∷ records d h
records d (Install m ∷ h) = Installed m ∷ records d h

-- the event of a record
abbrev pub event_of : Record → Event
event_of (Flushed w hits) = Flush w
event_of (Targeted s tree) = Target s tree
event_of (Invalidated points) = Invalidate points
event_of Snapped = Snapshot
event_of (Published n plan) = Publish n plan
event_of (Installed m) = Install m

abbrev pub coded_events : Coded (List Event)
coded_events = coded_list event.the_row.coded
