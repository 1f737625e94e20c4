-- Legal replies, one event after another.
use Rattle.std.specs.Prelude.{◌≡◌, ◌⊎◌, ℕ, ◌+◌, ◌<◌, true, List, [], ◌∷◌, length}
use Rattle.mh_type.specs.Fits.{Fits}
use Rattle.mh_type.specs.declared.value.Value.{Value}
use Rattle.mh_tree.specs.Meaning.{mean, steps}
use Rattle.mh_eval.specs.Entered.{EntersPlain}
use Rattle.mh_site.specs.Defined.{DefinitionData, site_at}
use Rattle.mh_site.specs.Links.{links}
use Rattle.mh_core.specs.declared.event.Event.{Event}
use Rattle.mh_core.specs.declared.event.Event.TheVariants.{Call, Flush, Target, Invalidate, Snapshot, Publish, Install}
use Rattle.mh_core.specs.declared.record.Record.{Record}
use Rattle.mh_core.specs.declared.record.Record.TheVariants.{Flushed, Targeted, Invalidated, Snapped, Published, Installed}
use Rattle.mh_core.specs.declared.refusal.Refusal.{Refusal}
use Rattle.mh_core.specs.declared.refusal.Refusal.TheVariants.{NoWorker, NoSite, WrongType, HistoryFull, LedgerFull}
use Rattle.mh_core.specs.declared.reply.Reply.{Reply}
use Rattle.mh_core.specs.declared.reply.Reply.TheVariants as answers
use Rattle.mh_core.specs.Histories.{records}
use Rattle.mh_core.specs.Hits.{hits, unflushed, moved}
use Rattle.mh_core.specs.Limits.{LimitsData}
use Rattle.mh_core.specs.Installations.{environment_of_links, linked, linked_sites, report}
use Rattle.mh_core.specs.Records.{base, environment_of_bases, snapshots, plans}
use Rattle.mh_core.specs.Rows.{tests_of_record}
use Rattle.mh_base.specs.Tests.{Tests, test, only, Refuses, Passes}
use Rattle.mh_core.specs.Refusals.{memory_last}

-- the constant parts: the definition, the number of workers, the limits
pub record Setting : Type 0 where
  pub definition : DefinitionData
  pub workers : ℕ
  pub limits : LimitsData

-- the view of a machine that contracts use
pub record MachineState : Type 0 where
  pub setting : Setting
  pub history : List Event

-- a machine before its first event
abbrev pub opened_machine : DefinitionData → ℕ → LimitsData → MachineState
opened_machine d workers limits = record { setting = record { definition = d; workers = workers; limits = limits }; history = [] }

-- the machine after one more event
abbrev pub extended : MachineState → Event → MachineState
extended m e = record { setting = m.setting; history = e ∷ m.history }

-- the meaning of the site's base tree, over base trees, with the steps of its linked tree, over linked trees
abbrev pub answer_of_call : DefinitionData → List Record → ℕ → List Value → Reply
answer_of_call d r s a = answers.Called (mean (environment_of_bases d r) (base d r s).tree a) (steps (environment_of_links d r) (linked d r s).tree a)

-- the tests of a call that do not depend on the history: the worker, the site, the arguments
abbrev pub callee_tests : DefinitionData → ℕ → ℕ → ℕ → List Value → Tests Refusal → Tests Refusal
callee_tests d workers w s a later =
    test (w < workers) (only NoWorker)
    (test (s < length d.sites) (only NoSite)
    (test (Fits (site_at d s).method_type a) (only WrongType) later))

module _ (x : Setting) where
  -- the worker may count the hit of a call, if it hits a link
  abbrev pub HasRoom : List Event → ℕ → ℕ → List Value → Type 0
  HasRoom h w s a = (j : ℕ) → j < length (links x.definition) → hits x.definition s a j ≡ true → unflushed x.definition h w j < x.limits.ledger

  -- the tests of a record after those of a history
  abbrev pub record_tests : List Event → Record → Tests Refusal
  record_tests h e = tests_of_record x.definition x.limits (length h) (records x.definition h) e

  -- the tests of an event after a history, in order
  abbrev pub tests : List Event → Event → Tests Refusal
  tests h (Call w s a) =
      callee_tests x.definition x.workers w s a
      (test (length h < x.limits.history) (only HistoryFull)
      (test (HasRoom h w s a) (only LedgerFull) memory_last))
  tests h (Flush w) = test (w < x.workers) (only NoWorker) (record_tests h (Flushed w (moved x.definition h w)))
  tests h (Target s tree) = record_tests h (Targeted s tree)
  tests h (Invalidate points) = record_tests h (Invalidated points)
  tests h Snapshot = record_tests h Snapped
  tests h (Publish n plan) = record_tests h (Published n plan)
  tests h (Install m) = record_tests h (Installed m)

  -- the reply to an accepted event
  abbrev pub answer : List Event → Event → Reply
  answer h (Call w s a) = answer_of_call x.definition (records x.definition h) s a
  answer h (Flush w) = answers.Done
  answer h (Target s tree) = answers.Done
  answer h (Invalidate points) = answers.Done
  answer h Snapshot = answers.Taken (snapshots (records x.definition h) + 1)
  answer h (Publish n plan) = answers.Published (plans (records x.definition h) + 1) plan
  answer h (Install m) = answers.Installed (report x.definition (records x.definition h) m)

  -- a call that evaluates no node with String in its type, also in invoked trees, so that it does not allocate
  abbrev pub TakesNoMemory : List Event → Event → Type 0
  TakesNoMemory h (Call w s a) = let r = records x.definition h in EntersPlain (linked_sites x.definition r) (linked x.definition r s).tree a
  TakesNoMemory h _ = ⊥

  -- the event passes its tests, has its reply and is added to the history; or it is refused, and is not added
  abbrev pub Step : List Event → Event → Reply → List Event → Type 0
  Step h e reply new =
      (Passes (tests h e) × (reply ≡ answer h e) × (new ≡ e ∷ h))
      ⊎ ((told : Refusal) × Refuses (tests h e) told × (reply ≡ answers.Refused told) × (new ≡ h))

  -- one event after another
  abbrev pub Run : List Event → List Event → List Reply → List Event → Type 0
  Run h [] [] new = new ≡ h
  Run h (e ∷ es) (reply ∷ replies) new = (mid : List Event) × Step h e reply mid × Run mid es replies new
  Run h [] (reply ∷ replies) new = ⊥
  Run h (e ∷ es) [] new = ⊥
