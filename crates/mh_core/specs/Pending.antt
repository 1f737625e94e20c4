-- Changes that a book has prepared: all tests passed, and all memory is allocated.
use Rattle.std.specs.Prelude.{◌≡◌, ℕ, true, Option, Some, None, refl}
use Rattle.std.specs.Coded.{Coded, code_by, coded×, coded_ℕ}
use Rattle.mh_site.specs.declared.control.Control.{Control}
use Rattle.mh_site.specs.declared.control.Control.TheVariants as control
use Rattle.mh_core.specs.contracts.book.change.Effect as effects
use Rattle.mh_core.specs.contracts.record.Record as entries
use Rattle.mh_core.specs.contracts.reply.Reply as replies
use Rattle.mh_core.specs.declared.book.change.Effect.{Effect}
use Rattle.mh_core.specs.declared.book.change.Effect.TheVariants as effect
use Rattle.mh_core.specs.declared.record.Record.{Record}
use Rattle.mh_core.specs.declared.record.Record.TheVariants.{Flushed, Targeted, Invalidated, Snapped, Published, Installed}
use Rattle.mh_core.specs.declared.reply.Reply.{Reply}
use Rattle.mh_core.specs.Books.{BookState, MayTake, reply_to}
use Rattle.mh_core.specs.Replayed.{changes}
use Rattle.mh_core.specs.Snapshots.{snapshot_of}

-- the record to append, its effect besides the record, its reply, and the number of calls that were accepted besides the records
pub record PendingState : Type 0 where
  pub entry : Record
  pub effect : Effect
  pub reply : Reply
  pub calls : ℕ

-- a record other than a flush: a flush moves the hits of a ledger
abbrev pub IsNoFlush : Record → Type 0
IsNoFlush (Flushed w hits) = ⊥
IsNoFlush (Targeted s tree) = Unit {0}
IsNoFlush (Invalidated points) = Unit {0}
IsNoFlush Snapped = Unit {0}
IsNoFlush (Published n plan) = Unit {0}
IsNoFlush (Installed m) = Unit {0}

-- the effect of a record other than a flush, besides the record: on the world, the snapshots or the plans
abbrev pub HasEffect : BookState → Record → Effect → Type 0
HasEffect b (Flushed w hits) x = ⊥
HasEffect b (Targeted s tree) x = x ≡ effect.World (control.Target record { site = s; tree = tree })
HasEffect b (Invalidated points) x = x ≡ effect.World (control.Invalidate points)
HasEffect b Snapped x = x ≡ effect.Snapshot (snapshot_of b.definition b.records)
HasEffect b (Published n plan) x = x ≡ effect.Plan record { snapshot = n; plan = plan }
HasEffect b (Installed m) x = x ≡ effect.World (control.Install (changes b.definition b.records m))

-- the record passes its tests, the effect and the reply are those of the record, and there is memory for it
pub record IsReady (b : BookState) (p : PendingState) : Type 0 where
  pub passes : MayTake b p.calls p.entry
  pub effect : HasEffect b p.entry p.effect
  pub reply : p.reply ≡ reply_to b.definition b.records p.entry
  pub room : b.room ≡ true

-- the change of a world, if it changes one
abbrev pub control_of : Effect → Option Control
control_of (effect.World c) = Some c
control_of (effect.Snapshot s) = None
control_of (effect.Plan p) = None

-- the same book, perhaps with more memory
abbrev pub SameBook : BookState → BookState → Type 0
SameBook old new = new ≡ record old { room = new.room }

abbrev pub coded_pending : Coded PendingState
coded_pending =
    code_by ((Record × Effect) × (Reply × ℕ))
    (coded× (coded× entries.the_row.coded effects.the_row.coded) (coded× replies.the_row.coded coded_ℕ))
    (λ p. ((p.entry, p.effect), (p.reply, p.calls)))
    (λ p. record { entry = p.0.0; effect = p.0.1; reply = p.1.0; calls = p.1.1 }) (λ _. refl)
