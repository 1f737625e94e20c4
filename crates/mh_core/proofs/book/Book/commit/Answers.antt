use Rattle.std.proofs.Common.{◌≡◌, ◌∷◌, List, ap, refl, sym, subst, ◌∙◌}
use Rattle.std.specs.Prelude.{reverse}
use Rattle.mh_core.specs.declared.book.change.Effect.TheVariants as effect
use Rattle.mh_core.specs.Books.{BookState, IsBook, book_state}
use Rattle.mh_core.specs.Pending.{HasEffect, IsReady, PendingState}
use Rattle.mh_core.specs.Snapshots.{SnapshotState}
use Rattle.mh_core.proofs.Changing.{made_by_snapshot}
use Rattle.mh_core.proofs.Growing.{book_grows, book_room, pushed}
use Rattle.mh_core.specs.Laws.Worlds.{newest_push}
use Rattle.mh_core.proofs.book.Book.commit.Goals as goal

pub absorb-requires : goal.absorb-requires
absorb-requires c = record { room = book_room (book_state c.self.inside) c.self.invariant }

pub invariant_of-self-in-Snapshot : goal.invariant_of-self-in-Snapshot
invariant_of-self-in-Snapshot c =
    let b = book_state c.self.inside in
    let is : IsBook b = c.self.invariant in
    let p : PendingState = record { entry = c.change.inside.entry; effect = c.change.inside.effect; reply = c.change.inside.reply; calls = c.change.inside.calls } in
    let ready : IsReady b p = subst (IsReady b) (sym c.change.view_is) (subst (λ (x : BookState). IsReady x c.args.change) (sym c.self.view_is) c.requires.ready) in
    let has : HasEffect b p.entry (effect.Snapshot c.in-Snapshot.snapshot) = subst (HasEffect b p.entry) c.in-Snapshot.is ready.effect in
    let more : reverse c.push_reserved-in-Snapshot.new.self.items ≡ c.in-Snapshot.snapshot ∷ b.snapshots = ap reverse c.push_reserved-in-Snapshot.ensures.items ∙ newest_push c.self.inside.snapshots.items c.in-Snapshot.snapshot in
    subst (λ (s : List SnapshotState). IsBook (pushed (book_state record { alloc = c.self.inside.alloc; definition = c.self.inside.definition; limits = c.self.inside.limits; records = c.push_reserved.new.self; world = c.self.inside.world; totals = c.self.inside.totals; snapshots = c.push_reserved-in-Snapshot.new.self; plans = c.self.inside.plans }).room b (reverse c.push_reserved.new.self.items) b.world b.totals s b.plans)) (sym more)
    (book_grows b p.calls p.entry c.self.inside.records.items c.push_reserved.new.self.items b.world b.totals (c.in-Snapshot.snapshot ∷ b.snapshots) b.plans is ready.passes
    (made_by_snapshot b p.entry c.in-Snapshot.snapshot is has) refl c.push_reserved.ensures.items)
