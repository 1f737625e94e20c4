use Rattle.std.proofs.Common.{◌≡◌, ℕ, length, map, refl, ap, ◌∙◌, arith}
use Rattle.mh_site.specs.Worlds.{WorldState, state_at}
use Rattle.mh_core.specs.declared.book.change.Effect.TheVariants as effect
use Rattle.mh_core.specs.declared.reply.Reply.TheVariants as reply
use Rattle.mh_core.specs.Books.{BookState, IsBook, book_state}
use Rattle.mh_core.specs.Records.{numbers}
use Rattle.mh_core.specs.Snapshots.{SnapshotState, snapshot_of}
use Rattle.mh_core.proofs.Standing.{snapshot_now, snapshots_now}
use Rattle.mh_core.specs.Laws.Worlds.{world_sites}
use Rattle.mh_core.proofs.book.Book.snapped.Goals as goal

pub take-requires : goal.take-requires
take-requires c =
    let b = book_state c.self.inside in
    record { sites = omega (arith, ap length c.sites-sites.ensures.value, ap (λ (w : WorldState). length w.sites) c.self.invariant.world, world_sites b.definition b.records) }

pub returns-clause-effect : goal.returns-clause-effect
returns-clause-effect c =
    let b = book_state c.self.inside in
    let is : IsBook b = c.self.invariant in
    let made : ℕ → SnapshotState = λ n. record { totals = b.totals.total; valid = b.world.valid; versions = map (λ i. (state_at b.world i).version) (numbers n) } in
    let count : length c.sites-sites.result.now ≡ length b.definition.sites = ap length c.sites-sites.ensures.value in
    let taken : c.in_ok-taken.taken ≡ snapshot_of b.definition b.records = c.in_ok-taken.ensures.value ∙ (ap made count ∙ snapshot_now b is) in
    ap effect.Snapshot (taken ∙ ap (λ (x : BookState). snapshot_of x.definition x.records) c.self.view_is)

pub returns-clause-reply : goal.returns-clause-reply
returns-clause-reply c =
    let count = snapshots_now (book_state c.self.inside) c.args.self.now c.self.inside.snapshots.items c.self.invariant c.self.view_is refl in
    ap (λ n. reply.Taken n) (omega (arith, c.len-snapshot.ensures, c.self.inside.snapshots.ok.0, count))
