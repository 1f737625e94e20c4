-- What a change that a book made ready leaves of what the book keeps.
use Rattle.std.proofs.Common.{◌≡◌, List, [], ◌∷◌, ◌++◌, ap, refl, sym, ◌∙◌}
use Rattle.std.specs.Prelude.{reverse}
use Rattle.mh_site.specs.Worlds.{WorldState, opened, replay}
use Rattle.mh_site.specs.declared.control.Control.{Control}
use Rattle.mh_core.specs.declared.book.change.Effect.TheVariants as effect
use Rattle.mh_core.specs.declared.record.Record.{Record}
use Rattle.mh_core.specs.declared.record.Record.TheVariants.{Flushed, Targeted, Invalidated, Snapped, Published, Installed}
use Rattle.mh_core.specs.Books.{BookState, IsBook}
use Rattle.mh_core.specs.Installations.{PublishedPlan}
use Rattle.mh_core.specs.Pending.{HasEffect}
use Rattle.mh_core.specs.Replayed.{controls}
use Rattle.mh_core.specs.Snapshots.{SnapshotState, snapshot_of}
use Rattle.mh_core.specs.Laws.Worlds.{world_push}
use Rattle.mh_core.specs.Laws.Changes.{moves}
use Rattle.mh_core.proofs.Growing.{Made, totals_stay}

pub made_by_control : (b : BookState) (e : Record) (c : Control) (w : WorldState) → IsBook b → HasEffect b e (effect.World c)
    → ((v : WorldState) (cs : List Control) → b.world ≡ replay v cs → w ≡ replay v (cs ++ c ∷ [])) → Made b (e ∷ b.records) w b.totals b.snapshots b.plans
made_by_control b e c w is has replays =
    let moved = moves b e c has in
    record {
      world = replays (opened b.definition) (reverse (controls b.definition b.records)) is.world ∙ sym (world_push b.definition (e ∷ b.records) b.records c moved.controls);
      totals = totals_stay b e is moved.totals;
      snapshots = is.snapshots ∙ sym moved.snapshots;
      plans = is.plans ∙ sym moved.plans;
    }

pub made_by_snapshot : (b : BookState) (e : Record) (s : SnapshotState) → IsBook b → HasEffect b e (effect.Snapshot s) → Made b (e ∷ b.records) b.world b.totals (s ∷ b.snapshots) b.plans
made_by_snapshot b (Flushed w hits) s is h = absurd h
made_by_snapshot b (Targeted t tree) s is h = let no : ⊥ = cc in absurd no
made_by_snapshot b (Invalidated points) s is h = let no : ⊥ = cc in absurd no
made_by_snapshot b Snapped s is h =
    let same : s ≡ snapshot_of b.definition b.records = cc in
    record {
      world = is.world;
      totals = totals_stay b Snapped is (λ j. refl);
      snapshots = ap (λ (x : SnapshotState). x ∷ b.snapshots) same ∙ ap (λ (l : List SnapshotState). snapshot_of b.definition b.records ∷ l) is.snapshots;
      plans = is.plans;
    }
made_by_snapshot b (Published n plan) s is h = let no : ⊥ = cc in absurd no
made_by_snapshot b (Installed m) s is h = let no : ⊥ = cc in absurd no

pub made_by_plan : (b : BookState) (e : Record) (p : PublishedPlan) → IsBook b → HasEffect b e (effect.Plan p) → Made b (e ∷ b.records) b.world b.totals b.snapshots (p ∷ b.plans)
made_by_plan b (Flushed w hits) p is h = absurd h
made_by_plan b (Targeted t tree) p is h = let no : ⊥ = cc in absurd no
made_by_plan b (Invalidated points) p is h = let no : ⊥ = cc in absurd no
made_by_plan b Snapped p is h = let no : ⊥ = cc in absurd no
made_by_plan b (Published n plan) p is h =
    let same : p ≡ record { snapshot = n; plan = plan } = cc in
    record {
      world = is.world;
      totals = totals_stay b (Published n plan) is (λ j. refl);
      snapshots = is.snapshots;
      plans = ap (λ (x : PublishedPlan). x ∷ b.plans) same ∙ ap (λ (l : List PublishedPlan). record { snapshot = n; plan = plan } ∷ l) is.plans;
    }
made_by_plan b (Installed m) p is h = let no : ⊥ = cc in absurd no
