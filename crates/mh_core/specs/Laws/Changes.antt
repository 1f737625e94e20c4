-- Effects of prepared changes on a world.
use Rattle.std.proofs.Common.{◌≡◌, ℕ, ◌∷◌, Some, ap, refl, sym, subst}
use Rattle.mh_site.specs.declared.control.Control.{Control}
use Rattle.mh_site.specs.declared.control.Control.TheVariants as control
use Rattle.mh_core.specs.declared.book.change.Effect.{Effect}
use Rattle.mh_core.specs.declared.book.change.Effect.TheVariants as effect
use Rattle.mh_core.specs.declared.record.Record.{Record}
use Rattle.mh_core.specs.declared.record.Record.TheVariants.{Flushed, Targeted, Invalidated, Snapped, Published, Installed}
use Rattle.mh_core.specs.Books.{BookState}
use Rattle.mh_core.specs.Pending.{HasEffect, control_of}
use Rattle.mh_core.specs.PlanTables.{plans_of}
use Rattle.mh_core.specs.Records.{total}
use Rattle.mh_core.specs.Replayed.{changes, controls}
use Rattle.mh_core.specs.Snapshots.{snapshots_of}

-- a control changes the world, and nothing else of the book
pub record Moves (b : BookState) (e : Record) (c : Control) : Type 0 where
  pub controls : controls b.definition (e ∷ b.records) ≡ c ∷ controls b.definition b.records
  pub totals : (j : ℕ) → total (e ∷ b.records) j ≡ total b.records j
  pub snapshots : snapshots_of b.definition (e ∷ b.records) ≡ snapshots_of b.definition b.records
  pub plans : plans_of (e ∷ b.records) ≡ plans_of b.records

pub moves : (b : BookState) (e : Record) (c : Control) → HasEffect b e (effect.World c) → Moves b e c
moves b (Flushed w hits) c h = absurd h
moves b (Targeted s tree) c h =
    let same : c ≡ control.Target record { site = s; tree = tree } = cc in
    record { controls = ap (λ (x : Control). x ∷ controls b.definition b.records) (sym same); totals = λ j. refl; snapshots = refl; plans = refl }
moves b (Invalidated points) c h =
    let same : c ≡ control.Invalidate points = cc in
    record { controls = ap (λ (x : Control). x ∷ controls b.definition b.records) (sym same); totals = λ j. refl; snapshots = refl; plans = refl }
moves b Snapped c h = let no : ⊥ = cc in absurd no
moves b (Published n plan) c h = let no : ⊥ = cc in absurd no
moves b (Installed m) c h =
    let same : c ≡ control.Install (changes b.definition b.records m) = cc in
    record { controls = ap (λ (x : Control). x ∷ controls b.definition b.records) (sym same); totals = λ j. refl; snapshots = refl; plans = refl }

-- the control of a change is that of its record
pub change_of : (b : BookState) (e : Record) (x : Effect) (c : Control) → HasEffect b e x → control_of x ≡ Some c → controls b.definition (e ∷ b.records) ≡ c ∷ controls b.definition b.records
change_of b e (effect.World d) c has is =
    let same : d ≡ c = cc in
    subst (λ (k : Control). controls b.definition (e ∷ b.records) ≡ k ∷ controls b.definition b.records) same (moves b e d has).controls
change_of b e (effect.Snapshot s) c has is = let no : ⊥ = cc in absurd no
change_of b e (effect.Plan p) c has is = let no : ⊥ = cc in absurd no
