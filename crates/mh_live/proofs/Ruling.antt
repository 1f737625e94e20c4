-- The steps that keep the rule over the published world.
use Rattle.std.proofs.Common.{◌≡◌, ℕ, ◌≢◌, [], ◌∷◌, refl, subst, ⊎_elim}
use mathlib.Core.Option.{some}
use mathlib.Core.List.{IsPrefix}
use lib.ListN.{get_elem?}
use Rattle.crossbeam_utils.specs.Register.{Admits, Turns, TurnsAt}
use Rattle.atomic_table.proofs.Lists.{at_set, at_snoc}
use Rattle.logbook.specs.Pages.{Book}
use Rattle.mh_site.specs.Defined.{DefinitionData}
use Rattle.mh_live.specs.declared.published.Published.{Published}
use Rattle.mh_live.specs.declared.published.View.{View}
use Rattle.mh_live.specs.Rules.{Stands, Keeps, Looks, last_entered, newcomer}
use Rattle.mh_live.proofs.Prefixes.{prefix_self, prefix_trans}

module _ (book : Book) (d : DefinitionData) where
  pub starts : (x : Published) → Stands book d x → Keeps book d x (newcomer ∷ [])
  starts x stands = (stands, λ seat v at. ⊎_elim (λ (h : get_elem? [] seat ≡ some v). absurd cc) (λ (same : newcomer ≡ v). subst (λ (z : View). IsPrefix (last_entered z) x.past.log) same (x.past.log, refl)) (at_snoc [] newcomer v seat at))

  pub admits : Admits (Keeps book d) newcomer
  admits x views h = (h.0, λ seat v at. ⊎_elim (λ (e : get_elem? views seat ≡ some v). h.1 seat v e) (λ (same : newcomer ≡ v). subst (λ (z : View). IsPrefix (last_entered z) x.past.log) same (x.past.log, refl)) (at_snoc views newcomer v seat at))

  pub publishes : (seat : ℕ) (v : View) (x y : Published) → Stands book d y → IsPrefix x.past.log y.past.log → TurnsAt (Keeps book d) seat v x y (Looks book d)
  publishes seat v x y stands grows views h at = let w : View = record { entered = y.past.log ∷ v.entered } in (
    w,
    (
      stands,
      λ j u e. ⊎_elim (λ (t : (j ≡ seat) × (w ≡ u)). subst (λ (z : View). IsPrefix (last_entered z) y.past.log) t.1 (prefix_self y.past.log))
          (λ (t : (j ≢ seat) × (get_elem? views j ≡ some u)). prefix_trans (last_entered u) x.past.log y.past.log (h.1 j u t.1) grows) (at_set views seat j w u e),
    ),
    (stands, refl, prefix_trans (last_entered v) x.past.log y.past.log (h.1 seat v at) grows),
  )

  pub enters : (seat : ℕ) (v : View) → Turns (Keeps book d) seat v (λ x. x) (Looks book d)
  enters seat v x views h at = publishes seat v x x h.0 (prefix_self x.past.log) views h at
