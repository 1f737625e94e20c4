-- The contents of controls.
use Rattle.std.specs.Prelude.{ℕ, List, refl}
use Rattle.std.specs.Coded.{Coded, code_by, coded×, coded_ℕ, coded_list}
use Rattle.mh_tree.specs.Handle.{TypedTree}
use Rattle.mh_tree.specs.TreeCode.{coded_typed_tree}

-- a site, and its new tree (`MutableCallSite.setTarget`)
pub record Retargeted : Type 0 where
  pub site : ℕ
  pub tree : TypedTree

-- a site, its new linked tree, and the links that this tree holds
pub record Relinked : Type 0 where
  pub site : ℕ
  pub linked : TypedTree
  pub kept : List ℕ

abbrev pub coded_retargeted : Coded Retargeted
coded_retargeted = code_by (ℕ × TypedTree) (coded× coded_ℕ coded_typed_tree) (λ r. (r.site, r.tree)) (λ p. record { site = p.0; tree = p.1 }) (λ _. refl)

abbrev pub coded_relinked : Coded Relinked
coded_relinked =
    code_by (ℕ × (TypedTree × List ℕ)) (coded× coded_ℕ (coded× coded_typed_tree (coded_list coded_ℕ))) (λ r. (r.site, (r.linked, r.kept)))
    (λ p. record { site = p.0; linked = p.1.0; kept = p.1.1 }) (λ _. refl)

abbrev pub coded_changes : Coded (List Relinked)
coded_changes = coded_list coded_relinked
