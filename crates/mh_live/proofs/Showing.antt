-- One more control, and its list, lead to a world that may be published.
use Rattle.std.proofs.Common.{◌≡◌, [], ◌∷◌, ◌++◌, sym, ap, subst, ◌∙◌}
use Rattle.std.proofs.lemmas.List.Sums.{fold_push}
use mathlib.Core.List.{IsPrefix}
use Rattle.logbook.specs.Pages.{Book}
use Rattle.mh_site.specs.Defined.{DefinitionData}
use Rattle.mh_site.specs.Worlds.{WorldState, after, opened}
use Rattle.mh_site.specs.declared.control.Control.{Control}
use Rattle.mh_live.specs.declared.published.Published.{Published}
use Rattle.mh_live.specs.declared.published.Publication.TheVariants.{Change, Stamp}
use Rattle.mh_live.specs.Offices.{CanShow}
use Rattle.mh_live.specs.Rules.{Stands, world_after}
use Rattle.mh_core.specs.Standing.{AreStanding}

module _ (book : Book) (d : DefinitionData) where
  -- y lends its list alone
  pub changed_stands : (x y : Published) (c : Control) → Stands book d x → AreStanding d (after x.world c) → y.past.book ≡ book → y.past.names ≡ [] → y.past.log ≡ x.past.log ++ c ∷ []
      → Stands book d record { world = after x.world c; past = y.past }
  changed_stands x y c stands standing book_is names_are list = record {
    book_is = book_is;
    names_are = names_are;
    replays = ap (λ (w : WorldState). after w c) stands.replays ∙ (sym (fold_push after (opened d) x.past.log c) ∙ ap (world_after d) (sym list));
    standing = standing;
  }

  pub can_show : (x y : Published) (c : Control) → Stands book d x → AreStanding d (after x.world c) → y.past.book ≡ book → y.past.names ≡ [] → y.past.log ≡ x.past.log ++ c ∷ []
      → CanShow book d x (Change c ∷ Stamp y.past ∷ [])
  can_show x y c stands standing book_is names_are list next e =
      let P : Published → Type 0 = λ n. Stands book d n × IsPrefix x.past.log n.past.log in
      subst P (sym e) (changed_stands x y c stands standing book_is names_are list, (c ∷ [], sym list))
