-- What a call reads in a published world that stands.
use Rattle.std.proofs.Common.{◌≡◌, length, ap, ◌∙◌}
use Rattle.logbook.specs.Pages.{Book}
use Rattle.mh_site.specs.Defined.{DefinitionData}
use Rattle.mh_core.specs.Standing.{IsWorldOf}
use Rattle.mh_site.specs.Worlds.{WorldState}
use Rattle.mh_live.specs.Rules.{Stands}
use Rattle.mh_live.specs.declared.published.Published.{Published}
use Rattle.mh_live.proofs.Replays.{after_front, after_points, after_sites}

module _ (book : Book) (d : DefinitionData) (x : Published) (stands : Stands book d x) where
  pub front_is : x.world.front ≡ length x.past.log
  front_is = ap (λ (w : WorldState). w.front) stands.replays ∙ after_front d x.past.log

  pub world_of : IsWorldOf d x.world
  world_of = record {
    sites = ap (λ (w : WorldState). length w.sites) stands.replays ∙ after_sites d x.past.log;
    points = ap (λ (w : WorldState). length w.valid) stands.replays ∙ after_points d x.past.log;
    standing = stands.standing;
  }
