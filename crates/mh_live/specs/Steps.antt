-- The steps that a published value applies.
use Rattle.mh_site.specs.Worlds.{after}
use Rattle.mh_live.specs.declared.published.Published.{Published}
use Rattle.mh_live.specs.declared.published.Publication.{Publication}
use Rattle.mh_live.specs.declared.published.Publication.TheVariants.{Change, Stamp}

abbrev pub stepped : Published → Publication → Published
stepped p (Change control) = record p { world = after p.world control }
stepped p (Stamp past) = record p { past = past }
