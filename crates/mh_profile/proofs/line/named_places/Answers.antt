use Rattle.std.proofs.Common.{of_calls}
use Rattle.mh_profile.specs.Profiles.{place_named, places_named}
use Rattle.mh_profile.proofs.line.named_places.Goals as goal

pub returns : goal.returns
unfolding places_named
returns c = record { value = c.each.ensures.value (place_named c.args.points.now) (search of_calls) }
