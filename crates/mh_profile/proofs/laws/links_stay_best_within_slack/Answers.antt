use Rattle.mh_profile.proofs.Slack.{stays_best}
use Rattle.mh_profile.proofs.laws.links_stay_best_within_slack.Goals as goal

pub returns : goal.returns
returns c = record { best = λ P is plan h. stays_best P plan is h }
