use Rattle.mh_tree.specs.Laws.Sites.{site_means, site_costs}
use Rattle.mh_tree.proofs.laws.invocations_mean_trees.Goals as goal

pub returns : goal.returns
returns c = record {
  means = λ valid levels targets t lawful s n may a. site_means levels valid targets lawful.lower s n may a;
  costs = λ valid levels targets t lawful s n may a. site_costs levels valid targets lawful.lower s n may a;
}
