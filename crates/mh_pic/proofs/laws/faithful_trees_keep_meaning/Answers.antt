use Rattle.mh_pic.specs.Laws.Invocations.{faithful_means}
use Rattle.mh_pic.proofs.laws.faithful_trees_keep_meaning.Goals as goal

pub returns : goal.returns
returns c = record { same = λ valid levels trees bases faithful t m typed lawful a fits. faithful_means valid levels trees bases faithful lawful.typed lawful.lower t m typed lawful.here a fits }
