use Rattle.mh_pic.specs.Laws.Bounds.{specialised_depth, specialised_size, specialised_bound}
use Rattle.mh_pic.specs.Laws.Kept.{specialised_typed, specialised_names}
use Rattle.mh_pic.specs.Laws.SpecialisedTrees.{specialised_mean, specialised_steps}
use Rattle.mh_pic.proofs.laws.specialised_trees_agree.Goals as goal

pub returns : goal.returns
returns c = record {
  same = specialised_mean;
  quick = specialised_steps;
  typed = specialised_typed;
  unnamed = specialised_names;
  shallow = specialised_depth;
  small = specialised_size;
  bound = specialised_bound;
}
