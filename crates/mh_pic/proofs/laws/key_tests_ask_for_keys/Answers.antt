use Rattle.mh_type.specs.Laws.{values_decide}
use Rattle.mh_pic.specs.Laws.KeyTests.{key_test_mean, key_shown, key_found}
use Rattle.mh_pic.proofs.laws.key_tests_ask_for_keys.Goals as goal

pub returns : goal.returns
returns c = record { answers = key_test_mean; equal = λ x y h. (values_decide x y).0 h; shown = key_shown; alone = key_found }
