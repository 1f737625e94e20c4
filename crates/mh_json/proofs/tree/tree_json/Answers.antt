use Rattle.std.proofs.Common.{◌∙◌, ap, arith, Some}
use Rattle.std.proofs.lemmas.Result.{IfOk-weaker}
use Rattle.serde_json.specs.Data.{Data, depth as nesting}
use Rattle.serde_json.specs.Written.{compact_text, has_float}
use Rattle.mh_json.specs.TreeData.{tree_data}
use Rattle.mh_json.proofs.Depths.{nests}
use Rattle.mh_json.proofs.NoFloats.{has_no_float}
use Rattle.mh_json.proofs.tree.tree_json.Goals as goal

pub returns : goal.returns
returns c =
    let is = c.in_ok-value.ensures.value ∙ ap (tree_data c.args.definition.now) c.root.ensures.value in
    record {
      value = IfOk-weaker c.to_string.result _ _ (λ s h. h (ap has_float is ∙ has_no_float c.args.definition.now c.args.tree.now.tree) ∙ ap compact_text is) c.to_string.ensures.text;
      reads_back = IfOk-weaker c.to_string.result _ _ (λ s h shallow. h (omega (arith, ap nesting is, nests c.args.definition.now c.args.tree.now.tree, shallow)) ∙ ap (λ (d : Data). Some d) is) c.to_string.ensures.reads_back;
    }
