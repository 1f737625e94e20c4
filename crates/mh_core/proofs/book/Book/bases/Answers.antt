use Rattle.std.proofs.Common.{ℕ, List, ◌∙◌, ap, length, map}
use Rattle.mh_pic.specs.Specialised.{retired_tree}
use Rattle.mh_core.specs.Records.{base, numbers}
use Rattle.mh_core.proofs.book.Book.bases.Goals as goal

pub returns : goal.returns
returns c =
    let d = c.args.self.now.definition in
    let r = c.args.self.now.records in
    record {
      value =
          c.in_ok-bases.ensures.value
          ∙ ap (λ (points : List ℕ). map (λ s. retired_tree points (base d r s)) (numbers (length d.sites))) (c.deref.ensures.value ∙ c.in_ok-points.ensures.value);
      typed = c.in_ok-bases.ensures.typed;
    }
