use Rattle.std.proofs.Common.{ℕ, List, [], ◌∷◌, ◌∙◌, ap}
use Rattle.mh_core.specs.declared.record.Record.TheVariants.{Invalidated}
use Rattle.mh_core.specs.Laws.Renewing.{means_the_same}
use Rattle.mh_core.proofs.book.Book.succession_of_known.Goals as goal

pub returns : goal.returns
returns c =
    let definition = c.in_ok-definition.ensures.value in
    let invalid = c.in_ok-invalid.ensures.value in
    record {
      succeeds = record {
        definition = definition;
        invalid = invalid;
        links = c.in_ok-definition.ensures.links;
        means = λ new same records.
            means_the_same c.args.self.now new c.args.again.now [] c.in_ok-definition.ensures.typed (same ∙ definition)
            (records ∙ ap (λ (points : List ℕ). Invalidated points ∷ []) invalid);
      };
    }
