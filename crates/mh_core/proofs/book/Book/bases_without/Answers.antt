use Rattle.mh_pic.specs.Specialised.{retired_tree}
use Rattle.mh_core.specs.Records.{base}
use Rattle.mh_core.specs.Laws.Numbered.{more_numbers}
use Rattle.mh_core.proofs.Renewed.{one_typed}
use Rattle.mh_core.proofs.book.Book.bases_without.Goals as goal

pub loop-site-preserved : goal.loop-site-preserved
loop-site-preserved c =
    let d = c.args.self.now.definition in
    let r = c.args.self.now.records in
    record {
      value = more_numbers (λ s. retired_tree c.args.points.now (base d r s)) c.loop-site.site _ _ _ c.loop-site.invariant.value c.in_ok-base.ensures.value c.in_ok-push.ensures.items;
      typed = one_typed d r c.loop-site.site c.loop-site.invariant.typed c.in_ok-base.ensures.typed;
    }
