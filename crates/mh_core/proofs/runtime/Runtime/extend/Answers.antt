use Rattle.std.proofs.Common.{◌∙◌, length, ap, subst, sym}
use Rattle.std.proofs.lemmas.List.{length-map}
use Rattle.mh_ledger.specs.Extensions.{extended_ledger}
use Rattle.mh_core.specs.Extensions.{IsLonger, more_links}
use Rattle.mh_core.specs.Laws.Extending.{extension_longer}
use Rattle.mh_core.proofs.Extended.{runtime_extends}
use Rattle.mh_core.proofs.runtime.Runtime.extend.Goals as goal

pub invariant_of-self-2 : goal.invariant_of-self-2
invariant_of-self-2 c =
    let r = c.self.inside in
    let e = c.in_ok-extend.ensures.extended in
    let longer = subst (IsLonger r.book.definition) (sym e.definition) (extension_longer r.book.definition r.book.records c.args.points c.args.sites) in (
      runtime_extends r.book c.extend.new.self r.ledgers.items c.extend.new.ledgers.items c.self.invariant.0 e.limits longer c.in_ok-extend.ensures.ledgers c.in_ok-extend.ensures.held,
      ap length c.in_ok-extend.ensures.ledgers ∙ (length-map r.ledgers.items (extended_ledger (more_links r.book.definition c.extend.new.self.definition)) ∙ c.self.invariant.1),
    )
