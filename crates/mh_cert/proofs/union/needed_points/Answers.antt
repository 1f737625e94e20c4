use Rattle.std.proofs.Common.{◌∙◌, sym, ap, ℕ, List}
use Rattle.std.specs.List.{list_any}
use Rattle.std.proofs.lemmas.List.{take_all}
use Rattle.mh_network.specs.Problems.{needs_point}
use Rattle.mh_cert.proofs.Within.{needs_in_range}
use Rattle.mh_cert.proofs.union.needed_points.Goals as goal

pub mark-requires : goal.mark-requires
mark-requires c = record { inside = rw (c.needs.ensures.value, c.loop-link.invariant.count) (needs_in_range _ c.requires.problem _) }

pub returns-clause-value : goal.returns-clause-value
returns-clause-value c = λ p.
    c.loop-link.invariant.marked p
    ∙ (ap (λ (xs : List ℕ). list_any (λ j. needs_point c.args.problem.now j p) xs) (take_all c.loop-link.link-index c.args.links.now c.loop-link-test.false)
    ∙ sym (c.lists_add_up.ensures.needed c.args.problem.now c.args.links.now p))
