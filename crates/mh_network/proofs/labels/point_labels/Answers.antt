use Rattle.std.proofs.Common.{◌≡◌, ◌+◌, ◌∙◌, ℕ, List, length, sym, ap, subst, arith}
use Rattle.std.specs.Vec.{with_items}
use Rattle.std.proofs.lemmas.List.{with_items_is}
use Rattle.mh_network.specs.inner.Labels.{AreLabels, LeadsDown}
use Rattle.mh_network.proofs.Labelling.{labels_none, labels_more, needs_inside, own_leads}
use Rattle.mh_network.proofs.labels.point_labels.Goals as goal

pub loop-link-init : goal.loop-link-init
loop-link-init c = (_, own_leads _ _ c.in_ok-labels.ensures.value, labels_none _ _ (rw c.points.ensures.count at c.in_ok-labels.ensures.value))

pub join_needs-requires-clause-inside : goal.join_needs-requires-clause-inside
join_needs-requires-clause-inside c =
    needs_inside c.args.problem.now c.loop-link.link _ _ c.points.ensures.problem c.needs.ensures.value (ap (λ (xs : List ℕ). length xs) c.deref_mut.ensures.value ∙ (c.loop-link.invariant.1.count ∙ c.loop-link.invariant.2.count))

pub loop-link-preserved : goal.loop-link-preserved
loop-link-preserved c =
    let old = c.loop-link.invariant in
    let step = c.join_needs.ensures.value old.0 (subst (λ (xs : List ℕ). LeadsDown xs old.0) (sym c.deref_mut.ensures.value) old.1) in
    let next : AreLabels c.args.problem.now (c.loop-link.link + 1) step.0 = labels_more _ _ _ _ c.points.ensures.problem old.2 (rw c.needs.ensures.value at step.2) in
    let count : length c.join_needs.new.table ≡ length c.loop-link.labels.items = c.join_needs.ensures.count ∙ ap (λ (xs : List ℕ). length xs) c.deref_mut.ensures.value in
    let same : (with_items c.loop-link.labels c.join_needs.new.table).items ≡ c.join_needs.new.table = with_items_is c.loop-link.labels c.join_needs.new.table (count ∙ sym c.loop-link.labels.ok.0) in
    (step.0, subst (λ (xs : List ℕ). LeadsDown xs step.0) (sym same) step.1, next)

pub returns : goal.returns
returns c =
    let old = c.loop-link.invariant in
    let flat : c.flatten.new.table ≡ old.0 = c.flatten.ensures.value old.0 (subst (λ (xs : List ℕ). LeadsDown xs old.0) (sym c.deref_mut-2.ensures.value) old.1) in
    let count : length c.flatten.new.table ≡ length c.loop-link.labels.items = ap (λ (xs : List ℕ). length xs) flat ∙ sym old.1.count in
    let same : (with_items c.loop-link.labels c.flatten.new.table).items ≡ c.flatten.new.table = with_items_is c.loop-link.labels c.flatten.new.table (count ∙ sym c.loop-link.labels.ok.0) in
    let all : c.loop-link.link ≡ length c.args.problem.now.links = omega (arith, c.loop-link-test.false, c.loop-link.auto.link-end, c.links-link-end.ensures.count) in
    let labelled : AreLabels c.args.problem.now (length c.args.problem.now.links) old.0 = subst (λ (n : ℕ). AreLabels c.args.problem.now n old.0) all old.2 in
    record { value = subst (λ (xs : List ℕ). AreLabels c.args.problem.now (length c.args.problem.now.links) xs) (sym (same ∙ flat)) labelled }
