use Rattle.std.proofs.Common.{◌≡◌, ◌≤◌, ◌+◌, ◌∙◌, ℕ, List, ap, sym, subst, length}
use Rattle.std.specs.Vec.{with_items}
use Rattle.std.proofs.lemmas.List.{with_items_is}
use Rattle.mh_network.specs.Scales.{IsUntil}
use Rattle.mh_sweep.specs.Sweeps.{number_at}
use Rattle.mh_sweep.proofs.sweep.find_scales.Goals as goal

pub returns-clause-until : goal.returns-clause-until
returns-clause-until c =
    let kept : length c.fill_scales.new.until ≡ length c.in_ok-until.until.items = c.in_ok-fill_scales.ensures.links ∙ ap (λ (xs : List ℕ). length xs) c.deref_mut.ensures.value in
    let same : (with_items c.in_ok-until.until c.fill_scales.new.until).items ≡ c.fill_scales.new.until =
    with_items_is c.in_ok-until.until c.fill_scales.new.until (kept ∙ sym c.in_ok-until.until.ok.0) in
    subst (λ (xs : List ℕ). IsUntil c.args.problem.now c.args.most (number_at xs)) (sym (c.from_vec.ensures.value ∙ same)) c.in_ok-fill_scales.ensures.until

pub returns-clause-bound : goal.returns-clause-bound
returns-clause-bound c =
    let kept : length c.fill_scales.new.until ≡ length c.in_ok-until.until.items = c.in_ok-fill_scales.ensures.links ∙ ap (λ (xs : List ℕ). length xs) c.deref_mut.ensures.value in
    let same : (with_items c.in_ok-until.until c.fill_scales.new.until).items ≡ c.fill_scales.new.until =
    with_items_is c.in_ok-until.until c.fill_scales.new.until (kept ∙ sym c.in_ok-until.until.ok.0) in
    subst (λ (xs : List ℕ). (j : ℕ) → number_at xs j ≤ c.args.most + 1) (sym (c.from_vec.ensures.value ∙ same)) c.in_ok-fill_scales.ensures.bound
