use Rattle.std.proofs.Common.{◌≡◌, ◌∙◌, ap, sym, subst, inr, Err, nat_lt, true, List, ℕ}
use Rattle.std.specs.List.{list_all}
use Rattle.std.specs.List.Sorted.{IsPermutation}
use Rattle.std.proofs.lemmas.List.Filters.{dedup_is}
use Rattle.mh_json.specs.Misreads.{MisreadData}
use Rattle.mh_profile.proofs.Needs.{are_needs, are_twice}
use Rattle.mh_profile.proofs.line.needs_among_points.Goals as goal

pub returns-then-len-count : goal.returns-then-len-count
returns-then-len-count c =
    let moved = subst (λ (xs : List ℕ). IsPermutation xs c.sort_unstable.new.self.items) c.into_vec-needs.ensures.value c.sort_unstable.ensures.permutation in
    let below : list_all (λ p. nat_lt p c.args.points) c.args.named ≡ true = rw (← c.as_slice.ensures.value) (sym c.if-not-are_below.ensures.value) in
    let left = c.from_vec-needs.ensures.value ∙ dedup_is _ _ _ c.dedup.ensures.filtered in
    let all = sym c.len.ensures.value ∙ (c.if-len-count.true ∙ c.len-count.ensures.value) in
    record { value = are_needs c.args.points c.args.named _ c.from_vec-needs.result moved c.sort_unstable.ensures.sorted left below all }

pub returns-else-len-count : goal.returns-else-len-count
returns-else-len-count c =
    let moved = subst (λ (xs : List ℕ). IsPermutation xs c.sort_unstable.new.self.items) c.into_vec-needs.ensures.value c.sort_unstable.ensures.permutation in
    let below : list_all (λ p. nat_lt p c.args.points) c.args.named ≡ true = rw (← c.as_slice.ensures.value) (sym c.if-not-are_below.ensures.value) in
    let left = c.from_vec-needs.ensures.value ∙ dedup_is _ _ _ c.dedup.ensures.filtered in
    let twice =
    are_twice c.args.points c.args.named _ c.from_vec-needs.result moved c.sort_unstable.ensures.sorted left below
    (λ same. c.if-len-count.false (c.len.ensures.value ∙ (same ∙ sym c.len-count.ensures.value))) in
    record { value = inr (twice ∙ ap (λ (m : MisreadData). Err m) (sym c.of-else-len-count.ensures.value)) }
