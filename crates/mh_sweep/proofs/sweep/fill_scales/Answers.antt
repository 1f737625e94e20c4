use Rattle.std.proofs.Common.{◌≡◌, ◌∙◌, ◌+◌, ℕ, List, ap, arith, false, inl, inr}
use Rattle.std.specs.List.{range_with_len}
use Rattle.std.proofs.lemmas.Bool.{cases_Bool}
use Rattle.mh_network.specs.Blocks.{gaining_links}
use Rattle.mh_network.specs.Selection.{member}
use Rattle.mh_sweep.specs.Sweeps.{number_at}
use Rattle.mh_sweep.proofs.Ranges.{filtered_range, whole_open}
use Rattle.mh_sweep.proofs.sweep.fill_scales.Goals as goal

pub solve_block-requires-clause-open : goal.solve_block-requires-clause-open
solve_block-requires-clause-open c =
    let P = c.args.swept.now.problem.now in
    let points = c.in_ok-all_numbers.ensures.value ∙ ap (range_with_len 0) c.points.ensures.count in
    (gaining_links P, (λ _. false), whole_open P (c.blocks_split.ensures.split P c.points.ensures.problem) (c.blocks_join.ensures.solve P) (c.args.most + 1) _ c.in_ok-gaining_links.ensures.value points)

pub returns-clause-until : goal.returns-clause-until
returns-clause-until c =
    let P = c.args.swept.now.problem.now in
    let solve = c.blocks_join.ensures.solve P in
    let links = c.in_ok-gaining_links.ensures.value in
    let points = c.in_ok-all_numbers.ensures.value ∙ ap (range_with_len 0) c.points.ensures.count in
    let solved = c.in_ok-solve_block.ensures.solved (gaining_links P) (λ _. false)
    (whole_open P (c.blocks_split.ensures.split P c.points.ensures.problem) solve (c.args.most + 1) _ links points) in
    let zero : (j : ℕ) → gaining_links P j ≡ false → number_at c.solve_block.new.until j ≡ 0 =
    λ j e. c.in_ok-solve_block.ensures.others j (ap (λ (xs : List ℕ). member xs j) links ∙ (filtered_range P j ∙ e)) ∙ c.requires.zeros j in
    solve.whole c.args.most (number_at c.solve_block.new.until) zero solved

pub returns-clause-bound : goal.returns-clause-bound
returns-clause-bound c = λ j.
    elim (cases_Bool (member c.in_ok-gaining_links.field-0 j)) [
      | inl inside ↦ (c.in_ok-solve_block.ensures.between j inside).1
      | inr outside ↦ omega (arith, c.in_ok-solve_block.ensures.others j outside, c.requires.zeros j)
    ]
