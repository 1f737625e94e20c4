use Rattle.std.proofs.Common.{rules, ◌≡◌, ◌≤◌, ◌∙◌, ap, sym, arith, List, ◌∷◌, ℕ, length}
use Rattle.mh_pic.specs.Chains.{points}
use Rattle.mh_pic.proofs.Linking.{points_passed}
use Rattle.mh_pic.proofs.Passing.{memory_alone, settled}
use Rattle.mh_pic.proofs.chains.+points.Goals as goal

pub expect_made-requires : goal.expect_made-requires
expect_made-requires t c =
    let whole : c.args.needs.now ≡ c.in-Some.need.now ∷ c.in-Some.rest.now = search rules in
    let short : length c.in-Some.rest.now ≤ 7 = omega (arith, ap (λ (ps : List ℕ). length ps) whole, c.requires.few) in
    let passes = points_passed c.in-Some.need.now c.in-Some.rest.now c.args.target.now c.args.base.now _ c.requires.first c.requires.second c.requires.parameters short c.in_ok-inner.ensures.value in
    record { passed = memory_alone _ _ _ passes c.point.ensures.refused }

pub returns : goal.returns
returns t c =
    let whole : c.args.needs.now ≡ c.in-Some.need.now ∷ c.in-Some.rest.now = search rules in
    let short : length c.in-Some.rest.now ≤ 7 = omega (arith, ap (λ (ps : List ℕ). length ps) whole, c.requires.few) in
    let passes = points_passed c.in-Some.need.now c.in-Some.rest.now c.args.target.now c.args.base.now _ c.requires.first c.requires.second c.requires.parameters short c.in_ok-inner.ensures.value in
    let made = settled _ _ _ _ passes c.in_ok-switched.ensures.value c.point.ensures.value in
    record { value = made ∙ (λ i. record { tree = points (sym whole i) c.args.target.now.tree c.args.base.now.tree; signature = c.args.base.now.signature }) }
