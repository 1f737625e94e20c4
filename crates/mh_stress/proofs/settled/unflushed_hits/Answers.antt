use Rattle.std.proofs.Common.{◌≡◌, ◌≤◌, ◌∙◌, ℕ, List, All, ap, arith, length, subst, sym, take}
use Rattle.std.proofs.Math.Seq.{take-length}
use Rattle.mh_live.specs.Limits.{most_hits_of_all}
use Rattle.mh_stress.proofs.settled.unflushed_hits.Goals as goal

-- as many as there are, taken
taken : (xs ys : List ℕ) (n : ℕ) → ys ≡ take n xs → n ≡ length xs → ys ≡ xs
taken xs ys n e all = e ∙ ap (λ (m : ℕ). take m xs) all ∙ take-length xs

pub returns-clause-value : goal.returns-clause-value
returns-clause-value g c =
    let settled = c.links-link-end.ensures.settled in
    let last : c.loop-link.link ≡ length c.args.settled.now.unflushed = omega (arith, c.loop-link-test.false, c.loop-link.auto.link-end, c.links-link-end.ensures.count, settled.links_are) in
    taken c.args.settled.now.unflushed c.loop-link.unflushed.items c.loop-link.link c.loop-link.invariant last

pub returns-clause-few : goal.returns-clause-few
returns-clause-few g c =
    let settled = c.links-link-end.ensures.settled in
    let last : c.loop-link.link ≡ length c.args.settled.now.unflushed = omega (arith, c.loop-link-test.false, c.loop-link.auto.link-end, c.links-link-end.ensures.count, settled.links_are) in
    subst (λ (xs : List ℕ). All (λ n. n ≤ most_hits_of_all) xs) (sym (taken c.args.settled.now.unflushed c.loop-link.unflushed.items c.loop-link.link c.loop-link.invariant last)) settled.within
