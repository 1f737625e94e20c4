use Rattle.std.proofs.Common.{◌≡◌, ◌∙◌, ◌+◌, ◌-◌, ℕ, arith, drop, nat_cmp, subst, take}
use Rattle.std.specs.List.Sorted.{IsBinarySearchResult}
use Rattle.mhlink_c.specs.Problems.{needs_of}
use Rattle.mhlink_c.proofs.Adding.{found_at, has_own, within}
use Rattle.mhlink_c.proofs.amounts.place_of.Goals as goal

pub returns : goal.returns
returns c =
    let needs = c.args.needs.now in
    let link = c.args.link.now in
    let all : link.first + link.count - link.first ≡ link.count = omega arith in
    let position = subst (λ (n : ℕ). IsBinarySearchResult (λ y. nat_cmp y c.args.point) (take n (drop link.first needs)) c.binary_search.result) all c.binary_search.ensures.position in
    let found = found_at (needs_of needs link) c.args.point c.binary_search.result c.in-Ok.place c.in-Ok.is position c.requires.ascending c.requires.needed in
    let place = within needs link.first link.count c.in-Ok.place c.requires.there found.0 in
    record {
      inside = place.1;
      own = has_own link c.in-Ok.place place.0;
      point = place.2 ∙ found.1;
    }
