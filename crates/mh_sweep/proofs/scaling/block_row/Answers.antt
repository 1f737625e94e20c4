use Rattle.std.proofs.Common.{◌≡◌, ◌∙◌, ◌<◌, ◌*◌, length, map, arith}
use Rattle.std.specs.List.{filter}
use Rattle.mh_network.specs.Laws.Members.{all_members}
use Rattle.mh_network.specs.Parts.{place_of}
use Rattle.mh_network.specs.Problems.{link_at}
use Rattle.mh_network.specs.Scales.{net_of}
use Rattle.mh_network.specs.Selection.{member}
use Rattle.mh_sweep.proofs.Amounts.{gain_within, net_is}
use Rattle.mh_sweep.proofs.scaling.block_row.Goals as goal

pub block_needs-requires-clause-inside : goal.block_needs-requires-clause-inside
block_needs-requires-clause-inside c =
    rw c.needs.ensures.value (all_members (λ p. p < length c.args.places.now) _ (λ p e. omega (arith, c.points.ensures.problem.in_range _ p e, c.requires.places.count)))

pub overflow_mul-result : goal.overflow_mul-result
overflow_mul-result c =
    omega (arith, c.saturating_sub-net.ensures, c.gain.ensures.value, gain_within c.args.problem.now c.args.link c.requires.inside, c.requires.gains)

pub returns : goal.returns
returns c =
    let P = c.args.problem.now in
    let j = c.args.link in
    let points = c.args.part.now.points in
    let net : c.saturating_sub-net.result ≡ net_of P j =
    omega (arith, c.saturating_sub-net.ensures, c.gain.ensures.value, c.charge.ensures.value, net_is P c.points.ensures.problem j) in
    let needs : c.in_ok-needs.needs ≡ map (place_of points) (filter (member points) (link_at P j).needs) =
    c.in_ok-needs.ensures.value ∙ (λ i. map (place_of (c.as_slice.ensures.value i)) (filter (member (c.as_slice.ensures.value i)) (c.needs.ensures.value i))) in
    record { value = λ i. record { gain = 1000 * net i; eligible = c.eligible.ensures.value i; needs = needs i; charge = 0 } }
