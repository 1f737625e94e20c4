-- The block between two choices, solved alone, gives the choice between them.
use Rattle.std.proofs.Common.{◌≡◌, ℕ, ◌≤◌, Bool, refl, arith, sym, ◌∙◌, ap, inl, inr, map, subst}
use Rattle.std.specs.Prelude.{◌*◌, ◌&&◌}
use Rattle.std.proofs.Math.Path.{fun_ext}
use Rattle.std.proofs.lemmas.List.{length-map}
use Rattle.std.proofs.lemmas.Bool.{and_parts, true≢false}
use Rattle.mh_network.specs.declared.link_row.LinkRow.{LinkRow}
use Rattle.mh_network.specs.declared.part.Part.{Part}
use Rattle.mh_network.specs.Problems.{ProblemData, cost_of, link_at, needs_point}
use Rattle.mh_network.specs.Selection.{member, IsBest, IsLeast}
use Rattle.mh_network.specs.Parts.{IsPartOf, part_row, place_of, restricted}
use Rattle.mh_network.specs.Blocks.{BlockJoins, IsBlock, IsEnd, ScaleBlocksJoin, block_problem, block_row, needing, needing_row, scaled_block}
use Rattle.mh_network.specs.Scales.{IsCheaper, scaled, weighed_row}
use Rattle.mh_network.specs.Laws.Halves.{meet, join, IsWithin}
use Rattle.mh_network.specs.Laws.Nets.{IsLeastWithin, IsNetBest, IsNetLeast, NetNoBetter, best_net, every, least_from, least_net, net_least}
use Rattle.mh_network.specs.Laws.Nested.{cheaper_join, dearer_within, net_nested}
use Rattle.mh_network.specs.Laws.Between.{block_joined, needing_at, needing_needs}
use Rattle.mh_network.specs.Laws.Weighing.{scales_rise, weighed_at, weighed_cost, weighed_needs, weighed_union}
use Rattle.mh_network.proofs.Renumbering.{least_within, met, restricted_spread}

-- a block is a part of the problem in which its links need its points alone
pub block_part : (P : ProblemData) (low high : ℕ → Bool) (part : Part) → IsBlock P low high part → IsPartOf (needing P (member part.points)) part
block_part P low high part block = record {
  links = block.links;
  points = block.points;
  links_in = λ j e. omega (arith, block.links_in j e, length-map P.links (needing_row (member part.points)));
  points_in = block.points_in;
  needs_in = λ j p e needs. (and_parts (member part.points p) (needs_point P j p) (sym (needing_needs P (member part.points) j p) ∙ needs)).0;
}

joins : (P : ProblemData) (low high : ℕ → Bool) (part : Part) → IsBlock P low high part →
    ((T : ℕ → Bool) → NetNoBetter P T (meet T low)) → ((T : ℕ → Bool) → NetNoBetter P T (join high T)) → ((T : ℕ → Bool) → IsNetBest P every T → IsWithin high T) → BlockJoins P high part
joins P low high part block down up chosen V least =
    let N : ProblemData = needing P (member part.points) in
    let W : ℕ → Bool = λ j. member part.links j && V (place_of part.links j) in
    let is : IsPartOf N part = block_part P low high part block in
    let numbered : restricted W part ≡ V = restricted_spread N part is V least.best.eligible in
    let inner : IsLeastWithin N (member part.links) (meet W (member part.links)) =
    least_within N part is W (subst (λ (U : ℕ → Bool). IsLeast (block_problem P part) U) (sym numbered) least) in
    let same : meet W (member part.links) ≡ W = met N part is W (λ j e. (and_parts (member part.links j) (V (place_of part.links j)) e).0) in
    let placed : IsNetLeast N (member part.links) W = subst (λ (U : ℕ → Bool). IsNetLeast N (member part.links) U) same (net_least N (member part.links) (meet W (member part.links)) inner) in
    least_from P (join W high) (block_joined P low high part block down up chosen W placed)

-- between links that are best where no more is asked and links that are least best where no less is asked
pub block_joins : (L P H : ProblemData) (low high : ℕ → Bool) (part : Part) → IsCheaper L P → IsCheaper P H → IsBest L low → IsLeast H high → IsBlock P low high part → BlockJoins P high part
block_joins L P H low high part cheaper dearer best least block =
    joins P low high part block
    (dearer_within L P cheaper low (best_net L low best))
    (cheaper_join P H dearer high (least_net H high least).best)
    (λ T other. net_nested P H dearer T high other (least_net H high least))

-- at the ends of blocks: nothing is lost outside what is chosen at a lower scale, nor by what is chosen at a greater one, or by nothing
pub low_end : (P : ProblemData) (first k : ℕ) (low : ℕ → Bool) → first ≤ k → IsLeast (scaled P first) low → (T : ℕ → Bool) → NetNoBetter (scaled P k) T (meet T low)
low_end P first k low l least T = dearer_within (scaled P first) (scaled P k) (scales_rise P first k l) low (least_net (scaled P first) low least).best T

pub high_end : (P : ProblemData) (k last : ℕ) (high : ℕ → Bool) → k ≤ last → IsEnd P last high → (T : ℕ → Bool) → NetNoBetter (scaled P k) T (join high T)
high_end P k last high l (inl least) T = cheaper_join (scaled P k) (scaled P last) (scales_rise P k last l) high (least_net (scaled P last) high least).best T
high_end P k last high l (inr none) T =
    let same : join high T ≡ T = fun_ext (λ j. rw (none j) refl) in
    subst (λ (U : ℕ → Bool). NetNoBetter (scaled P k) T U) (sym same) (omega arith)

pub high_chosen : (P : ProblemData) (k last : ℕ) (high : ℕ → Bool) → k ≤ last → IsEnd P last high → (T : ℕ → Bool) → IsNetBest (scaled P k) every T → IsWithin high T
high_chosen P k last high l (inl least) T best = net_nested (scaled P k) (scaled P last) (scales_rise P k last l) T high best (least_net (scaled P last) high least)
high_chosen P k last high l (inr none) T best = λ j e. absurd (true≢false (sym e ∙ none j))

-- a block of a problem is a block at each scale
pub block_scaled : (P : ProblemData) (k : ℕ) (low high : ℕ → Bool) (part : Part) → IsBlock P low high part → IsBlock (scaled P k) low high part
block_scaled P k low high part block = record {
  links = block.links;
  points = block.points;
  between = block.between;
  links_in = λ j e. omega (arith, block.links_in j e, length-map P.links (weighed_row 1000));
  points_in = λ p e. omega (arith, block.points_in p e, length-map P.costs (λ c. k * c));
  unpaid = λ p e. weighed_union P 1000 k high p ∙ block.unpaid p e;
  needs_in = λ j p inside needs out. block.needs_in j p inside (sym (weighed_needs P 1000 k j p) ∙ needs) (sym (weighed_union P 1000 k high p) ∙ out);
}

rows_same : (P : ProblemData) (k : ℕ) (part : Part) (j : ℕ) → part_row (needing (scaled P k) (member part.points)) part j ≡ block_row P part j
rows_same P k part j =
    let row : link_at (needing (scaled P k) (member part.points)) j ≡ needing_row (member part.points) (weighed_row 1000 (link_at P j)) =
    needing_at (scaled P k) (member part.points) j ∙ ap (needing_row (member part.points)) (weighed_at P 1000 k j) in
    ap (λ (r : LinkRow). record { gain = r.gain; eligible = r.eligible; needs = map (place_of part.points) r.needs; charge = r.charge }) row

pub block_same : (P : ProblemData) (k : ℕ) (part : Part) → block_problem (scaled P k) part ≡ scaled_block P k part
block_same P k part =
    let rows : part_row (needing (scaled P k) (member part.points)) part ≡ block_row P part = fun_ext (rows_same P k part) in
    let costs : cost_of (scaled P k) ≡ (λ p. k * cost_of P p) = fun_ext (weighed_cost P 1000 k) in
    ap (λ (f : ℕ → LinkRow). record { links = map f part.links; costs = map (cost_of (scaled P k)) part.points }) rows
    ∙ ap (λ (g : ℕ → ℕ). record { links = map (block_row P part) part.links; costs = map g part.points }) costs

pub scale_blocks_join : (P : ProblemData) → ScaleBlocksJoin P
scale_blocks_join P first k last l m low high lower upper part block V least =
    joins (scaled P k) low high part (block_scaled P k low high part block) (low_end P first k low l lower) (high_end P k last high m upper) (high_chosen P k last high m upper) V
    (subst (λ (Q : ProblemData). IsLeast Q V) (sym (block_same P k part)) least)
