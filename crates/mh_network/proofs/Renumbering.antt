-- A part's problem is the problem of its links within the whole.
use Rattle.std.proofs.Common.{◌≡◌, ℕ, zero, suc, ◌≤◌, ◌<◌, List, [], ◌∷◌, Bool, true, false, cond, refl, arith, sym, ◌∙◌, ap, inl, inr, length, subst, map}
use Rattle.std.specs.Prelude.{◌&&◌, ◌||◌, ◌==◌, nat_lt}
use Rattle.std.specs.List.{list_any, sum_by, slice_index_or}
use Rattle.std.specs.List.Sorted.{IsStrictlyIncreasing}
use Rattle.std.proofs.Math.Path.{fun_ext}
use Rattle.std.proofs.lemmas.List.{get_or_past, get_or-map, length-map}
use Rattle.std.proofs.lemmas.List.Kept.{AllPairs-from_increasing}
use Rattle.std.proofs.lemmas.Bool.{cases_Bool, cases_lt, true≢false, and_parts, and_from, or_left, or_right, eq-eqb, eqb-true, lt-ltb, ltb-true, le-ltb}
use Rattle.mh_network.specs.declared.link_row.LinkRow.{LinkRow}
use Rattle.mh_network.specs.declared.part.Part.{Part}
use Rattle.mh_network.specs.Sums.{sum_below, kept}
use Rattle.mh_network.specs.Problems.{ProblemData, IsProblem, link_at, cost_of, needs_point, no_link}
use Rattle.mh_network.specs.Selection.{member, union_of_needs, gain_sum, cost_sum, charge_sum, price, AllEligible, IsBest, IsLeast}
use Rattle.mh_network.specs.Parts.{Item, IsItem, IsJoined, IsPartOf, part_at, holds, AreParts, place_of, part_row, part_problem, restricted, PartsJoin}
use Rattle.mh_network.specs.Parts.Item.{link, point}
use Rattle.mh_network.specs.Parts.IsJoined.{here, down, up}
use Rattle.mh_network.specs.Laws.Kept.{sum_below-list}
use Rattle.mh_network.specs.Laws.Members.{found, passing, same_answer, listed_sum, all_members}
use Rattle.mh_network.specs.Laws.SumLaws.{sum_below-same}
use Rattle.mh_network.specs.Laws.Optimal.{some_below-from, some_below-gives, needs-in_range}
use Rattle.mh_network.specs.Laws.Halves.{meet, kept_meet}
use Rattle.mh_network.specs.Laws.Nets.{NoBetter, no_better, worth_le, IsBestWithin, IsLeastWithin}
use Rattle.mh_network.proofs.Joining.{ArePartMasks, least_of_masks}

abbrev pub num : List ℕ → ℕ → ℕ
num xs k = slice_index_or xs k 0

pub place_in : (xs : List ℕ) (p : ℕ) → member xs p ≡ true → (place_of xs p < length xs) × (num xs (place_of xs p) ≡ p)
place_in [] p e = absurd (true≢false (sym e))
place_in (x ∷ xs) p e =
    elim (cases_Bool (x == p)) [
      | inl same ↦
          let at_start : place_of (x ∷ xs) p ≡ 0 = rw same refl in
          (omega (arith, at_start), ap (num (x ∷ xs)) at_start ∙ eqb-true x p same)
      | inr other ↦
          let rest = place_in xs p (rw other at e) in
          let later : place_of (x ∷ xs) p ≡ suc (place_of xs p) = rw other refl in
          (omega (arith, later, rest.0), ap (num (x ∷ xs)) later ∙ rest.1)
    ]

pub member_at : (xs : List ℕ) (k : ℕ) → k < length xs → member xs (num xs k) ≡ true
member_at [] k l = absurd (omega arith)
member_at (x ∷ xs) zero l = or_left (x == x) (list_any (λ q. q == x) xs) (eq-eqb x x refl)
member_at (x ∷ xs) (suc k) l = or_right (x == num xs k) (list_any (λ q. q == num xs k) xs) (member_at xs k (omega arith))

pub place_here : (xs : List ℕ) (k : ℕ) → IsStrictlyIncreasing xs → k < length xs → place_of xs (num xs k) ≡ k
place_here xs k rising l =
    let pairs = AllPairs-from_increasing xs rising in
    let there = place_in xs (num xs k) (member_at xs k l) in
    let m : ℕ = place_of xs (num xs k) in
    elim (cases_lt m k) [
      | inl below ↦ absurd (omega (arith, pairs m k 0 below l, there.1))
      | inr above ↦ elim (cases_lt k m) [
        | inl past ↦ absurd (omega (arith, pairs k m 0 past there.0, there.1))
        | inr not_past ↦ omega (arith, above, not_past)
      ]
    ]

pub any_map : (f : ℕ → Bool) (g : ℕ → ℕ) (xs : List ℕ) → list_any f (map g xs) ≡ list_any (λ x. f (g x)) xs
any_map f g [] = refl
any_map f g (x ∷ xs) = ap (λ b. f (g x) || b) (any_map f g xs)

module _ (P : ProblemData) (part : Part) (h : IsPartOf P part) where
  pub row_here : (k : ℕ) → k < length part.links → link_at (part_problem P part) k ≡ part_row P part (num part.links k)
  row_here k l = get_or-map (part_row P part) part.links k 0 no_link l

  -- a link of the part by its number in it
  pub needs_here : (k r : ℕ) → k < length part.links → r < length part.points → needs_point (part_problem P part) k r ≡ needs_point P (num part.links k) (num part.points r)
  needs_here k r l m =
      let ns : List ℕ = (link_at P (num part.links k)).needs in
      let inside : member part.links (num part.links k) ≡ true = member_at part.links k l in
      let first : needs_point (part_problem P part) k r ≡ list_any (λ q. q == r) (map (place_of part.points) ns) =
      ap (λ (x : LinkRow). list_any (λ q. q == r) x.needs) (row_here k l) in
      let second : list_any (λ q. q == r) (map (place_of part.points) ns) ≡ list_any (λ q. place_of part.points q == r) ns = any_map (λ q. q == r) (place_of part.points) ns in
      let third : list_any (λ q. place_of part.points q == r) ns ≡ list_any (λ q. q == num part.points r) ns =
      same_answer (list_any (λ q. place_of part.points q == r) ns) (list_any (λ q. q == num part.points r) ns)
      (λ e.
      let got = found (λ q. place_of part.points q == r) ns e in
      let there = place_in part.points got.0 (h.needs_in (num part.links k) got.0 inside got.1) in
      let same : got.0 ≡ num part.points r = sym there.1 ∙ ap (num part.points) (eqb-true (place_of part.points got.0) r got.2) in
      passing (λ q. q == num part.points r) ns got.0 got.1 (eq-eqb got.0 (num part.points r) same))
      (λ e.
      let got = found (λ q. q == num part.points r) ns e in
      let same : place_of part.points got.0 ≡ r = ap (place_of part.points) (eqb-true got.0 (num part.points r) got.2) ∙ place_here part.points r h.points m in
      passing (λ q. place_of part.points q == r) ns got.0 got.1 (eq-eqb (place_of part.points got.0) r same)) in
      first ∙ (second ∙ third)

  union_here : (S : ℕ → Bool) (r : ℕ) → r < length part.points →
      union_of_needs (part_problem P part) (restricted S part) r ≡ union_of_needs P (meet S (member part.links)) (num part.points r)
  union_here S r m =
      same_answer (union_of_needs (part_problem P part) (restricted S part) r) (union_of_needs P (meet S (member part.links)) (num part.points r))
      (λ e.
      let got = some_below-gives (length (part_problem P part).links) (λ k. restricted S part k && needs_point (part_problem P part) k r) e in
      let k : ℕ = got.0 in
      let both = and_parts (restricted S part k) (needs_point (part_problem P part) k r) got.2 in
      let chosen = and_parts (nat_lt k (length part.links)) (S (num part.links k)) both.0 in
      let l : k < length part.links = ltb-true k (length part.links) chosen.0 in
      let inside : member part.links (num part.links k) ≡ true = member_at part.links k l in
      some_below-from (length P.links) (λ j. meet S (member part.links) j && needs_point P j (num part.points r)) (num part.links k) (h.links_in (num part.links k) inside)
      (and_from _ _ (and_from _ _ chosen.1 inside) (sym (needs_here k r l m) ∙ both.1)))
      (λ e.
      let got = some_below-gives (length P.links) (λ j. meet S (member part.links) j && needs_point P j (num part.points r)) e in
      let j : ℕ = got.0 in
      let both = and_parts (meet S (member part.links) j) (needs_point P j (num part.points r)) got.2 in
      let chosen = and_parts (S j) (member part.links j) both.0 in
      let there = place_in part.links j chosen.1 in
      let k : ℕ = place_of part.links j in
      let picked : S (num part.links k) ≡ true = subst (λ (i : ℕ). S i ≡ true) (sym there.1) chosen.0 in
      let needs : needs_point P (num part.links k) (num part.points r) ≡ true = subst (λ (i : ℕ). needs_point P i (num part.points r) ≡ true) (sym there.1) both.1 in
      some_below-from (length (part_problem P part).links) (λ i. restricted S part i && needs_point (part_problem P part) i r) k (omega (arith, there.0, length-map part.links (part_row P part)))
      (and_from _ _ (and_from _ _ (lt-ltb k (length part.links) there.0) picked) (needs_here k r there.0 m ∙ needs)))

  -- what the links of the part that S has add up to
  sums_here : (f : LinkRow → ℕ) → ((j : ℕ) → f (part_row P part j) ≡ f (link_at P j)) → (S : ℕ → Bool) →
      sum_below (length (part_problem P part).links) (kept (restricted S part) (λ k. f (link_at (part_problem P part) k))) ≡ sum_below (length P.links) (kept (meet S (member part.links)) (λ j. f (link_at P j)))
  sums_here f same S =
      let g : ℕ → ℕ = kept S (λ j. f (link_at P j)) in
      let count : length (part_problem P part).links ≡ length part.links = length-map part.links (part_row P part) in
      let first : sum_below (length (part_problem P part).links) (kept (restricted S part) (λ k. f (link_at (part_problem P part) k))) ≡ sum_below (length part.links) (kept (restricted S part) (λ k. f (link_at (part_problem P part) k))) =
      ap (λ (n : ℕ). sum_below n (kept (restricted S part) (λ k. f (link_at (part_problem P part) k)))) count in
      let second : sum_below (length part.links) (kept (restricted S part) (λ k. f (link_at (part_problem P part) k))) ≡ sum_below (length part.links) (λ k. g (num part.links k)) =
      sum_below-same (length part.links) _ _ (λ k l.
      let value : f (link_at (part_problem P part) k) ≡ f (link_at P (num part.links k)) = ap f (row_here k l) ∙ same (num part.links k) in
      let test : restricted S part k ≡ S (num part.links k) = rw (lt-ltb k (length part.links) l) refl in
      ap (λ (b : Bool). cond b (f (link_at (part_problem P part) k)) 0) test ∙ ap (λ (v : ℕ). cond (S (num part.links k)) v 0) value) in
      let third : sum_below (length part.links) (λ k. g (num part.links k)) ≡ sum_by g part.links = sum_below-list g 0 part.links in
      let fourth : sum_by g part.links ≡ sum_below (length P.links) (kept (member part.links) g) = listed_sum g (length P.links) part.links h.links (all_members (λ j. j < length P.links) part.links h.links_in) in
      let fifth : sum_below (length P.links) (kept (member part.links) g) ≡ sum_below (length P.links) (kept (meet S (member part.links)) (λ j. f (link_at P j))) =
      sum_below-same (length P.links) _ _ (λ k l. kept_meet S (member part.links) (λ j. f (link_at P j)) k) in
      first ∙ (second ∙ (third ∙ (fourth ∙ fifth)))

  pub gains_here : (S : ℕ → Bool) → gain_sum (part_problem P part) (restricted S part) ≡ gain_sum P (meet S (member part.links))
  gains_here S = sums_here (λ (r : LinkRow). r.gain) (λ j. refl) S

  pub charges_here : (S : ℕ → Bool) → charge_sum (part_problem P part) (restricted S part) ≡ charge_sum P (meet S (member part.links))
  charges_here S = sums_here (λ (r : LinkRow). r.charge) (λ j. refl) S

  costs_here : (S : ℕ → Bool) → cost_sum (part_problem P part) (union_of_needs (part_problem P part) (restricted S part)) ≡ cost_sum P (union_of_needs P (meet S (member part.links)))
  costs_here S =
      let U : ℕ → Bool = union_of_needs P (meet S (member part.links)) in
      let g : ℕ → ℕ = kept U (cost_of P) in
      let count : length (part_problem P part).costs ≡ length part.points = length-map part.points (cost_of P) in
      let V : ℕ → Bool = union_of_needs (part_problem P part) (restricted S part) in
      let first : cost_sum (part_problem P part) V ≡ sum_below (length part.points) (kept V (cost_of (part_problem P part))) =
      ap (λ (n : ℕ). sum_below n (kept V (cost_of (part_problem P part)))) count in
      let second : sum_below (length part.points) (kept V (cost_of (part_problem P part))) ≡ sum_below (length part.points) (λ r. g (num part.points r)) =
      sum_below-same (length part.points) _ _ (λ r l.
      let value : cost_of (part_problem P part) r ≡ cost_of P (num part.points r) = get_or-map (cost_of P) part.points r 0 0 l in
      ap (λ (b : Bool). cond b (cost_of (part_problem P part) r) 0) (union_here S r l) ∙ ap (λ (v : ℕ). cond (U (num part.points r)) v 0) value) in
      let third : sum_below (length part.points) (λ r. g (num part.points r)) ≡ sum_by g part.points = sum_below-list g 0 part.points in
      let fourth : sum_by g part.points ≡ sum_below (length P.costs) (kept (member part.points) g) = listed_sum g (length P.costs) part.points h.points (all_members (λ p. p < length P.costs) part.points h.points_in) in
      let fifth : sum_below (length P.costs) (kept (member part.points) g) ≡ cost_sum P U = sum_below-same (length P.costs) _ _ (λ p l.
      elim (cases_Bool (member part.points p)) [
        | inl inside ↦ rw inside refl
        | inr outside ↦
            let none : U p ≡ false = elim (cases_Bool (U p)) [
              | inl e ↦
                  let got = some_below-gives (length P.links) (λ j. meet S (member part.links) j && needs_point P j p) e in
                  let both = and_parts (meet S (member part.links) got.0) (needs_point P got.0 p) got.2 in
                  absurd (true≢false (sym (h.needs_in got.0 p (and_parts (S got.0) (member part.links got.0) both.0).1 both.1) ∙ outside))
              | inr e ↦ e
            ] in
            rw (outside, none) refl
      ]) in
      first ∙ (second ∙ (third ∙ (fourth ∙ fifth)))

  pub prices_here : (S : ℕ → Bool) → price (part_problem P part) (restricted S part) ≡ price P (meet S (member part.links))
  prices_here S = omega (arith, costs_here S, charges_here S)

  into_whole : (T S : ℕ → Bool) → NoBetter (part_problem P part) (restricted T part) (restricted S part) → NoBetter P (meet T (member part.links)) (meet S (member part.links))
  into_whole T S better = omega (arith, better, gains_here T, gains_here S, prices_here T, prices_here S)

  into_part : (T S : ℕ → Bool) → NoBetter P (meet T (member part.links)) (meet S (member part.links)) → NoBetter (part_problem P part) (restricted T part) (restricted S part)
  into_part T S better = omega (arith, better, gains_here T, gains_here S, prices_here T, prices_here S)

  pub met : (T : ℕ → Bool) → ((j : ℕ) → T j ≡ true → member part.links j ≡ true) → meet T (member part.links) ≡ T
  met T inside = fun_ext (λ j. elim (cases_Bool (T j)) [
    | inl e ↦ rw (e, inside j e) refl
    | inr e ↦ rw e refl
  ])

  pub eligible_here : (k : ℕ) → k < length part.links → (link_at (part_problem P part) k).eligible ≡ (link_at P (num part.links k)).eligible
  eligible_here k l = ap (λ (x : LinkRow). x.eligible) (row_here k l)

  restricted_eligible : (T : ℕ → Bool) → AllEligible P T → AllEligible (part_problem P part) (restricted T part)
  restricted_eligible T fits k e =
      let both = and_parts (nat_lt k (length part.links)) (T (num part.links k)) e in
      eligible_here k (ltb-true k (length part.links) both.0) ∙ fits (num part.links k) both.1

  pub past_end : (V : ℕ → Bool) → AllEligible (part_problem P part) V → (k : ℕ) → length part.links ≤ k → V k ≡ false
  past_end V fits k l = elim (cases_Bool (V k)) [
    | inl e ↦
        let none : (link_at (part_problem P part) k).eligible ≡ false =
        ap (λ (x : LinkRow). x.eligible) (get_or_past (part_problem P part).links k no_link (omega (arith, l, length-map part.links (part_row P part)))) in
        absurd (true≢false (sym (fits k e) ∙ none))
    | inr e ↦ e
  ]

  pub restricted_spread : (V : ℕ → Bool) → AllEligible (part_problem P part) V → restricted (λ j. member part.links j && V (place_of part.links j)) part ≡ V
  restricted_spread V fits = fun_ext (λ k. elim (cases_lt k (length part.links)) [
    | inl l ↦ rw (lt-ltb k (length part.links) l, member_at part.links k l, place_here part.links k h.links l) refl
    | inr past ↦
        let gone : nat_lt k (length part.links) ≡ false = le-ltb k (length part.links) past in
        rw (gone, past_end V fits k past) refl
  ])

  best_here : (T : ℕ → Bool) → IsBestWithin P (member part.links) T → IsBest (part_problem P part) (restricted T part)
  best_here T best = record {
    eligible = restricted_eligible T best.eligible;
    greatest = λ V fits.
        let W : ℕ → Bool = λ j. member part.links j && V (place_of part.links j) in
        let inside : (j : ℕ) → W j ≡ true → member part.links j ≡ true = λ j e. (and_parts (member part.links j) (V (place_of part.links j)) e).0 in
        let eligible : AllEligible P W = λ j e.
        let both = and_parts (member part.links j) (V (place_of part.links j)) e in
        let there = place_in part.links j both.0 in
        let row : (link_at P (num part.links (place_of part.links j))).eligible ≡ true = sym (eligible_here (place_of part.links j) there.0) ∙ fits (place_of part.links j) both.1 in
        subst (λ (i : ℕ). (link_at P i).eligible ≡ true) there.1 row in
        let better : NoBetter P W T = best.greatest W eligible inside in
        let halves : NoBetter P (meet W (member part.links)) (meet T (member part.links)) = rw (met W inside, met T best.inside) better in
        let renumbered : NoBetter (part_problem P part) (restricted W part) (restricted T part) = into_part W T halves in
        worth_le (part_problem P part) V (restricted T part) (subst (λ (U : ℕ → Bool). NoBetter (part_problem P part) U (restricted T part)) (restricted_spread V fits) renumbered);
  }

  pub least_within : (S : ℕ → Bool) → IsLeast (part_problem P part) (restricted S part) → IsLeastWithin P (member part.links) (meet S (member part.links))
  least_within S least = record {
    best = record {
      inside = λ j e. (and_parts (S j) (member part.links j) e).1;
      eligible = λ j e.
          let both = and_parts (S j) (member part.links j) e in
          let there = place_in part.links j both.1 in
          let picked : S (num part.links (place_of part.links j)) ≡ true = subst (λ (i : ℕ). S i ≡ true) (sym there.1) both.0 in
          let row : (link_at P (num part.links (place_of part.links j))).eligible ≡ true =
          sym (eligible_here (place_of part.links j) there.0) ∙ least.best.eligible (place_of part.links j) (and_from _ _ (lt-ltb (place_of part.links j) (length part.links) there.0) picked) in
          subst (λ (i : ℕ). (link_at P i).eligible ≡ true) there.1 row;
      greatest = λ T fits inside.
          let better : NoBetter (part_problem P part) (restricted T part) (restricted S part) =
          no_better (part_problem P part) (restricted T part) (restricted S part) (least.best.greatest (restricted T part) (restricted_eligible T fits)) in
          rw (met T inside) at (into_whole T S better);
    };
    least = λ T best j e.
        let both = and_parts (S j) (member part.links j) e in
        let there = place_in part.links j both.1 in
        let k : ℕ = place_of part.links j in
        let picked : S (num part.links k) ≡ true = subst (λ (i : ℕ). S i ≡ true) (sym there.1) both.0 in
        let other : restricted T part k ≡ true = least.least (restricted T part) (best_here T best) k (and_from _ _ (lt-ltb k (length part.links) there.0) picked) in
        subst (λ (i : ℕ). T i ≡ true) there.1 (and_parts (nat_lt k (length part.links)) (T (num part.links k)) other).1;
  }

-- the parts of a problem are such
needs_joined : (P : ProblemData) (j p : ℕ) → needs_point P j p ≡ true → IsJoined P (link j) (point p)
needs_joined P j p e = down here e

links_joined : (P : ProblemData) (j k p : ℕ) → needs_point P j p ≡ true → needs_point P k p ≡ true → IsJoined P (link j) (link k)
links_joined P j k p e f = up (down here e) f

in_same : (P : ProblemData) (parts : List Part) → AreParts P parts → (i : ℕ) (x y : Item) → holds (part_at parts i) x ≡ true → IsItem P y → IsJoined P x y → holds (part_at parts i) y ≡ true
in_same P parts are i x y e item joined =
    let other = are.covered y item in
    let same : i ≡ other.0 = are.apart i other.0 x y e other.2 joined in
    subst (λ (k : ℕ). holds (part_at parts k) y ≡ true) (sym same) other.2

pub part_of : (P : ProblemData) (parts : List Part) → IsProblem P → AreParts P parts → (i : ℕ) → IsPartOf P (part_at parts i)
part_of P parts problem are i = record {
  links = are.links i;
  points = are.points i;
  links_in = λ j e. are.items i (link j) e;
  points_in = λ p e. are.items i (point p) e;
  needs_in = λ j p e needs. in_same P parts are i (link j) (point p) e (problem.in_range j p needs) (needs_joined P j p needs);
}

pub part_masks : (P : ProblemData) (parts : List Part) → AreParts P parts → ArePartMasks P (λ i. member (part_at parts i).links) (length parts)
part_masks P parts are = record {
  separate = λ i l. record {
    same = λ j k p e f. same_answer (member (part_at parts i).links j) (member (part_at parts i).links k)
        (λ inside. in_same P parts are i (link j) (link k) inside (needs-in_range P k p f) (links_joined P j k p e f))
        (λ inside. in_same P parts are i (link k) (link j) inside (needs-in_range P j p e) (links_joined P k j p f e));
  };
  apart = λ i k j l m e f. are.apart i k (link j) (link j) e f here;
  covered = λ j l. are.covered (link j) l;
}

pub parts_joined : (P : ProblemData) → IsProblem P → (parts : List Part) → AreParts P parts → PartsJoin P parts
parts_joined P problem parts are S within each =
    least_of_masks P (λ i. member (part_at parts i).links) (length parts) S (part_masks P parts are) within
    (λ i l. least_within P (part_at parts i) (part_of P parts problem are i) S (each i l))
