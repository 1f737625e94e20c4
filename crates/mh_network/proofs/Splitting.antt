-- A block splits at links between: in those of its links, and in the others with the points that those do not need.
use Rattle.std.proofs.Common.{◌≡◌, ℕ, List, Bool, true, false, refl, sym, ◌∙◌, ap, inl, inr, length}
use Rattle.std.specs.Prelude.{◌==◌, ◌&&◌, not}
use Rattle.std.specs.List.{filter}
use Rattle.std.proofs.lemmas.Map.Views.{any-filter_same}
use Rattle.std.proofs.lemmas.List.Kept.{IsStrictlyIncreasing-filter}
use Rattle.std.proofs.lemmas.Bool.{and_from, and_parts, cases_Bool, eqb-true, lt-ltb, ltb-true, not-true, not_from_false, true≢false}
use Rattle.mh_network.specs.Problems.{IsProblem, ProblemData, needs_point}
use Rattle.mh_network.specs.Selection.{member, union_of_needs}
use Rattle.mh_network.specs.Blocks.{BlocksSplit, gaining_links}
use Rattle.mh_network.specs.Scales.{net_of}
use Rattle.mh_network.specs.Laws.Halves.{IsWithin, needs_within}
use Rattle.mh_network.specs.Laws.Optimal.{some_below-gives}
use Rattle.mh_network.proofs.Solving.{gaining_inside}

filtered : (V : ℕ → Bool) (xs : List ℕ) (j : ℕ) → member (filter V xs) j ≡ (V j && member xs j)
filtered V xs j = any-filter_same (λ x. x == j) V (V j) (λ k e. ap V (eqb-true k j e)) xs

of_both : (V : ℕ → Bool) (xs : List ℕ) (j : ℕ) → member (filter V xs) j ≡ true → (V j ≡ true) × (member xs j ≡ true)
of_both V xs j e = and_parts (V j) (member xs j) (sym (filtered V xs j) ∙ e)

to_both : (V : ℕ → Bool) (xs : List ℕ) (j : ℕ) → V j ≡ true → member xs j ≡ true → member (filter V xs) j ≡ true
to_both V xs j e f = filtered V xs j ∙ and_from (V j) (member xs j) e f

upper_same : (m l h : Bool) → (m ≡ true → l ≡ true) → (m && (l && not h)) ≡ (m && not h)
upper_same true l h f = ap (λ b. b && not h) (f refl)
upper_same false l h f = refl

lower_same : (m l h : Bool) → (h ≡ true → m ≡ true) → (not m && (l && not h)) ≡ (l && not m)
lower_same true true h f = refl
lower_same true false h f = refl
lower_same false l true f = absurd (true≢false (sym (f refl)))
lower_same false true false f = refl
lower_same false false false f = refl

alone : (g : Bool) → g ≡ (g && not false)
alone true = refl
alone false = refl

none_needed : (P : ProblemData) (p : ℕ) → union_of_needs P (λ _. false) p ≡ false
none_needed P p = elim (cases_Bool (union_of_needs P (λ _. false) p)) [
  | inl e ↦ absurd (true≢false (sym (and_parts false (needs_point P (some_below-gives (length P.links) (λ j. false && needs_point P j p) e).0 p) (some_below-gives (length P.links) (λ j. false && needs_point P j p) e).2).0))
  | inr e ↦ e
]

unneeded : (P : ProblemData) (mid high : ℕ → Bool) (p : ℕ) → IsWithin high mid → union_of_needs P mid p ≡ false → union_of_needs P high p ≡ false
unneeded P mid high p within out = elim (cases_Bool (union_of_needs P high p)) [
  | inl e ↦ absurd (true≢false (sym (needs_within P high mid within p e) ∙ out))
  | inr e ↦ e
]

pub blocks_split : (P : ProblemData) → IsProblem P → BlocksSplit P
blocks_split P problem = record {
  first = λ part links points all_links all_points. record {
    links = links;
    points = points;
    between = λ j. all_links j ∙ alone (gaining_links P j);
    links_in = λ j e. gaining_inside P j (ltb-true 0 (net_of P j) (sym (all_links j) ∙ e));
    points_in = λ p e. ltb-true p (length P.costs) (sym (all_points p) ∙ e);
    unpaid = λ p e. none_needed P p;
    needs_in = λ j p e needs out. all_points p ∙ lt-ltb p (length P.costs) (problem.in_range j p needs);
  };
  upper = λ low mid high part block within. record {
    links = IsStrictlyIncreasing-filter mid part.links block.links;
    points = block.points;
    between = λ j. filtered mid part.links j ∙ (ap (λ b. mid j && b) (block.between j) ∙ upper_same (mid j) (low j) (high j) (within j));
    links_in = λ j e. block.links_in j (of_both mid part.links j e).1;
    points_in = block.points_in;
    unpaid = block.unpaid;
    needs_in = λ j p e needs out. block.needs_in j p (of_both mid part.links j e).1 needs out;
  };
  lower = λ low mid high part block within.
      let left : ℕ → Bool = λ j. not (mid j) in
      let kept_points : ℕ → Bool = λ p. not (union_of_needs P mid p) in
      record {
        links = IsStrictlyIncreasing-filter left part.links block.links;
        points = IsStrictlyIncreasing-filter kept_points part.points block.points;
        between = λ j. filtered left part.links j ∙ (ap (λ b. left j && b) (block.between j) ∙ lower_same (mid j) (low j) (high j) (within j));
        links_in = λ j e. block.links_in j (of_both left part.links j e).1;
        points_in = λ p e. block.points_in p (of_both kept_points part.points p e).1;
        unpaid = λ p e. not-true (union_of_needs P mid p) (of_both kept_points part.points p e).0;
        needs_in = λ j p e needs out.
            to_both kept_points part.points p (not_from_false (union_of_needs P mid p) out)
            (block.needs_in j p (of_both left part.links j e).1 needs (unneeded P mid high p within out));
      };
}
