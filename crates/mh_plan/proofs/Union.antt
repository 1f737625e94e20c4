-- The points that listed links need.
use Rattle.std.proofs.Common.{◌≡◌, ℕ, ◌+◌, ◌<◌, List, [], ◌∷◌, ◌++◌, Bool, true, false, refl, sym, ◌∙◌, ap, length, take}
use Rattle.std.specs.Prelude.{◌==◌, ◌||◌, All}
use Rattle.std.specs.List.{list_any}
use Rattle.std.proofs.lemmas.List.{take_more}
use Rattle.std.proofs.lemmas.List.Elements.{All-append}
use Rattle.std.proofs.lemmas.List.Folds.{list_any-append}
use Rattle.mh_network.specs.Problems.{ProblemData, IsProblem, link_at, needs_point}
use Rattle.mh_network.specs.Selection.{member}
use Rattle.mh_plan.proofs.Members.{all_members, num}

or_false : (b : Bool) → (b || false) ≡ b
or_false true = refl
or_false false = refl

pub needs_inside : (P : ProblemData) → IsProblem P → (j : ℕ) (old new : List ℕ) → new ≡ old ++ (link_at P j).needs → All (λ p. p < length P.costs) old → All (λ p. p < length P.costs) new
needs_inside P problem j old new e h =
    rw e (All-append (λ p. p < length P.costs) old (link_at P j).needs h (all_members (λ p. p < length P.costs) (link_at P j).needs (problem.in_range j)))

pub needs_more : (P : ProblemData) (links old new : List ℕ) (i : ℕ) → i < length links → new ≡ old ++ (link_at P (num links i)).needs → ((p : ℕ) → member old p ≡ list_any (λ j. needs_point P j p) (take i links)) →
    (p : ℕ) → member new p ≡ list_any (λ j. needs_point P j p) (take (i + 1) links)
needs_more P links old new i l e h p =
    let whole : member new p ≡ (member old p || needs_point P (num links i) p) = ap (λ (xs : List ℕ). member xs p) e ∙ list_any-append (λ q. q == p) old (link_at P (num links i)).needs in
    let later : list_any (λ j. needs_point P j p) (take (i + 1) links) ≡ (list_any (λ j. needs_point P j p) (take i links) || (needs_point P (num links i) p || false)) =
    ap (list_any (λ j. needs_point P j p)) (take_more links i 0 l) ∙ list_any-append (λ j. needs_point P j p) (take i links) (num links i ∷ []) in
    whole ∙ (ap (λ (b : Bool). b || needs_point P (num links i) p) (h p)
    ∙ (ap (λ (b : Bool). list_any (λ j. needs_point P j p) (take i links) || b) (sym (or_false (needs_point P (num links i) p))) ∙ sym later))
