-- Lists of numbers as sets, and links of a problem.
use Rattle.std.proofs.Common.{◌≡◌, ℕ, ◌<◌, List, [], ◌∷◌, Bool, true, false, refl, arith, sym, ◌∙◌, ap, subst, inl, inr, length}
use Rattle.std.specs.Prelude.{◌==◌, All}
use Rattle.std.specs.List.{slice_index_or}
use Rattle.std.proofs.lemmas.Bool.{cases_Bool, cases_lt, true≢false, eqb-true, eq-eqb, or_left, or_right}
use Rattle.std.proofs.lemmas.List.{get_or_past}
use Rattle.std.proofs.lemmas.List.Elements.{All-cons, All-head, All-tail}
use Rattle.mh_network.specs.declared.link_row.LinkRow.{LinkRow}
use Rattle.mh_network.specs.Problems.{ProblemData, link_at, no_link}
use Rattle.mh_network.specs.Selection.{member}

abbrev pub num : List ℕ → ℕ → ℕ
num xs k = slice_index_or xs k 0

pub same_answer : (b c : Bool) → (b ≡ true → c ≡ true) → (c ≡ true → b ≡ true) → b ≡ c
same_answer true c f g = sym (f refl)
same_answer false true f g = g refl
same_answer false false f g = refl

-- what each number of a list is, a member is, and the other way round
pub member_is : (Good : ℕ → Type 0) (xs : List ℕ) → All Good xs → (j : ℕ) → member xs j ≡ true → Good j
member_is Good [] h j e = absurd (true≢false (sym e))
member_is Good (x ∷ xs) h j e =
    elim (cases_Bool (x == j)) [
      | inl same ↦ subst (λ (i : ℕ). Good i) (eqb-true x j same) (All-head Good x xs h)
      | inr other ↦ member_is Good xs (All-tail Good x xs h) j (rw other at e)
    ]

pub all_members : (Good : ℕ → Type 0) (xs : List ℕ) → ((j : ℕ) → member xs j ≡ true → Good j) → All Good xs
all_members Good [] h = λ k d l. absurd (omega (arith, l))
all_members Good (x ∷ xs) h = All-cons Good x xs (h x (or_left (x == x) (member xs x) (eq-eqb x x refl))) (all_members Good xs (λ j e. h j (or_right (x == j) (member xs j) e)))

-- what may be chosen is a link of the problem
pub eligible_below : (P : ProblemData) (j : ℕ) → (link_at P j).eligible ≡ true → j < length P.links
eligible_below P j h =
    elim (cases_lt j (length P.links)) [
      | inl m ↦ m
      | inr m ↦ absurd (true≢false (sym h ∙ ap (λ (l : LinkRow). l.eligible) (get_or_past P.links j no_link m)))
    ]
