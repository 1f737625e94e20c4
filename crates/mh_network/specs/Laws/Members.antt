-- Lists of numbers as sets.
use Rattle.std.proofs.Common.{◌≡◌, ℕ, zero, suc, ◌+◌, ◌<◌, List, [], ◌∷◌, Bool, true, false, cond, refl, arith, sym, ◌∙◌, ap, subst, inl, inr}
use Rattle.std.specs.Prelude.{◌==◌, ◌&&◌, ◌||◌}
use Rattle.std.specs.List.{sum_by, All, AllPairs, list_any}
use Rattle.std.specs.List.Sorted.{IsStrictlyIncreasing}
use Rattle.std.proofs.lemmas.Bool.{cases_Bool, true≢false, eqb-true, eq-eqb, ne_eqb, or_left, or_right, and_parts, and_from, cond-true, cond-false}
use Rattle.std.proofs.lemmas.List.Elements.{All-head, All-tail, All-cons}
use Rattle.std.proofs.lemmas.List.Folds.{list_any_none}
use Rattle.std.proofs.lemmas.List.Kept.{AllPairs-from_increasing}
use Rattle.std.proofs.lemmas.List.Sums.{sum_by-cons}
use Rattle.mh_network.specs.Sums.{sum_below, some_below, kept, amount_at}
use Rattle.mh_network.specs.Selection.{member}
use Rattle.mh_network.specs.Laws.SumLaws.{sum_below-same, sum_by_keys}
use Rattle.mh_network.specs.Laws.Optimal.{some_below-from, some_below-gives}

-- a fact of each number of a list holds of a member
pub member_is : (P : ℕ → Type 0) (xs : List ℕ) → All P xs → (j : ℕ) → member xs j ≡ true → P j
member_is P [] h j e = absurd (true≢false (sym e))
member_is P (x ∷ xs) h j e =
    elim (cases_Bool (x == j)) [
      | inl same ↦ subst (λ (i : ℕ). P i) (eqb-true x j same) (All-head P x xs h)
      | inr other ↦ member_is P xs (All-tail P x xs h) j (rw other at e)
    ]

pub found : (q : ℕ → Bool) (xs : List ℕ) → list_any q xs ≡ true → (j : ℕ) × (member xs j ≡ true) × (q j ≡ true)
found q [] e = absurd (true≢false (sym e))
found q (x ∷ xs) e =
    elim (cases_Bool (q x)) [
      | inl here ↦ (x, or_left (x == x) (member xs x) (eq-eqb x x refl), here)
      | inr later ↦
          let rest = found q xs (rw later at e) in
          (rest.0, or_right (x == rest.0) (member xs rest.0) rest.1, rest.2)
    ]

pub passing : (q : ℕ → Bool) (xs : List ℕ) (j : ℕ) → member xs j ≡ true → q j ≡ true → list_any q xs ≡ true
passing q [] j e h = absurd (true≢false (sym e))
passing q (x ∷ xs) j e h =
    elim (cases_Bool (x == j)) [
      | inl same ↦ or_left (q x) (list_any q xs) (subst (λ (i : ℕ). q i ≡ true) (sym (eqb-true x j same)) h)
      | inr other ↦ or_right (q x) (list_any q xs) (passing q xs j (rw other at e) h)
    ]

pub same_answer : (b c : Bool) → (b ≡ true → c ≡ true) → (c ≡ true → b ≡ true) → b ≡ c
same_answer true c f g = sym (f refl)
same_answer false true f g = g refl
same_answer false false f g = refl

-- whether some member below a bound passes, if none passes from the bound on
pub some_member : (n : ℕ) (q : ℕ → Bool) (xs : List ℕ) → ((j : ℕ) → q j ≡ true → j < n) → some_below n (λ j. member xs j && q j) ≡ list_any q xs
some_member n q xs within =
    same_answer (some_below n (λ j. member xs j && q j)) (list_any q xs)
    (λ e.
    let k = some_below-gives n (λ j. member xs j && q j) e in
    let both = and_parts (member xs k.0) (q k.0) k.2 in
    passing q xs k.0 both.0 both.1)
    (λ e.
    let k = found q xs e in
    some_below-from n (λ j. member xs j && q j) k.0 (within k.0 k.2) (and_from (member xs k.0) (q k.0) k.1 k.2))

absent : (x : ℕ) (xs : List ℕ) → All (λ y. x < y) xs → member xs x ≡ false
absent x xs h = list_any_none (λ y. y == x) xs (λ k d l. let later = h k d l in ne_eqb _ x (λ e. absurd (omega arith)))

each_key : (f : ℕ → ℕ) (xs : List ℕ) → AllPairs (λ x y. x < y) xs → (k : ℕ) → amount_at (λ x. x) f xs k ≡ kept (member xs) f k
each_key f [] h k = refl
each_key f (x ∷ xs) h k =
    let rest : amount_at (λ i. i) f xs k ≡ kept (member xs) f k = each_key f xs (λ i j d l b. h (suc i) (suc j) d (omega arith) (omega arith)) k in
    let more : amount_at (λ i. i) f (x ∷ xs) k ≡ cond (x == k) (f x) 0 + amount_at (λ i. i) f xs k = sum_by-cons (λ y. cond (y == k) (f y) 0) x xs in
    let greater : All (λ y. x < y) xs = λ i d l. h zero (suc i) d (omega arith) (omega arith) in
    elim (cases_Bool (x == k)) [
      | inl same ↦
          let e : x ≡ k = eqb-true x k same in
          let gone : member xs k ≡ false = subst (λ (i : ℕ). member xs i ≡ false) e (absent x xs greater) in
          let here : cond (x == k) (f x) 0 ≡ f x = cond-true (x == k) (f x) 0 same in
          let later : kept (member xs) f k ≡ 0 = cond-false (member xs k) (f k) 0 gone in
          let whole : kept (member (x ∷ xs)) f k ≡ f k = cond-true ((x == k) || member xs k) (f k) 0 (or_left (x == k) (member xs k) same) in
          let alike : f x ≡ f k = ap f e in
          omega arith
      | inr other ↦
          let here : cond (x == k) (f x) 0 ≡ 0 = cond-false (x == k) (f x) 0 other in
          let whole : kept (member (x ∷ xs)) f k ≡ kept (member xs) f k = ap (λ b. cond (b || member xs k) (f k) 0) other in
          omega arith
    ]

-- a sum over ascending numbers is the sum over the set of them
pub listed_sum : (f : ℕ → ℕ) (n : ℕ) (xs : List ℕ) → IsStrictlyIncreasing xs → All (λ j. j < n) xs → sum_by f xs ≡ sum_below n (kept (member xs) f)
listed_sum f n xs up within =
    sum_by_keys (λ x. x) f (λ _. true) n xs within
    ∙ sum_below-same n (amount_at (λ x. x) f xs) (kept (member xs) f) (λ k l. each_key f xs (AllPairs-from_increasing xs up) k)

-- a fact of each member holds of each number of the list
pub all_members : (Good : ℕ → Type 0) (xs : List ℕ) → ((j : ℕ) → member xs j ≡ true → Good j) → All Good xs
all_members Good [] h = λ k d l. absurd (omega (arith, l))
all_members Good (x ∷ xs) h = All-cons Good x xs (h x (or_left (x == x) (member xs x) (eq-eqb x x refl))) (all_members Good xs (λ j e. h j (or_right (x == j) (member xs j) e)))
