-- Labels that are joined link by link.
use Rattle.std.proofs.Common.{◌≡◌, ◌≢◌, get_or-set_same, get_or-set_other, ℕ, zero, suc, ◌+◌, ◌≤◌, ◌<◌, ◌⊎◌, List, [], ◌∷◌, ◌++◌, true, false, refl, arith, sym, ◌∙◌, ap, inl, inr, length, subst, map, take}
use Rattle.std.specs.Prelude.{◌==◌, All}
use Rattle.std.specs.List.{slice_index_or, slice_set}
use Rattle.std.proofs.lemmas.List.{get_or-map, get_or_past, length-map, length-set}
use Rattle.std.proofs.lemmas.Bool.{cases_lt, cases_eq, true≢false, or_left, or_right, or_cases, eq-eqb, eqb-true, ne_eqb}
use Rattle.mh_network.specs.Problems.{ProblemData, IsProblem, link_at, needs_point}
use Rattle.mh_network.specs.Selection.{member}
use Rattle.mh_network.specs.Parts.{Item, IsJoined}
use Rattle.mh_network.specs.Parts.Item.{link, point}
use Rattle.mh_network.specs.Parts.IsJoined.{here, down, up}
use Rattle.std.proofs.lemmas.Grind.{common_steps}
use Rattle.mh_network.specs.Laws.Members.{all_members}
use Rattle.mh_network.specs.inner.Labels.{label_of, relabelled, IsRelabelled, AreLabels, AreOwnLabels, LeadsDown}

pub joined_trans : (P : ProblemData) (x y z : Item) → IsJoined P x y → IsJoined P y z → IsJoined P x z
joined_trans P x y z f here = f
joined_trans P x y z f (down g e) = down (joined_trans P x y _ f g) e
joined_trans P x y z f (up g e) = up (joined_trans P x y _ f g) e

pub joined_sym : (P : ProblemData) (x y : Item) → IsJoined P x y → IsJoined P y x
joined_sym P x y here = here
joined_sym P x y (down {j} {p} g e) = joined_trans P (point p) (link j) x (up here e) (joined_sym P x (link j) g)
joined_sym P x y (up {j} {p} g e) = joined_trans P (link j) (point p) x (down here e) (joined_sym P x (point p) g)

-- one link more
pub labels_more : (P : ProblemData) (n : ℕ) (old new : List ℕ) → IsProblem P → AreLabels P n old → IsRelabelled (link_at P n).needs old new → AreLabels P (n + 1) new
labels_more P n old new problem h step = record {
  count = step.count ∙ h.count;
  within = λ p l. step.within (length P.costs) (λ q m. h.within q (omega (arith, m, h.count))) p (omega (arith, l, h.count));
  same = λ j p q l e f. elim (cases_lt j n) [
    | inl m ↦ step.kept p q (omega (arith, problem.in_range j p e, h.count)) (omega (arith, problem.in_range j q f, h.count)) (h.same j p q m e f)
    | inr m ↦
        let this : n ≡ j = omega (arith, l, m) in
        step.one p q (subst (λ (i : ℕ). needs_point P i p ≡ true) (sym this) e) (subst (λ (i : ℕ). needs_point P i q ≡ true) (sym this) f)
  ];
  sound = λ p q l m e. elim (step.origin p q (omega (arith, l, h.count)) (omega (arith, m, h.count)) e) [
    | inl before ↦ h.sound p q l m before
    | inr both ↦
        let a : ℕ = both.0 in
        let b : ℕ = both.1 in
        let to_a : IsJoined P (point p) (point a) = h.sound p a l (problem.in_range n a both.2) both.4 in
        let to_b : IsJoined P (point q) (point b) = h.sound q b m (problem.in_range n b both.3) both.5 in
        let across : IsJoined P (point a) (point b) = down (up here both.2) both.3 in
        joined_trans P (point p) (point b) (point q) (joined_trans P (point p) (point a) (point b) to_a across) (joined_sym P (point q) (point b) to_b)
  ];
}

pub labels_none : (P : ProblemData) (labels : List ℕ) → AreOwnLabels (length P.costs) labels → AreLabels P 0 labels
labels_none P labels h = record {
  count = h.0;
  within = λ p l. omega (arith, h.1 p l, l);
  same = λ j p q l e f. absurd (omega (arith, l));
  sound = λ p q l m e.
      let same : p ≡ q = sym (h.1 p l) ∙ (e ∙ h.1 q m) in
      subst (λ (i : ℕ). IsJoined P (point p) (point i)) same here;
}

-- a list that has one number more
pub member_last : (xs : List ℕ) (x p : ℕ) → member (xs ++ x ∷ []) p ≡ true → (member xs p ≡ true) ⊎ (x ≡ p)
member_last [] x p e = elim (or_cases (x == p) false e) [ inl same ↦ inr (eqb-true x p same) | inr none ↦ absurd (true≢false (sym none)) ]
member_last (y ∷ ys) x p e = elim (or_cases (y == p) (member (ys ++ x ∷ []) p) e) [
  | inl same ↦ inl (or_left (y == p) (member ys p) same)
  | inr later ↦ elim (member_last ys x p later) [ inl found ↦ inl (or_right (y == p) (member ys p) found) | inr last ↦ inr last ]
]

pub member_more : (xs : List ℕ) (x p : ℕ) → member xs p ≡ true → member (xs ++ x ∷ []) p ≡ true
member_more [] x p e = absurd (true≢false (sym e))
member_more (y ∷ ys) x p e = elim (or_cases (y == p) (member ys p) e) [
  | inl same ↦ or_left (y == p) (member (ys ++ x ∷ []) p) same
  | inr later ↦ or_right (y == p) (member (ys ++ x ∷ []) p) (member_more ys x p later)
]

pub member_end : (xs : List ℕ) (x : ℕ) → member (xs ++ x ∷ []) x ≡ true
member_end [] x = or_left (x == x) false (eq-eqb x x refl)
member_end (y ∷ ys) x = or_right (y == x) (member (ys ++ x ∷ []) x) (member_end ys x)

label_map : (from to : ℕ) (labels : List ℕ) (p : ℕ) → p < length labels → label_of (map (relabelled from to) labels) p ≡ relabelled from to (label_of labels p)
label_map from to labels p l = get_or-map (relabelled from to) labels p 0 0 l

relabelled_cases : (from to v : ℕ) → ((v ≡ from) × (relabelled from to v ≡ to)) ⊎ ((v ≢ from) × (relabelled from to v ≡ v))
relabelled_cases from to v = elim (cases_eq v from) [
  | inl e ↦ inl (e, rw (eq-eqb v from e) refl)
  | inr ne ↦ inr (ne, rw (ne_eqb v from ne) refl)
]

from_new : (from to : ℕ) → relabelled from to from ≡ to
from_new from to = elim (relabelled_cases from to from) [ inl changed ↦ changed.1 | inr stays ↦ absurd (stays.0 refl) ]

to_new : (from to : ℕ) → relabelled from to to ≡ to
to_new from to = elim (relabelled_cases from to to) [ inl changed ↦ changed.1 | inr stays ↦ stays.1 ]

-- where the label of a point came from, among the numbers of a list
traced : (done old mid : List ℕ) (x p a : ℕ) → IsRelabelled done old mid → p < length old → a < length old → member (done ++ x ∷ []) a ≡ true → label_of mid p ≡ label_of mid a →
    (b : ℕ) × (member (done ++ x ∷ []) b ≡ true) × (label_of old p ≡ label_of old b)
traced done old mid x p a h l m e same =
    elim (h.origin p a l m same) [
      | inl before ↦ (a, e, before)
      | inr both ↦ (both.0, member_more done x both.0 both.2, both.4)
    ]

-- the labels of a and b, of which one is x and the other is the first of the list, become one, that of b
relabel_step : (done old mid new : List ℕ) (first x a b : ℕ) → IsRelabelled done old mid → member done first ≡ true → first < length old → x < length old → a < length old → b < length old →
    member (done ++ x ∷ []) a ≡ true → member (done ++ x ∷ []) b ≡ true → relabelled (label_of mid a) (label_of mid b) (label_of mid first) ≡ label_of mid b → relabelled (label_of mid a) (label_of mid b) (label_of mid x) ≡ label_of mid b →
    length new ≡ length mid → ((p : ℕ) → p < length mid → label_of new p ≡ relabelled (label_of mid a) (label_of mid b) (label_of mid p)) → ((p : ℕ) → member done p ≡ true → p < length old) → IsRelabelled (done ++ x ∷ []) old new
relabel_step done old mid new first x a b h f fl xl al bl ma mb at_f at_x count step inside =
    let at_first : (p : ℕ) → member (done ++ x ∷ []) p ≡ true → label_of new p ≡ label_of mid b = λ p e.
    elim (member_last done x p e) [
      | inl found ↦ step p (omega (arith, inside p found, h.count)) ∙ (ap (relabelled (label_of mid a) (label_of mid b)) (h.one p first found f) ∙ at_f)
      | inr last ↦
          let here : label_of new x ≡ label_of mid b = step x (omega (arith, xl, h.count)) ∙ at_x in
          subst (λ (i : ℕ). label_of new i ≡ label_of mid b) last here
    ] in
    record {
      count = count ∙ h.count;
      within = λ m low p l.
          let moved : label_of new p ≡ relabelled (label_of mid a) (label_of mid b) (label_of mid p) = step p (omega (arith, l, h.count)) in
          elim (relabelled_cases (label_of mid a) (label_of mid b) (label_of mid p)) [
            | inl changed ↦ omega (arith, moved, changed.1, h.within m low b bl)
            | inr stays ↦ omega (arith, moved, stays.1, h.within m low p l)
          ];
      one = λ p q e g. at_first p e ∙ sym (at_first q g);
      kept = λ p q l m e.
          let moved : label_of mid p ≡ label_of mid q = h.kept p q l m e in
          step p (omega (arith, l, h.count)) ∙ (ap (relabelled (label_of mid a) (label_of mid b)) moved ∙ sym (step q (omega (arith, m, h.count))));
      origin = λ p q l m e.
          let equal : relabelled (label_of mid a) (label_of mid b) (label_of mid p) ≡ relabelled (label_of mid a) (label_of mid b) (label_of mid q) =
          sym (step p (omega (arith, l, h.count))) ∙ (e ∙ step q (omega (arith, m, h.count))) in
          let widen : (label_of mid p ≡ label_of mid q) → (label_of old p ≡ label_of old q)
          ⊎ ((u : ℕ) × (v : ℕ) × (member (done ++ x ∷ []) u ≡ true) × (member (done ++ x ∷ []) v ≡ true) × (label_of old p ≡ label_of old u) × (label_of old q ≡ label_of old v)) = λ s.
          elim (h.origin p q l m s) [
            | inl before ↦ inl before
            | inr both ↦ inr (both.0, both.1, member_more done x both.0 both.2, member_more done x both.1 both.3, both.4, both.5)
          ] in
          elim (relabelled_cases (label_of mid a) (label_of mid b) (label_of mid p)) [
            | inl p_new ↦ elim (relabelled_cases (label_of mid a) (label_of mid b) (label_of mid q)) [
              | inl q_new ↦ widen (p_new.0 ∙ sym q_new.0)
              | inr q_old ↦
                  let one = traced done old mid x p a h l al ma p_new.0 in
                  let two = traced done old mid x q b h m bl mb (sym q_old.1 ∙ (sym equal ∙ p_new.1)) in
                  inr (one.0, two.0, one.1, two.1, one.2, two.2)
            ]
            | inr p_old ↦ elim (relabelled_cases (label_of mid a) (label_of mid b) (label_of mid q)) [
              | inl q_new ↦
                  let one = traced done old mid x p b h l bl mb (sym p_old.1 ∙ (equal ∙ q_new.1)) in
                  let two = traced done old mid x q a h m al ma q_new.0 in
                  inr (one.0, two.0, one.1, two.1, one.2, two.2)
              | inr q_old ↦ widen (sym p_old.1 ∙ (equal ∙ q_old.1))
            ]
          ];
    }

-- a step in which the labels of the first and of x become one, whichever it is
pub relabel_either : (done old mid table : List ℕ) (first x : ℕ) → IsRelabelled done old mid → member done first ≡ true → first < length old → x < length old → ((p : ℕ) → member done p ≡ true → p < length old) →
    LeadsDown table (map (relabelled (label_of mid first) (label_of mid x)) mid) ⊎ LeadsDown table (map (relabelled (label_of mid x) (label_of mid first)) mid) →
    (new : List ℕ) × LeadsDown table new × IsRelabelled (done ++ x ∷ []) old new
relabel_either done old mid table first x h f fl xl inside (inl leads) = (
  _,
  leads,
  relabel_step done old mid _ first x first x h f fl xl fl xl (member_more done x first f) (member_end done x)
      (from_new (label_of mid first) (label_of mid x)) (to_new (label_of mid first) (label_of mid x)) (length-map mid _) (λ p l. label_map _ _ mid p l) inside,
)
relabel_either done old mid table first x h f fl xl inside (inr leads) = (
  _,
  leads,
  relabel_step done old mid _ first x x first h f fl xl xl fl (member_end done x) (member_more done x first f)
      (to_new (label_of mid x) (label_of mid first)) (from_new (label_of mid x) (label_of mid first)) (length-map mid _) (λ p l. label_map _ _ mid p l) inside,
)

only : (needs : List ℕ) (p q : ℕ) → member (take 1 needs) p ≡ true → member (take 1 needs) q ≡ true → p ≡ q
only [] p q e f = absurd (true≢false (sym e))
only (x ∷ xs) p q e f =
    elim (or_cases (x == p) false e) [
      | inl a ↦ elim (or_cases (x == q) false f) [ inl b ↦ sym (eqb-true x p a) ∙ eqb-true x q b | inr none ↦ absurd (true≢false (sym none)) ]
      | inr none ↦ absurd (true≢false (sym none))
    ]

pub relabel_first : (needs labels : List ℕ) → IsRelabelled (take 1 needs) labels labels
relabel_first needs labels = record {
  count = refl;
  within = λ m low p l. low p l;
  one = λ p q e f. ap (label_of labels) (only needs p q e f);
  kept = λ p q l m e. e;
  origin = λ p q l m e. inl e;
}

pub member_take : (n : ℕ) (xs : List ℕ) (p : ℕ) → member (take n xs) p ≡ true → member xs p ≡ true
member_take zero xs p e = absurd (true≢false (sym e))
member_take (suc n) [] p e = absurd (true≢false (sym e))
member_take (suc n) (x ∷ xs) p e = elim (or_cases (x == p) (member (take n xs) p) e) [
  | inl same ↦ or_left (x == p) (member xs p) same
  | inr later ↦ or_right (x == p) (member xs p) (member_take n xs p later)
]

pub first_taken : (n : ℕ) (xs : List ℕ) → 1 ≤ n → 1 ≤ length xs → member (take n xs) (slice_index_or xs 0 0) ≡ true
first_taken zero xs l m = absurd (omega (arith, l))
first_taken (suc n) [] l m = absurd (omega (arith, m))
first_taken (suc n) (x ∷ xs) l m = or_left (x == x) (member (take n xs) x) (eq-eqb x x refl)

pub needs_inside : (P : ProblemData) (j m : ℕ) (needs : List ℕ) → IsProblem P → needs ≡ (link_at P j).needs → m ≡ length P.costs → All (λ p. p < m) needs
needs_inside P j m needs problem e count =
    all_members (λ p. p < m) needs (λ p inside.
    let needed : needs_point P j p ≡ true = subst (λ (ns : List ℕ). member ns p ≡ true) e inside in
    omega (arith, problem.in_range j p needed, count))

pub taken_more : (xs : List ℕ) (n : ℕ) → n < length xs → take (n + 1) xs ≡ take n xs ++ slice_index_or xs n 0 ∷ []
taken_more xs n l = grind (arith, common_steps)

below : (p q : ℕ) → p ≤ q → p ≢ q → p < q
below p q l ne = elim (cases_lt p q) [ inl less ↦ less | inr more ↦ absurd (ne (omega (arith, l, more))) ]

-- each point leads to itself
pub own_leads : (n : ℕ) (labels : List ℕ) → AreOwnLabels n labels → LeadsDown labels labels
own_leads n labels h =
    let here : (p : ℕ) → p < length labels → label_of labels p ≡ p = λ p l. h.1 p (omega (arith, l, h.0)) in
    let low : (p : ℕ) → label_of labels p ≤ p = λ p. elim (cases_lt p (length labels)) [
      | inl l ↦ omega (arith, here p l)
      | inr past ↦ omega (arith, get_or_past labels p 0 past)
    ] in
    record { count = refl; down = low; low = low; same = λ p l. here (label_of labels p) (omega (arith, here p l, l)); root = λ p l e. e }

set_here : (table : List ℕ) (p v : ℕ) → p < length table → label_of (slice_set table p v) p ≡ v
set_here table p v l = get_or-set_same table p v 0 l

set_there : (table : List ℕ) (p q v : ℕ) → p ≢ q → label_of (slice_set table p v) q ≡ label_of table q
set_there table p q v ne = get_or-set_other table p q v 0 (λ e. ne (sym e))

abbrev halve : List ℕ → ℕ → List ℕ
halve table p = slice_set table p (label_of table (label_of table p))

-- a number that is led past the next one
pub halved_down : (table : List ℕ) (p : ℕ) → p < length table → ((q : ℕ) → label_of table q ≤ q) → (q : ℕ) → label_of (halve table p) q ≤ q
halved_down table p l low q = elim (cases_eq p q) [
  | inl e ↦ omega (arith, e, ap (label_of (halve table p)) e, set_here table p (label_of table (label_of table p)) l, low p, low (label_of table p))
  | inr ne ↦ omega (arith, set_there table p q (label_of table (label_of table p)) ne, low q)
]

pub halved : (table labels : List ℕ) (p : ℕ) → LeadsDown table labels → p < length table → LeadsDown (halve table p) labels
halved table labels p h l =
    let here : label_of (halve table p) p ≡ label_of table (label_of table p) = set_here table p _ l in
    let count : length (halve table p) ≡ length table = length-set table p _ in
    record {
      count = count ∙ h.count;
      down = halved_down table p l h.down;
      low = h.low;
      same = λ q m. elim (cases_eq p q) [
        | inl e ↦ subst (λ (i : ℕ). label_of labels (label_of (halve table p) i) ≡ label_of labels i) e
            (ap (label_of labels) here ∙ (h.same (label_of table p) (omega (arith, h.down p, l)) ∙ h.same p l))
        | inr ne ↦ ap (label_of labels) (set_there table p q _ ne) ∙ h.same q (omega (arith, m, count))
      ];
      root = λ q m e. elim (cases_eq p q) [
        | inl same ↦
            let there : label_of (halve table p) p ≡ p = subst (λ (i : ℕ). label_of (halve table p) i ≡ i) (sym same) e in
            subst (λ (i : ℕ). label_of labels i ≡ i) same (h.root p l (omega (arith, sym here ∙ there, h.down p, h.down (label_of table p))))
        | inr ne ↦ h.root q (omega (arith, m, count)) (sym (set_there table p q _ ne) ∙ e)
      ];
    }

-- a label that is led to a lesser one
linked : (table labels : List ℕ) (from to : ℕ) → LeadsDown table labels → from < length table → to ≤ from → label_of labels from ≡ from → label_of labels to ≡ to →
    LeadsDown (slice_set table from to) (map (relabelled from to) labels)
linked table labels from to h l below is_from is_to =
    let size : length (slice_set table from to) ≡ length table = length-set table from to in
    let moved : (p : ℕ) → p < length table → label_of (map (relabelled from to) labels) p ≡ relabelled from to (label_of labels p) = λ p m. label_map from to labels p (omega (arith, m, h.count)) in
    let at_from : label_of (map (relabelled from to) labels) from ≡ to = moved from l ∙ (ap (relabelled from to) is_from ∙ from_new from to) in
    let at_to : label_of (map (relabelled from to) labels) to ≡ to = moved to (omega (arith, l, below)) ∙ (ap (relabelled from to) is_to ∙ to_new from to) in
    let here : label_of (slice_set table from to) from ≡ to = set_here table from to l in
    record {
      count = size ∙ (h.count ∙ sym (length-map labels (relabelled from to)));
      down = λ p. elim (cases_eq from p) [
        | inl e ↦ omega (arith, e, ap (label_of (slice_set table from to)) e, here, below)
        | inr ne ↦ omega (arith, set_there table from p to ne, h.down p)
      ];
      low = λ p. elim (cases_lt p (length table)) [
        | inl m ↦ elim (relabelled_cases from to (label_of labels p)) [
          | inl changed ↦ omega (arith, moved p m, changed.0, changed.1, below, h.low p)
          | inr stays ↦ omega (arith, moved p m, stays.1, h.low p)
        ]
        | inr past ↦ omega (arith, get_or_past (map (relabelled from to) labels) p 0 (omega (arith, past, h.count, length-map labels (relabelled from to))))
      ];
      same = λ p m. elim (cases_eq from p) [
        | inl e ↦ subst (λ (i : ℕ). label_of (map (relabelled from to) labels) (label_of (slice_set table from to) i) ≡ label_of (map (relabelled from to) labels) i) e
            (ap (label_of (map (relabelled from to) labels)) here ∙ (at_to ∙ sym at_from))
        | inr ne ↦
            let inside : p < length table = omega (arith, m, size) in
            ap (label_of (map (relabelled from to) labels)) (set_there table from p to ne)
            ∙ (moved (label_of table p) (omega (arith, h.down p, inside)) ∙ (ap (relabelled from to) (h.same p inside) ∙ sym (moved p inside)))
      ];
      root = λ p m e. elim (cases_eq from p) [
        | inl this ↦
            let same : from ≡ to = sym (subst (λ (i : ℕ). label_of (slice_set table from to) i ≡ i) (sym this) e) ∙ here in
            subst (λ (i : ℕ). label_of (map (relabelled from to) labels) i ≡ i) this (at_from ∙ sym same)
        | inr ne ↦
            let inside : p < length table = omega (arith, m, size) in
            let still : label_of labels p ≡ p = h.root p inside (sym (set_there table from p to ne) ∙ e) in
            elim (relabelled_cases from to p) [
              | inl changed ↦ absurd (ne (sym changed.0))
              | inr stays ↦ moved p inside ∙ (ap (relabelled from to) still ∙ stays.1)
            ]
      ];
    }

-- what two labels become where one is led to the other
pub joined_labels : (table labels : List ℕ) (one other r s : ℕ) → LeadsDown table labels → r < length table → s ≤ r → label_of labels one ≡ r → label_of labels other ≡ s → label_of labels r ≡ r → label_of labels s ≡ s →
    LeadsDown (slice_set table r s) (map (relabelled (label_of labels one) (label_of labels other)) labels)
joined_labels table labels one other r s h l below is_one is_other at_r at_s = rw (is_one, is_other) (linked table labels r s h l below at_r at_s)

-- a point that was led to its label, as were those before it
pub flat_more : (table labels : List ℕ) (p : ℕ) → LeadsDown table labels → p < length table → ((q : ℕ) → q < p → label_of table q ≡ label_of labels q) → (q : ℕ) → q < p + 1 → label_of (halve table p) q ≡ label_of labels q
flat_more table labels p h l before q m = elim (cases_eq p q) [
  | inl e ↦ subst (λ (i : ℕ). label_of (halve table p) i ≡ label_of labels i) e
      (set_here table p _ l ∙ elim (cases_eq (label_of table p) p) [
        | inl root ↦ ap (label_of table) root ∙ (root ∙ sym (h.root p l root))
        | inr on ↦ before (label_of table p) (below (label_of table p) p (h.down p) on) ∙ h.same p l
      ])
  | inr ne ↦ set_there table p q _ ne ∙ before q (below q p (omega (arith, m)) (λ e. ne (sym e)))
]
