-- Items are put into parts one after another.
use Rattle.std.proofs.Common.{◌≡◌, ◌≢◌, ℕ, zero, suc, ◌+◌, ◌≤◌, ◌<◌, ◌⊎◌, List, [], ◌∷◌, ◌++◌, true, refl, arith, sym, ◌∙◌, ap, inl, inr, length, subst, map, get_or-set_same, get_or-set_other, length-append}
use Rattle.std.specs.Prelude.{slice_set, ◌==◌, replicate}
use Rattle.std.specs.List.{list_any, slice_index_or}
use Rattle.std.specs.List.Sorted.{IsStrictlyIncreasing}
use Rattle.std.proofs.Math.ListN.{length-set}
use Rattle.std.proofs.Math.Seq.{get_or-append_seam, map-set_same}
use Rattle.std.proofs.lemmas.List.{get_or_append_left, get_or_past, length-map, map-append}
use Rattle.std.proofs.lemmas.Bool.{cases_lt, cases_eq, true≢false, or_left, or_right, eq-eqb}
use Rattle.mh_network.specs.declared.part.Part.{Part}
use Rattle.mh_network.specs.Problems.{ProblemData, IsProblem, link_at, needs_point}
use Rattle.mh_network.specs.Selection.{member}
use Rattle.mh_network.specs.Parts.{Item, IsItem, IsJoined, part_at, part_key, no_part, holds, AreParts}
use Rattle.mh_network.specs.Parts.Item.{link, point}
use Rattle.mh_network.specs.Parts.IsJoined.{here, down, up}
use Rattle.mh_network.specs.inner.Labels.{label_of, AreLabels}
use Rattle.mh_network.specs.inner.Groups.{added, IsAdded, item_label, first_label, IsGrouped, IsInOrder, ArePut, Seen as IsSeen}
use Rattle.mh_network.specs.Laws.Optimal.{needs-in_range}
use Rattle.mh_network.proofs.Labelling.{member_last, member_more, member_end, joined_trans, joined_sym}

abbrev num : List ℕ → ℕ → ℕ
num xs k = slice_index_or xs k 0

rising_more : (xs : List ℕ) (x : ℕ) → IsStrictlyIncreasing xs → ((k : ℕ) → k < length xs → num xs k < x) → IsStrictlyIncreasing (xs ++ x ∷ [])
rising_more xs x h low k l =
    let long : length (xs ++ x ∷ []) ≡ length xs + 1 = length-append xs (x ∷ []) in
    let here_k : num (xs ++ x ∷ []) k ≡ num xs k = get_or_append_left xs (x ∷ []) 0 k (omega (arith, l, long)) in
    elim (cases_lt (k + 1) (length xs)) [
      | inl inside ↦
          let next : num (xs ++ x ∷ []) (k + 1) ≡ num xs (k + 1) = get_or_append_left xs (x ∷ []) 0 (k + 1) inside in
          omega (arith, here_k, next, h k inside)
      | inr past ↦
          let e : k + 1 ≡ length xs = omega (arith, past, l, long) in
          let next : num (xs ++ x ∷ []) (k + 1) ≡ x = ap (num (xs ++ x ∷ [])) e ∙ get_or-append_seam xs x [] 0 in
          omega (arith, here_k, next, low k (omega (arith, e)))
    ]

member_num : (xs : List ℕ) (k : ℕ) → k < length xs → member xs (num xs k) ≡ true
member_num [] k l = absurd (omega (arith, l))
member_num (x ∷ xs) zero l = or_left (x == x) (list_any (λ q. q == x) xs) (eq-eqb x x refl)
member_num (x ∷ xs) (suc k) l = or_right (x == num xs k) (list_any (λ q. q == num xs k) xs) (member_num xs k (omega (arith, l)))

added_holds : (part : Part) (x y : Item) → holds (added part x) y ≡ true → (holds part y ≡ true) ⊎ (x ≡ y)
added_holds part (link j) (link k) e = elim (member_last part.links j k e) [ inl old ↦ inl old | inr same ↦ inr (ap link same) ]
added_holds part (link j) (point p) e = inl e
added_holds part (point p) (link k) e = inl e
added_holds part (point p) (point q) e = elim (member_last part.points p q e) [ inl old ↦ inl old | inr same ↦ inr (ap point same) ]

added_keeps : (part : Part) (x y : Item) → holds part y ≡ true → holds (added part x) y ≡ true
added_keeps part (link j) (link k) e = member_more part.links j k e
added_keeps part (link j) (point p) e = e
added_keeps part (point p) (link k) e = e
added_keeps part (point p) (point q) e = member_more part.points p q e

added_self : (part : Part) (x : Item) → holds (added part x) x ≡ true
added_self part (link j) = member_end part.links j
added_self part (point p) = member_end part.points p

none_holds : (y : Item) → holds no_part y ≡ true → ⊥
none_holds (link j) e = true≢false (sym e)
none_holds (point p) e = true≢false (sym e)

holds_inside : (parts : List Part) (i : ℕ) (y : Item) → holds (part_at parts i) y ≡ true → i < length parts
holds_inside parts i y e = elim (cases_lt i (length parts)) [
  | inl m ↦ m
  | inr m ↦ absurd (none_holds y (subst (λ (q : Part). holds q y ≡ true) (get_or_past parts i no_part m) e))
]

module _ (label : Item → ℕ) (Seen Seen' : Item → Type 0) (parts parts' : List Part) (owner owner' : List ℕ) (x : Item) (h : IsGrouped label Seen parts owner)
    (inside : label x < length owner) (grows : (y : Item) → Seen y → Seen' y) (now : Seen' x) (only : (y : Item) → Seen' y → Seen y ⊎ (x ≡ y)) where
  made_new : num owner (label x) ≡ 0 → parts' ≡ parts ++ added no_part x ∷ [] → owner' ≡ slice_set owner (label x) (length parts + 1) → IsGrouped label Seen' parts' owner'
  made_new empty e f =
      let long : length parts' ≡ length parts + 1 = ap length e ∙ length-append parts (added no_part x ∷ []) in
      let left : (i : ℕ) → i < length parts → part_at parts' i ≡ part_at parts i = λ i l. ap (λ (ps : List Part). part_at ps i) e ∙ get_or_append_left parts (added no_part x ∷ []) no_part i l in
      let last : part_at parts' (length parts) ≡ added no_part x = ap (λ (ps : List Part). part_at ps (length parts)) e ∙ get_or-append_seam parts (added no_part x) [] no_part in
      let own_here : num owner' (label x) ≡ length parts + 1 = ap (λ (os : List ℕ). num os (label x)) f ∙ rw get_or-set_same refl in
      let own_there : (t : ℕ) → t ≢ label x → num owner' t ≡ num owner t = λ t ne. ap (λ (os : List ℕ). num os t) f ∙ rw get_or-set_other refl in
      let here_again : holds (part_at parts' (length parts)) x ≡ true = subst (λ (q : Part). holds q x ≡ true) (sym last) (added_self no_part x) in
      record {
        owned = λ i y e'. elim (cases_lt i (length parts)) [
          | inl l ↦
              let old = h.owned i y (subst (λ (q : Part). holds q y ≡ true) (left i l) e') in
              let ne : label y ≢ label x = λ s. omega (arith, old.0, ap (num owner) s, empty) in
              (own_there (label y) ne ∙ old.0, grows y old.1)
          | inr past ↦
              let top = holds_inside parts' i y e' in
              let same : i ≡ length parts = omega (arith, top, long, past) in
              let fresh : holds (added no_part x) y ≡ true = subst (λ (q : Part). holds q y ≡ true) (ap (part_at parts') same ∙ last) e' in
              elim (added_holds no_part x y fresh) [
                | inl old ↦ absurd (none_holds y old)
                | inr this ↦
                    let own_y : num owner' (label y) ≡ length parts + 1 = subst (λ (z : Item). num owner' (label z) ≡ length parts + 1) this own_here in
                    (omega (arith, own_y, same), subst Seen' this now)
              ]
        ];
        held = λ y seen. elim (only y seen) [
          | inl before ↦
              let old = h.held y before in
              (old.0, omega (arith, old.1, long), subst (λ (q : Part). holds q y ≡ true) (sym (left old.0 old.1)) old.2)
          | inr this ↦ (length parts, omega (arith, long), subst (λ (z : Item). holds (part_at parts' (length parts)) z ≡ true) this here_again)
        ];
        single = λ s t some e'. elim (cases_eq s (label x)) [
          | inl a ↦ elim (cases_eq t (label x)) [
            | inl b ↦ a ∙ sym b
            | inr b ↦ absurd (omega (arith, ap (num owner') a, own_here, e', own_there t b, h.bounded t))
          ]
          | inr a ↦ elim (cases_eq t (label x)) [
            | inl b ↦ absurd (omega (arith, ap (num owner') b, own_here, e', own_there s a, h.bounded s))
            | inr b ↦ h.single s t (omega (arith, some, own_there s a)) (sym (own_there s a) ∙ (e' ∙ own_there t b))
          ]
        ];
        bounded = λ t. elim (cases_eq t (label x)) [
          | inl a ↦ omega (arith, ap (num owner') a, own_here, long)
          | inr a ↦ omega (arith, own_there t a, h.bounded t, long)
        ];
        some = λ i l. elim (cases_lt i (length parts)) [
          | inl m ↦ let old = h.some i m in (old.0, subst (λ (q : Part). holds q old.0 ≡ true) (sym (left i m)) old.1)
          | inr m ↦
              let same : i ≡ length parts = omega (arith, l, m, long) in
              (x, subst (λ (k : ℕ). holds (part_at parts' k) x ≡ true) (sym same) here_again)
        ];
      }

  made_old : (i : ℕ) → num owner (label x) ≡ i + 1 → parts' ≡ slice_set parts i (added (part_at parts i) x) → owner' ≡ owner → IsGrouped label Seen' parts' owner'
  made_old i own e f =
      let top : i < length parts = omega (arith, h.bounded (label x), own) in
      let long : length parts' ≡ length parts = ap length e ∙ length-set parts i (added (part_at parts i) x) in
      let same_owner : (t : ℕ) → num owner' t ≡ num owner t = λ t. ap (λ (os : List ℕ). num os t) f in
      let here_i : part_at parts' i ≡ added (part_at parts i) x = ap (λ (ps : List Part). part_at ps i) e ∙ rw get_or-set_same refl in
      let there : (k : ℕ) → k ≢ i → part_at parts' k ≡ part_at parts k = λ k ne. ap (λ (ps : List Part). part_at ps k) e ∙ rw get_or-set_other refl in
      let here_again : holds (part_at parts' i) x ≡ true = subst (λ (q : Part). holds q x ≡ true) (sym here_i) (added_self (part_at parts i) x) in
      let keeps : (k : ℕ) (y : Item) → holds (part_at parts k) y ≡ true → holds (part_at parts' k) y ≡ true = λ k y e'. elim (cases_eq k i) [
        | inl a ↦
            let old : holds (part_at parts i) y ≡ true = subst (λ (m : ℕ). holds (part_at parts m) y ≡ true) a e' in
            subst (λ (m : ℕ). holds (part_at parts' m) y ≡ true) (sym a) (subst (λ (q : Part). holds q y ≡ true) (sym here_i) (added_keeps (part_at parts i) x y old))
        | inr b ↦ subst (λ (q : Part). holds q y ≡ true) (sym (there k b)) e'
      ] in
      record {
        owned = λ k y e'. elim (cases_eq k i) [
          | inl a ↦
              let wide : holds (added (part_at parts i) x) y ≡ true = subst (λ (q : Part). holds q y ≡ true) (ap (part_at parts') a ∙ here_i) e' in
              elim (added_holds (part_at parts i) x y wide) [
                | inl old ↦ let before = h.owned i y old in (omega (arith, same_owner (label y), before.0, a), grows y before.1)
                | inr this ↦
                    let own_y : num owner' (label y) ≡ i + 1 = subst (λ (z : Item). num owner' (label z) ≡ i + 1) this (same_owner (label x) ∙ own) in
                    (omega (arith, own_y, a), subst Seen' this now)
              ]
          | inr b ↦ let before = h.owned k y (subst (λ (q : Part). holds q y ≡ true) (there k b) e') in (same_owner (label y) ∙ before.0, grows y before.1)
        ];
        held = λ y seen. elim (only y seen) [
          | inl before ↦ let old = h.held y before in (old.0, omega (arith, old.1, long), keeps old.0 y old.2)
          | inr this ↦ (i, omega (arith, top, long), subst (λ (z : Item). holds (part_at parts' i) z ≡ true) this here_again)
        ];
        single = λ s t some e'. h.single s t (omega (arith, some, same_owner s)) (sym (same_owner s) ∙ (e' ∙ same_owner t));
        bounded = λ t. omega (arith, same_owner t, h.bounded t, long);
        some = λ k l. let old = h.some k (omega (arith, l, long)) in (old.0, keeps k old.0 old.1);
      }

  pub grouped_more : IsAdded parts parts' owner owner' (label x) x → IsGrouped label Seen' parts' owner'
  grouped_more (inl new) = made_new new.0 new.1 new.2
  grouped_more (inr old) = made_old old.0 old.1 old.2 old.3

-- joined items have one label, and items of one label are joined
label_step : (P : ProblemData) (labels : List ℕ) (j p : ℕ) → IsProblem P → AreLabels P (length P.links) labels → needs_point P j p ≡ true → item_label P labels (link j) ≡ item_label P labels (point p)
label_step P labels j p problem are e =
    let inside : j < length P.links = needs-in_range P j p e in
    first_is (link_at P j).needs refl
  where
    first_is : (ns : List ℕ) → (link_at P j).needs ≡ ns → first_label (length P.costs) labels j (link_at P j).needs ≡ label_of labels p
    first_is [] same = absurd (true≢false (sym (subst (λ (xs : List ℕ). member xs p ≡ true) same e)))
    first_is (q ∷ qs) same =
        let needs_q : needs_point P j q ≡ true = subst (λ (xs : List ℕ). member xs q ≡ true) (sym same) (or_left (q == q) (member qs q) (eq-eqb q q refl)) in
        ap (first_label (length P.costs) labels j) same ∙ are.same j q p (needs-in_range P j p e) needs_q e

pub joined_label : (P : ProblemData) (labels : List ℕ) (x y : Item) → IsProblem P → AreLabels P (length P.links) labels → IsJoined P x y → item_label P labels x ≡ item_label P labels y
joined_label P labels x y problem are here = refl
joined_label P labels x y problem are (down {j} {p} g e) = joined_label P labels x (link j) problem are g ∙ label_step P labels j p problem are e
joined_label P labels x y problem are (up {j} {p} g e) = joined_label P labels x (point p) problem are g ∙ sym (label_step P labels j p problem are e)

-- an item stands for a point, or is a link that needs nothing
stands : (P : ProblemData) (labels : List ℕ) (x : Item) → IsProblem P → IsItem P x →
    ((q : ℕ) × IsJoined P x (point q) × (q < length P.costs) × (item_label P labels x ≡ label_of labels q)) ⊎ ((j : ℕ) × (x ≡ link j) × (item_label P labels x ≡ length P.costs + j))
stands P labels (point p) problem item = inl (p, here, item, refl)
stands P labels (link j) problem item = by_needs (link_at P j).needs refl
  where
    by_needs : (ns : List ℕ) → (link_at P j).needs ≡ ns →
        ((q : ℕ) × IsJoined P (link j) (point q) × (q < length P.costs) × (item_label P labels (link j) ≡ label_of labels q)) ⊎ ((k : ℕ) × (link j ≡ link k) × (item_label P labels (link j) ≡ length P.costs + k))
    by_needs [] same = inr (j, refl, ap (first_label (length P.costs) labels j) same)
    by_needs (q ∷ qs) same =
        let needs_q : needs_point P j q ≡ true = subst (λ (xs : List ℕ). member xs q ≡ true) (sym same) (or_left (q == q) (member qs q) (eq-eqb q q refl)) in
        inl (q, down here needs_q, problem.in_range j q needs_q, ap (first_label (length P.costs) labels j) same)

pub label_sound : (P : ProblemData) (labels : List ℕ) (x y : Item) → IsProblem P → AreLabels P (length P.links) labels → IsItem P x → IsItem P y → item_label P labels x ≡ item_label P labels y → IsJoined P x y
label_sound P labels x y problem are ix iy e =
    elim (stands P labels x problem ix) [
      | inl a ↦ elim (stands P labels y problem iy) [
        | inl b ↦
            let middle : IsJoined P (point a.0) (point b.0) = are.sound a.0 b.0 a.2 b.2 (sym a.3 ∙ (e ∙ b.3)) in
            joined_trans P x (point b.0) y (joined_trans P x (point a.0) (point b.0) a.1 middle) (joined_sym P y (point b.0) b.1)
        | inr b ↦ absurd (omega (arith, are.within a.0 a.2, a.3, e, b.2))
      ]
      | inr a ↦ elim (stands P labels y problem iy) [
        | inl b ↦ absurd (omega (arith, are.within b.0 b.2, b.3, e, a.2))
        | inr b ↦
            let same : a.0 ≡ b.0 = omega (arith, a.2, b.2, e) in
            let whole : x ≡ y = a.1 ∙ (ap link same ∙ sym b.1) in
            subst (λ (z : Item). IsJoined P x z) whole here
      ]
    ]

head_more : (xs : List ℕ) (x k d : ℕ) → member xs k ≡ true → slice_index_or (xs ++ x ∷ []) 0 d ≡ slice_index_or xs 0 d
head_more [] x k d e = absurd (true≢false (sym e))
head_more (y ∷ ys) x k d e = refl

-- one item more, in order
pub in_order_more : (P : ProblemData) (parts parts' : List Part) (owner owner' : List ℕ) (label b b' : ℕ) (x : Item) → IsInOrder P b parts → num owner label ≤ length parts → b ≤ b' →
    ((i k : ℕ) (j : ℕ) → x ≡ link j → k < length (part_at parts i).links → num (part_at parts i).links k < j) →
    ((i k : ℕ) (p : ℕ) → x ≡ point p → k < length (part_at parts i).points → num (part_at parts i).points k < p) →
    b ≤ part_key P (added no_part x) → part_key P (added no_part x) < b' →
    ((i : ℕ) → i < length parts → part_key P (added (part_at parts i) x) ≡ part_key P (part_at parts i)) →
    IsAdded parts parts' owner owner' label x → IsInOrder P b' parts'
in_order_more P parts parts' owner owner' label b b' x h owned rise links_low points_low key_low key_high key_same (inl new) =
    let long : length parts' ≡ length parts + 1 = ap length new.1 ∙ length-append parts (added no_part x ∷ []) in
    let keys : map (part_key P) parts' ≡ map (part_key P) parts ++ part_key P (added no_part x) ∷ [] = ap (map (part_key P)) new.1 ∙ map-append (part_key P) parts (added no_part x ∷ []) in
    let rising : IsStrictlyIncreasing (map (part_key P) parts ++ part_key P (added no_part x) ∷ []) =
    rising_more (map (part_key P) parts) (part_key P (added no_part x)) h.order (λ k l. omega (arith, h.low k l, key_low)) in
    let at : (i : ℕ) → (part_at parts' i ≡ part_at parts i) ⊎ (part_at parts' i ≡ added no_part x) = λ i. elim (cases_lt i (length parts)) [
      | inl l ↦ inl (ap (λ (ps : List Part). part_at ps i) new.1 ∙ get_or_append_left parts (added no_part x ∷ []) no_part i l)
      | inr past ↦ elim (cases_eq i (length parts)) [
        | inl same ↦ inr (ap (part_at parts') same ∙ (ap (λ (ps : List Part). part_at ps (length parts)) new.1 ∙ get_or-append_seam parts (added no_part x) [] no_part))
        | inr more ↦ inl (get_or_past parts' i no_part (omega (arith, long, past, more)) ∙ sym (get_or_past parts i no_part past))
      ]
    ] in
    record {
      links = λ i. elim (at i) [
        | inl old ↦ subst (λ (q : Part). IsStrictlyIncreasing q.links) (sym old) (h.links i)
        | inr made ↦ subst (λ (q : Part). IsStrictlyIncreasing q.links) (sym made) (short_links x)
      ];
      points = λ i. elim (at i) [
        | inl old ↦ subst (λ (q : Part). IsStrictlyIncreasing q.points) (sym old) (h.points i)
        | inr made ↦ subst (λ (q : Part). IsStrictlyIncreasing q.points) (sym made) (short_points x)
      ];
      order = subst IsStrictlyIncreasing (sym keys) rising;
      low = λ k l.
          let same : num (map (part_key P) parts') k ≡ num (map (part_key P) parts ++ part_key P (added no_part x) ∷ []) k = ap (λ (ks : List ℕ). num ks k) keys in
          let count : length (map (part_key P) parts') ≡ length (map (part_key P) parts) + 1 = ap length keys ∙ length-append (map (part_key P) parts) (part_key P (added no_part x) ∷ []) in
          elim (cases_lt k (length (map (part_key P) parts))) [
            | inl m ↦ omega (arith, same, get_or_append_left (map (part_key P) parts) (part_key P (added no_part x) ∷ []) 0 k m, h.low k m, rise)
            | inr m ↦
                let e : k ≡ length (map (part_key P) parts) = omega (arith, l, count, m) in
                let seam : num (map (part_key P) parts ++ part_key P (added no_part x) ∷ []) k ≡ part_key P (added no_part x) =
                ap (num (map (part_key P) parts ++ part_key P (added no_part x) ∷ [])) e ∙ get_or-append_seam (map (part_key P) parts) (part_key P (added no_part x)) [] 0 in
                omega (arith, same, seam, key_high)
          ];
    }
  where
    nothing : IsStrictlyIncreasing []
    nothing k l = absurd (omega (arith, l))

    short_links : (y : Item) → IsStrictlyIncreasing (added no_part y).links
    short_links (link j) = rising_more [] j nothing (λ k l. absurd (omega (arith, l)))
    short_links (point p) = nothing

    short_points : (y : Item) → IsStrictlyIncreasing (added no_part y).points
    short_points (link j) = nothing
    short_points (point p) = rising_more [] p nothing (λ k l. absurd (omega (arith, l)))
in_order_more P parts parts' owner owner' label b b' x h owned rise links_low points_low key_low key_high key_same (inr old) =
    let i : ℕ = old.0 in
    let top : i < length parts = omega (arith, owned, old.1) in
    let keys : map (part_key P) parts' ≡ map (part_key P) parts = ap (map (part_key P)) old.2 ∙ map-set_same (part_key P) parts i (added (part_at parts i) x) no_part (key_same i top) in
    let here_i : part_at parts' i ≡ added (part_at parts i) x = ap (λ (ps : List Part). part_at ps i) old.2 ∙ rw get_or-set_same refl in
    let there : (k : ℕ) → k ≢ i → part_at parts' k ≡ part_at parts k = λ k ne. ap (λ (ps : List Part). part_at ps k) old.2 ∙ rw get_or-set_other refl in
    record {
      links = λ k. elim (cases_eq k i) [
        | inl same ↦ subst (λ (q : Part). IsStrictlyIncreasing q.links) (sym (ap (part_at parts') same ∙ here_i)) (longer_links x refl)
        | inr other ↦ subst (λ (q : Part). IsStrictlyIncreasing q.links) (sym (there k other)) (h.links k)
      ];
      points = λ k. elim (cases_eq k i) [
        | inl same ↦ subst (λ (q : Part). IsStrictlyIncreasing q.points) (sym (ap (part_at parts') same ∙ here_i)) (longer_points x refl)
        | inr other ↦ subst (λ (q : Part). IsStrictlyIncreasing q.points) (sym (there k other)) (h.points k)
      ];
      order = subst IsStrictlyIncreasing (sym keys) h.order;
      low = λ k l. omega (arith, ap (λ (ks : List ℕ). num ks k) keys, h.low k (omega (arith, l, ap length keys)), rise);
    }
  where
    longer_links : (y : Item) → x ≡ y → IsStrictlyIncreasing (added (part_at parts old.0) y).links
    longer_links (link j) e = rising_more (part_at parts old.0).links j (h.links old.0) (λ k l. links_low old.0 k j e l)
    longer_links (point p) e = h.links old.0

    longer_points : (y : Item) → x ≡ y → IsStrictlyIncreasing (added (part_at parts old.0) y).points
    longer_points (link j) e = h.points old.0
    longer_points (point p) e = rising_more (part_at parts old.0).points p (h.points old.0) (λ k l. points_low old.0 k p e l)

head_same : (xs : List ℕ) (k d d' : ℕ) → member xs k ≡ true → slice_index_or xs 0 d ≡ slice_index_or xs 0 d'
head_same [] k d d' e = absurd (true≢false (sym e))
head_same (y ∷ ys) k d d' e = refl

label_inside : (P : ProblemData) (labels : List ℕ) (x : Item) → IsProblem P → AreLabels P (length P.links) labels → IsItem P x → item_label P labels x < length P.costs + length P.links
label_inside P labels x problem are item =
    elim (stands P labels x problem item) [
      | inl a ↦ omega (arith, are.within a.0 a.2, a.3)
      | inr b ↦
          let link_item : IsItem P (link b.0) = subst (λ (z : Item). IsItem P z) b.1 item in
          omega (arith, b.2, link_item)
    ]

added_count : (parts parts' : List Part) (owner owner' : List ℕ) (label : ℕ) (x : Item) → IsAdded parts parts' owner owner' label x → length owner' ≡ length owner
added_count parts parts' owner owner' label x (inl new) = ap length new.2 ∙ length-set owner label (length parts + 1)
added_count parts parts' owner owner' label x (inr old) = ap length old.3

same_link : (n j : ℕ) → link n ≡ link j → n ≡ j
same_link n j e = cc

same_point : (n j : ℕ) → point n ≡ point j → n ≡ j
same_point n j e = cc

pub put_link : (P : ProblemData) (labels : List ℕ) (n : ℕ) (parts parts' : List Part) (owner owner' : List ℕ) → IsProblem P → AreLabels P (length P.links) labels → n < length P.links →
    ArePut P labels n 0 parts owner → IsAdded parts parts' owner owner' (item_label P labels (link n)) (link n) → ArePut P labels (n + 1) 0 parts' owner'
put_link P labels n parts parts' owner owner' problem are l h step = record {
  count = added_count parts parts' owner owner' _ (link n) step ∙ h.count;
  grouped = grouped_more (item_label P labels) (IsSeen n 0) (IsSeen (n + 1) 0) parts parts' owner owner' (link n) h.grouped inside grows now_seen only step;
  in_order = in_order_more P parts parts' owner owner' (item_label P labels (link n)) (n + 0) (n + 1 + 0) (link n) h.in_order (h.grouped.bounded _) (omega arith)
      (λ i k j e m. let same : n ≡ j = same_link n j e in omega (arith, (h.grouped.owned i (link (num (part_at parts i).links k)) (member_num (part_at parts i).links k m)).1, same))
      (λ i k p e m. absurd (cross n p e))
      (omega arith) (omega arith) key_same step;
}
  where
    inside : item_label P labels (link n) < length owner
    inside = omega (arith, label_inside P labels (link n) problem are l, h.count)

    grows : (y : Item) → IsSeen n 0 y → IsSeen (n + 1) 0 y
    grows (link j) m = omega (arith, m)
    grows (point p) m = m

    now_seen : IsSeen (n + 1) 0 (link n)
    now_seen = omega arith

    only : (y : Item) → IsSeen (n + 1) 0 y → IsSeen n 0 y ⊎ (link n ≡ y)
    only (link j) m = elim (cases_lt j n) [ inl below ↦ inl below | inr above ↦ let same : n ≡ j = omega (arith, m, above) in inr (ap link same) ]
    only (point p) m = inl m

    cross : (a b : ℕ) → link a ≡ point b → ⊥
    cross a b e = cc

    by_item : (i : ℕ) (y : Item) → holds (part_at parts i) y ≡ true → part_key P (added (part_at parts i) (link n)) ≡ part_key P (part_at parts i)
    by_item i (link k) e = head_more (part_at parts i).links n k _ e
    by_item i (point p) e = absurd (omega (arith, (h.grouped.owned i (point p) e).1))

    key_same : (i : ℕ) → i < length parts → part_key P (added (part_at parts i) (link n)) ≡ part_key P (part_at parts i)
    key_same i m = let one = h.grouped.some i m in by_item i one.0 one.1

pub put_point : (P : ProblemData) (labels : List ℕ) (m : ℕ) (parts parts' : List Part) (owner owner' : List ℕ) → IsProblem P → AreLabels P (length P.links) labels → m < length P.costs →
    ArePut P labels (length P.links) m parts owner → IsAdded parts parts' owner owner' (item_label P labels (point m)) (point m) → ArePut P labels (length P.links) (m + 1) parts' owner'
put_point P labels m parts parts' owner owner' problem are l h step = record {
  count = added_count parts parts' owner owner' _ (point m) step ∙ h.count;
  grouped = grouped_more (item_label P labels) (IsSeen (length P.links) m) (IsSeen (length P.links) (m + 1)) parts parts' owner owner' (point m) h.grouped inside grows now_seen only step;
  in_order = in_order_more P parts parts' owner owner' (item_label P labels (point m)) (length P.links + m) (length P.links + (m + 1)) (point m) h.in_order (h.grouped.bounded _) (omega arith)
      (λ i k j e b. absurd (cross m j e))
      (λ i k p e b. let same : m ≡ p = same_point m p e in omega (arith, (h.grouped.owned i (point (num (part_at parts i).points k)) (member_num (part_at parts i).points k b)).1, same))
      (omega arith) (omega arith) key_same step;
}
  where
    inside : item_label P labels (point m) < length owner
    inside = omega (arith, label_inside P labels (point m) problem are l, h.count)

    grows : (y : Item) → IsSeen (length P.links) m y → IsSeen (length P.links) (m + 1) y
    grows (link j) b = b
    grows (point p) b = omega (arith, b)

    now_seen : IsSeen (length P.links) (m + 1) (point m)
    now_seen = omega arith

    only : (y : Item) → IsSeen (length P.links) (m + 1) y → IsSeen (length P.links) m y ⊎ (point m ≡ y)
    only (link j) b = inl b
    only (point p) b = elim (cases_lt p m) [ inl below ↦ inl below | inr above ↦ let same : m ≡ p = omega (arith, b, above) in inr (ap point same) ]

    cross : (a b : ℕ) → point a ≡ link b → ⊥
    cross a b e = cc

    by_item : (i : ℕ) (y : Item) → holds (part_at parts i) y ≡ true → part_key P (added (part_at parts i) (point m)) ≡ part_key P (part_at parts i)
    by_item i (link k) e = head_same (part_at parts i).links k _ _ e
    by_item i (point p) e = ap (λ (v : ℕ). slice_index_or (part_at parts i).links 0 (length P.links + v)) (head_more (part_at parts i).points m p 0 e)

    key_same : (i : ℕ) → i < length parts → part_key P (added (part_at parts i) (point m)) ≡ part_key P (part_at parts i)
    key_same i b = let one = h.grouped.some i b in by_item i one.0 one.1

zero_at : (n p : ℕ) → num (replicate n 0) p ≡ 0
zero_at zero p = refl
zero_at (suc n) zero = refl
zero_at (suc n) (suc p) = zero_at n p

pub put_none : (P : ProblemData) (labels : List ℕ) (parts : List Part) (owner : List ℕ) → parts ≡ [] → owner ≡ replicate (length P.costs + length P.links) 0 → length owner ≡ length P.costs + length P.links → ArePut P labels 0 0 parts owner
put_none P labels parts owner e f count =
    let none_owned : (t : ℕ) → num owner t ≡ 0 = λ t. ap (λ (os : List ℕ). num os t) f ∙ zero_at (length P.costs + length P.links) t in
    let empty : (i : ℕ) → part_at parts i ≡ no_part = λ i. ap (λ (ps : List Part). part_at ps i) e in
    let long : length parts ≡ 0 = ap length e in
    let keys : length (map (part_key P) parts) ≡ 0 = length-map parts (part_key P) ∙ long in
    let unseen : (x : Item) → IsSeen 0 0 x → ⊥ = unseen_item in
    record {
      count = count;
      grouped = record {
        owned = λ i x m. absurd (none_holds x (subst (λ (q : Part). holds q x ≡ true) (empty i) m));
        held = λ x seen. absurd (unseen x seen);
        single = λ s t some m. absurd (omega (arith, some, none_owned s));
        bounded = λ t. omega (arith, none_owned t);
        some = λ i m. absurd (omega (arith, m, long));
      };
      in_order = record {
        links = λ i. subst (λ (q : Part). IsStrictlyIncreasing q.links) (sym (empty i)) (λ k m. absurd (omega (arith, m)));
        points = λ i. subst (λ (q : Part). IsStrictlyIncreasing q.points) (sym (empty i)) (λ k m. absurd (omega (arith, m)));
        order = λ k m. absurd (omega (arith, m, keys));
        low = λ k m. absurd (omega (arith, m, keys));
      };
    }
  where
    unseen_item : (x : Item) → IsSeen 0 0 x → ⊥
    unseen_item (link j) m = omega (arith, m)
    unseen_item (point p) m = omega (arith, m)

pub put_all : (P : ProblemData) (labels : List ℕ) (parts : List Part) (owner : List ℕ) → IsProblem P → AreLabels P (length P.links) labels → ArePut P labels (length P.links) (length P.costs) parts owner → AreParts P parts
put_all P labels parts owner problem are h = record {
  covered = λ x item. h.grouped.held x (seen x item);
  items = λ i x e. item_of x (h.grouped.owned i x e).1;
  joined = λ i x y e f.
      let a = h.grouped.owned i x e in
      let b = h.grouped.owned i y f in
      label_sound P labels x y problem are (item_of x a.1) (item_of y b.1) (h.grouped.single (item_label P labels x) (item_label P labels y) (omega (arith, a.0)) (a.0 ∙ sym b.0));
  apart = λ i k x y e f together.
      let a = h.grouped.owned i x e in
      let b = h.grouped.owned k y f in
      let same : num owner (item_label P labels x) ≡ num owner (item_label P labels y) = ap (num owner) (joined_label P labels x y problem are together) in
      omega (arith, a.0, b.0, same);
  links = h.in_order.links;
  points = h.in_order.points;
  some = h.grouped.some;
  order = h.in_order.order;
}
  where
    seen : (x : Item) → IsItem P x → IsSeen (length P.links) (length P.costs) x
    seen (link j) m = m
    seen (point p) m = m

    item_of : (x : Item) → IsSeen (length P.links) (length P.costs) x → IsItem P x
    item_of (link j) m = m
    item_of (point p) m = m
