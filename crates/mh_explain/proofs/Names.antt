-- The nearest of the names before a place.
use Rattle.std.proofs.Common.{◌≡◌, ◌+◌, ◌<◌, ◌≤◌, ◌⊎◌, inl, inr, ℕ, List, [], Option, Some, None, length, map, arith, refl, sym, ap, ◌∙◌, subst, slice_index_or, Bor, IfSome, IfNone}
use Rattle.std.proofs.lemmas.Bool.{cases_lt}
use Rattle.std.proofs.Math.ListN.{get_or-map}
use Rattle.std.proofs.lemmas.List.{length-map}
use Rattle.std.proofs.lemmas.List.Elements.{All-from_get_or}
use Rattle.std.specs.List.{All}
use Rattle.mh_explain.specs.Near.{edits, IsNear, IsNearest}

-- the name at a place
abbrev pub name_at : List (Bor (List ℕ)) → ℕ → Bor (List ℕ)
name_at known j = slice_index_or known j record { ref_ptr = (0, 0); now = [] }

abbrev pub steps_to : List ℕ → List (Bor (List ℕ)) → ℕ → ℕ
steps_to word known j = edits word (name_at known j).now

-- what was found among the first n names, and the edits that a nearer one has to be below
abbrev pub SoFar : List ℕ → List (Bor (List ℕ)) → ℕ → ℕ → Option (Bor (List ℕ)) → Type 0
SoFar word known n least None = (least ≡ 3) × ((j : ℕ) → j < n → IsNear word (name_at known j).now → ⊥)
SoFar word known n least (Some name) =
    (i : ℕ) × (i < n) × (name ≡ name_at known i) × (least ≡ steps_to word known i) × IsNear word (name_at known i).now
    × ((j : ℕ) → j < n → steps_to word known i ≤ steps_to word known j)
    × ((j : ℕ) → j < i → steps_to word known i < steps_to word known j)

-- a place below n + 1 is below n, or is n
last_or : (j n : ℕ) → j < n + 1 → (j < n) ⊎ (j ≡ n)
last_or j n h = elim (cases_lt j n) [ inl m ↦ inl m | inr m ↦ inr (omega (arith, h, m)) ]

-- a name that is nearer than all before it
less : (word : List ℕ) (known : List (Bor (List ℕ))) (n least : ℕ) (found : Option (Bor (List ℕ))) → SoFar word known n least found
    → steps_to word known n < least → steps_to word known n < length word → (j : ℕ) → j < n → steps_to word known n < steps_to word known j
less word known n least None (three, none) low few j l =
    elim (cases_lt (steps_to word known n) (steps_to word known j)) [
      | inl m ↦ m
      | inr m ↦ absurd (none j l (omega (arith, m, low, three), omega (arith, m, few)))
    ]
less word known n least (Some name) (i, inside, is, so, near, most, first) low few j l =
    let h = most j l in omega (arith, low, so, h)

pub taken : (word : List ℕ) (known : List (Bor (List ℕ))) (n least : ℕ) (found : Option (Bor (List ℕ))) → SoFar word known n least found → least ≤ 3
    → steps_to word known n < least → steps_to word known n < length word → SoFar word known (n + 1) (steps_to word known n) (Some (name_at known n))
taken word known n least found h small low few = (
  n,
  omega arith,
  refl,
  refl,
  (omega (arith, low, small), few),
  (λ j l. elim (last_or j n l) [ inl m ↦ (let p = less word known n least found h low few j m in omega (arith, p)) | inr m ↦ subst (λ k. steps_to word known n ≤ steps_to word known k) (sym m) (omega arith) ]),
  less word known n least found h low few,
)

pub passed : (word : List ℕ) (known : List (Bor (List ℕ))) (n least : ℕ) (found : Option (Bor (List ℕ))) → SoFar word known n least found
    → ((least ≤ steps_to word known n) ⊎ (length word ≤ steps_to word known n)) → SoFar word known (n + 1) least found
passed word known n least None (three, none) more = (
  three,
  λ j l near. elim (last_or j n l) [
    | inl m ↦ none j m near
    | inr m ↦ (let p : IsNear word (name_at known n).now = subst (λ k. IsNear word (name_at known k).now) m near in
        elim more [ inl a ↦ absurd (omega (arith, a, three, p.0)) | inr a ↦ absurd (omega (arith, a, p.1)) ])
  ],
)
passed word known n least (Some name) (i, inside, is, so, near, most, first) more = (
  i,
  omega (arith, inside),
  is,
  so,
  near,
  (λ j l. elim (last_or j n l) [
    | inl m ↦ most j m
    | inr m ↦ subst (λ k. steps_to word known i ≤ steps_to word known k) (sym m)
        (elim more [ inl a ↦ omega (arith, a, so) | inr a ↦ (let p = near.1 in omega (arith, a, p)) ])
  ]),
  first,
)

pub at_most : (word : List ℕ) (known : List (Bor (List ℕ))) (n least : ℕ) (found : Option (Bor (List ℕ))) → SoFar word known n least found → least ≤ 3
at_most word known n least None (three, none) = omega (arith, three)
at_most word known n least (Some name) (i, inside, is, so, near, most, first) = let p = near.0 in omega (arith, so, p)

name_of : Bor (List ℕ) → List ℕ
name_of b = b.now

named_at : (known : List (Bor (List ℕ))) (j : ℕ) → slice_index_or (map (λ (b : Bor (List ℕ)). b.now) known) j [] ≡ (name_at known j).now
named_at known j = get_or-map (λ (b : Bor (List ℕ)). b.now) known j record { ref_ptr = (0, 0); now = [] }

-- what was found among all names is the nearest
pub found_nearest : (word : List ℕ) (known : List (Bor (List ℕ))) (n least : ℕ) (found : Option (Bor (List ℕ))) → SoFar word known n least found → n ≡ length known
    → IfSome found (λ name. IsNearest word (map (λ (b : Bor (List ℕ)). b.now) known) name.now)
found_nearest word known n least None h all = tt
found_nearest word known n least (Some name) (i, inside, is, so, near, most, first) all =
    let here = ap (λ (b : Bor (List ℕ)). b.now) is in (
      subst (IsNear word) (sym here) near,
      i,
      omega (arith, inside, all, length-map known (λ (b : Bor (List ℕ)). b.now)),
      here ∙ sym (named_at known i),
      (λ j l. subst (λ (x : List ℕ). edits word name.now ≤ edits word x) (sym (named_at known j)) (subst (λ (x : List ℕ). edits word x ≤ steps_to word known j) (sym here) (most j (omega (arith, l, all, length-map known (λ (b : Bor (List ℕ)). b.now)))))),
      (λ j l. subst (λ (x : List ℕ). edits word name.now < edits word x) (sym (named_at known j)) (subst (λ (x : List ℕ). edits word x < steps_to word known j) (sym here) (first j l))),
    )

-- where nothing was found none is near
pub found_none : (word : List ℕ) (known : List (Bor (List ℕ))) (n least : ℕ) (found : Option (Bor (List ℕ))) → SoFar word known n least found → n ≡ length known
    → IfNone found (All (λ (b : Bor (List ℕ)). IsNear word b.now → ⊥) known)
found_none word known n least (Some name) h all = tt
found_none word known n least None (three, none) all =
    All-from_get_or (λ (b : Bor (List ℕ)). IsNear word b.now → ⊥) known record { ref_ptr = (0, 0); now = [] } (λ j l. none j (omega (arith, l, all)))
