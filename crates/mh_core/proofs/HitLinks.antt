-- Which link a call hits.
use Rattle.std.proofs.Common.{◌≡◌, inl, inr, ℕ, zero, suc, ◌+◌, ◌-◌, ◌<◌, ◌≤◌, ◌==◌, ◌&&◌, Bool, true, false, Some, None, List, [], ◌∷◌, length, slice_index_or, cond, nat_lt, refl, ap, sym, subst, ◌∙◌, arith}
use Rattle.std.specs.List.{list_any, position, position_or_len}
use Rattle.std.proofs.lemmas.Bool.{cases_lt}
use Rattle.std.proofs.lemmas.Bool.Decides.{Decides-eqb, Decides-ltb}
use Rattle.std.proofs.lemmas.List.{get_or_past, length-map}
use Rattle.std.proofs.lemmas.List.Quantifiers.{position-Some}
use Rattle.std.proofs.lemmas.List.Sums.{fails_before_first}
use Rattle.std.proofs.lemmas.Option.{none-some}
use Rattle.mh_type.specs.declared.value.Value.{Value}
use Rattle.mh_type.specs.declared.value.Value.TheVariants.{Boolean}
use Rattle.mh_type.specs.Fits.{Fits}
use Rattle.mh_type.specs.Kinds.{kind_of}
use Rattle.mh_site.specs.declared.link.Link.{Link}
use Rattle.mh_site.specs.Defined.{DefinitionData, link_of, no_link, no_site, site_at}
use Rattle.mh_site.specs.Definitions.{all_differ, same_key}
use Rattle.mh_site.specs.Lawful.{IsDefinition}
use Rattle.mh_site.specs.Links.{first_link, link_at, links, site_of}
use Rattle.mh_type.specs.Laws.{values_decide}
use Rattle.mh_type.specs.Values.{same_value}
use Rattle.mh_site.specs.Laws.{home, numbered, left_true, right_true, left_false, right_false, not_true}
use Rattle.mh_core.specs.Hits.{argument_at, hits}

none_is : {X : Type 0} (p : X → Bool) (xs : List X) → list_any p xs ≡ false → (k : ℕ) (d : X) → k < length xs → p (slice_index_or xs k d) ≡ false
none_is p [] h k d lt = absurd (omega arith)
none_is p (x ∷ xs) h zero d lt = left_false (p x) (list_any p xs) h
none_is p (x ∷ xs) h (suc k) d lt = none_is p xs (right_false (p x) (list_any p xs) h) k d (omega arith)

-- whether a value is the key of a link at a place
abbrev Asks : List Link → Value → ℕ → Type 0
Asks ls v k = same_value (slice_index_or ls k no_link).when v ≡ true

-- the first link's key is not that of another
first_differs : (l : Link) (ls : List Link) (v : Value) (k : ℕ) → all_differ same_key (l ∷ ls) ≡ true → k < length ls → same_value l.when v ≡ true → Asks ls v k → ⊥
first_differs l ls v k h lt one other =
    let none = none_is (same_key l) ls (not_true (list_any (same_key l) ls) (left_true _ (all_differ same_key ls) h)) k no_link lt in
    let e : l.when ≡ (slice_index_or ls k no_link).when = (values_decide l.when v).0 one ∙ sym ((values_decide _ v).0 other) in
    let same : same_key l (slice_index_or ls k no_link) ≡ true = (values_decide l.when _).1 e in
    cc

-- keys that differ are asked for at one place at most
pub one_place : (ls : List Link) (v : Value) (i k : ℕ) → all_differ same_key ls ≡ true → i < length ls → k < length ls → Asks ls v i → Asks ls v k → i ≡ k
one_place [] v i k h below lt one other = absurd (omega arith)
one_place (l ∷ ls) v zero zero h below lt one other = refl
one_place (l ∷ ls) v zero (suc k) h below lt one other = absurd (first_differs l ls v k h (omega arith) one other)
one_place (l ∷ ls) v (suc i) zero h below lt one other = absurd (first_differs l ls v i h (omega arith) other one)
one_place (l ∷ ls) v (suc i) (suc k) h below lt one other = ap suc (one_place ls v i k (right_true _ (all_differ same_key ls) h) (omega arith) (omega arith) one other)

-- a link of the site whose key is the argument
pub record IsHit (d : DefinitionData) (s : ℕ) (a : List Value) (j : ℕ) : Type 0 where
  pub place : ℕ
  pub inside : place < length (site_at d s).links
  pub is : j ≡ first_link d s + place
  pub asks : Asks (site_at d s).links (argument_at (site_at d s).key a) place

-- a number past the last is of no link
pub hit_inside : (d : DefinitionData) (s j : ℕ) → s < length d.sites → site_of d j ≡ s → j < length (links d)
hit_inside d s j h e = elim (cases_lt j (length (links d))) [
  | inl below ↦ below
  | inr past ↦
      let none : site_of d j ≡ length d.sites = ap (λ (p : ℕ × Link). p.0) (get_or_past (links d) j (length d.sites, no_link) past) in
      absurd (omega (arith, none, e, h))
]

pub hit_is : (d : DefinitionData) (s : ℕ) (a : List Value) (j : ℕ) → s < length d.sites → hits d s a j ≡ true → IsHit d s a j
hit_is d s a j h hit =
    let v = argument_at (site_at d s).key a in
    let at : site_of d j ≡ s = (Decides-eqb (site_of d j) s).0 (left_true (site_of d j == s) _ hit) in
    let asks : same_value (link_at d j).1.when v ≡ true = right_true (site_of d j == s) _ hit in
    let owns = home d.sites (length d.sites) j (length d.sites, no_link) (hit_inside d s j h at) in
    let least : first_link d s ≤ j = subst (λ i. first_link d i ≤ j) at owns.1 in
    let most : j < first_link d s + length (site_at d s).links = subst (λ i. j < first_link d i + length (site_at d i).links) at owns.2 in
    let k = j - first_link d s in
    let is : j ≡ first_link d s + k = omega arith in
    let inside : k < length (site_at d s).links = omega (arith, most, least) in
    let link : link_at d j ≡ (s, link_of d s k) = ap (link_at d) is ∙ numbered d.sites (length d.sites) s k (length d.sites, no_link) h inside in
    record { place = k; inside = inside; is = is; asks = sym (ap (λ (p : ℕ × Link). same_value p.1.when v) link) ∙ asks }

pub is_hit : (d : DefinitionData) (s : ℕ) (a : List Value) (k : ℕ) → s < length d.sites → k < length (site_at d s).links
    → Asks (site_at d s).links (argument_at (site_at d s).key a) k → hits d s a (first_link d s + k) ≡ true
is_hit d s a k h inside asks =
    let v = argument_at (site_at d s).key a in
    ap (λ (p : ℕ × Link). (p.0 == s) && same_value p.1.when v) (numbered d.sites (length d.sites) s k (length d.sites, no_link) h inside)
    ∙ (ap (λ b. b && same_value (link_of d s k).when v) ((Decides-eqb s s).1 refl) ∙ asks)

-- a call hits one link at most
pub one_hit : (d : DefinitionData) (s : ℕ) (a : List Value) (i j : ℕ) → IsDefinition d → s < length d.sites → hits d s a i ≡ true → hits d s a j ≡ true → i ≡ j
one_hit d s a i j is h one other =
    let x = hit_is d s a i h one in
    let y = hit_is d s a j h other in
    let same : x.place ≡ y.place = one_place (site_at d s).links _ x.place y.place (is.sites s no_site h).keys x.inside y.inside x.asks y.asks in
    x.is ∙ (ap (λ k. first_link d s + k) same ∙ sym y.is)

-- a link that is hit is at a site with a key place
pub hit_has_key : (d : DefinitionData) (s : ℕ) (a : List Value) (j : ℕ) → IsDefinition d → s < length d.sites → (site_at d s).key ≡ None → hits d s a j ≡ false
hit_has_key d s a j is h none = by_test (hits d s a j) refl
  where
    by_test : (b : Bool) → hits d s a j ≡ b → b ≡ false
    by_test true e =
        let x = hit_is d s a j h e in
        let key = (is.sites s no_site h).links x.place no_link x.inside in
        absurd (let e = key.key.is in cc)
    by_test false e = refl

-- the arguments that fit have one at the key place
pub key_inside : (d : DefinitionData) (s key : ℕ) (a : List Value) → IsDefinition d → s < length d.sites → (site_at d s).key ≡ Some key → Fits (site_at d s).method_type a → key < length a
key_inside d s key a is h e fits =
    let inside : key < length (site_at d s).method_type.parameters = (is.sites s no_site h).place key e in
    omega (arith, inside, ap length fits, length-map a kind_of)

none_found : {X : Type 0} (p : X → Bool) (xs : List X) → position p xs ≡ None → (k : ℕ) (d : X) → k < length xs → p (slice_index_or xs k d) ≡ false
none_found p xs none k d lt = elim (cases_lt (position_or_len p xs) (length xs)) [
  | inl below ↦
      let test : nat_lt (position_or_len p xs) (length xs) ≡ true = (Decides-ltb (position_or_len p xs) (length xs)).1 below in
      let some : position p xs ≡ Some (position_or_len p xs) = ap (λ b. cond b (Some (position_or_len p xs)) None) test in
      absurd (none-some _ (sym none ∙ some))
  | inr past ↦ fails_before_first p xs k d (omega arith)
]

-- the first link whose key is the argument is hit
module _ (d : DefinitionData) (s key : ℕ) (a : List Value) (h : s < length d.sites) (is_key : (site_at d s).key ≡ Some key) where
  abbrev ls : List Link
  ls = (site_at d s).links

  abbrev asked : Value → Link → Bool
  asked v l = same_value l.when v

  value : argument_at (site_at d s).key a ≡ slice_index_or a key (Boolean false)
  value = ap (λ k. argument_at k a) is_key

  pub found_is_hit : (v : Value) (k : ℕ) → v ≡ slice_index_or a key (Boolean false) → position (asked v) ls ≡ Some k → (k < length ls) × (hits d s a (first_link d s + k) ≡ true)
  found_is_hit v k e found =
      let at = position-Some (asked v) ls k no_link found in
      (at.0, is_hit d s a k h at.0 (ap (λ w. same_value (slice_index_or ls k no_link).when w) (value ∙ sym e) ∙ at.1))

  pub none_is_hit : (v : Value) (j : ℕ) → v ≡ slice_index_or a key (Boolean false) → position (asked v) ls ≡ None → hits d s a j ≡ false
  none_is_hit v j e none = by_test (hits d s a j) refl
    where
      by_test : (b : Bool) → hits d s a j ≡ b → b ≡ false
      by_test true hit =
          let x = hit_is d s a j h hit in
          let asks : same_value (slice_index_or ls x.place no_link).when v ≡ true = ap (same_value (slice_index_or ls x.place no_link).when) (e ∙ sym value) ∙ x.asks in
          sym asks ∙ none_found (asked v) ls none x.place no_link x.inside
      by_test false hit = refl
