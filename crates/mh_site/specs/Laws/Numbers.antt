-- Numbers of links.
use Rattle.std.proofs.Common.{◌≡◌, inl, inr, ℕ, zero, suc, ◌+◌, ◌-◌, ◌<◌, ◌≤◌, List, [], ◌∷◌, ◌++◌, length, map, replicate, slice_index_or, refl, ap, sym, subst, ◌∙◌, arith}
use Rattle.std.proofs.lemmas.List.{get_or_append_left, get_or-append-add, get_or-map, length-append, length-map, map-append}
use Rattle.std.proofs.lemmas.Bool.{cases_lt}
use Rattle.std.proofs.lemmas.List.FromFn.{map-range_with_len_more, get_or-map-range_with_len}
use Rattle.mh_site.specs.declared.link.Link.{Link}
use Rattle.mh_site.specs.declared.site.Site.{Site}
use Rattle.mh_site.specs.Defined.{no_link, no_site}
use Rattle.mh_site.specs.Links.{first_links, homes_before, links_at, links_before}

abbrev pub links_in : List Site → ℕ → List Link
links_in sites s = (slice_index_or sites s no_site).links

abbrev home_of : ℕ × Link → ℕ
home_of e = e.0

pub before_more : (sites : List Site) (n : ℕ) → links_before sites (n + 1) ≡ links_before sites n ++ links_at sites n
before_more sites n = let e : n + 1 ≡ suc n = omega arith in ap (links_before sites) e

at_home : (s : ℕ) (ls : List Link) → map home_of (map (λ l. (s, l)) ls) ≡ replicate (length ls) s
at_home s [] = refl
at_home s (l ∷ ls) = ap (λ rest. s ∷ rest) (at_home s ls)

pub homes_more : (sites : List Site) (n : ℕ) → homes_before sites (n + 1) ≡ homes_before sites n ++ replicate (length (links_in sites n)) n
homes_more sites n =
    ap (map home_of) (before_more sites n)
    ∙ (map-append home_of (links_before sites n) (links_at sites n) ∙ ap (λ more. map home_of (links_before sites n) ++ more) (at_home n (links_in sites n)))

pub firsts_more : (sites : List Site) (n : ℕ) → first_links sites (n + 1) ≡ first_links sites n ++ length (homes_before sites n) ∷ []
firsts_more sites n =
    map-range_with_len_more (λ i. length (links_before sites i)) 0 n n (omega arith)
    ∙ ap (λ k. first_links sites n ++ k ∷ []) (sym (length-map (links_before sites n) home_of))

-- the entry of the table of first links at a site
pub first_at : (sites : List Site) (s d : ℕ) → s < length sites → slice_index_or (first_links sites (length sites)) s d ≡ length (links_before sites s)
first_at sites s d h = get_or-map-range_with_len (λ i. length (links_before sites i)) 0 (length sites) s s d h (omega arith)

length_more : (sites : List Site) (n : ℕ) → length (links_before sites (suc n)) ≡ length (links_before sites n) + length (links_in sites n)
length_more sites n = length-append (links_before sites n) (links_at sites n) ∙ ap (λ k. length (links_before sites n) + k) (length-map (links_in sites n) (λ l. (n, l)))

-- the links of a site come before those of a later one
pub before_within : (sites : List Site) (n s : ℕ) → s < n → length (links_before sites s) + length (links_in sites s) ≤ length (links_before sites n)
before_within sites zero s h = absurd (omega arith)
before_within sites (suc n) s h = elim (cases_lt s n) [
  | inl earlier ↦ let least = before_within sites n s earlier in omega (arith, least, length_more sites n)
  | inr last ↦
      let e : n ≡ s = omega arith in
      let here : length (links_before sites n) + length (links_in sites n) ≤ length (links_before sites (suc n)) = omega (arith, length_more sites n) in
      subst (λ k. length (links_before sites k) + length (links_in sites k) ≤ length (links_before sites (suc n))) e here
]

-- the link with a number
pub numbered : (sites : List Site) (n s k : ℕ) (d : ℕ × Link) → s < n → k < length (links_in sites s) → slice_index_or (links_before sites n) (length (links_before sites s) + k) d ≡ (s, slice_index_or (links_in sites s) k no_link)
numbered sites zero s k d h m = absurd (omega arith)
numbered sites (suc n) s k d h m = elim (cases_lt s n) [
  | inl earlier ↦
      let inside : length (links_before sites s) + k < length (links_before sites n) = omega (arith, m, before_within sites n s earlier) in
      get_or_append_left (links_before sites n) (links_at sites n) d _ inside ∙ numbered sites n s k d earlier m
  | inr last ↦
      let e : s ≡ n = omega arith in
      let inside : k < length (links_in sites n) = subst (λ i. k < length (links_in sites i)) e m in
      let here : slice_index_or (links_before sites (suc n)) (length (links_before sites n) + k) d ≡ (n, slice_index_or (links_in sites n) k no_link) =
      get_or-append-add (links_before sites n) (links_at sites n) k d ∙ get_or-map (λ l. (n, l)) (links_in sites n) k no_link d inside in
      subst (λ i. slice_index_or (links_before sites (suc n)) (length (links_before sites i) + k) d ≡ (i, slice_index_or (links_in sites i) k no_link)) (sym e) here
]

-- a site among the first, with a link of this number
abbrev pub Owns : List Site → ℕ → ℕ → ℕ → Type 0
Owns sites n j s = (s < n) × (length (links_before sites s) ≤ j) × (j < length (links_before sites s) + length (links_in sites s))

-- the site with a number
pub home : (sites : List Site) (n j : ℕ) (d : ℕ × Link) → j < length (links_before sites n) → Owns sites n j (slice_index_or (links_before sites n) j d).0
home sites zero j d h = absurd (omega arith)
home sites (suc n) j d h = elim (cases_lt j (length (links_before sites n))) [
  | inl earlier ↦
      let is = home sites n j d earlier in
      let widen : Owns sites (suc n) j (slice_index_or (links_before sites n) j d).0 = (omega (arith, is.0), is.1, is.2) in
      subst (λ (e : ℕ × Link). Owns sites (suc n) j e.0) (sym (get_or_append_left (links_before sites n) (links_at sites n) d j earlier)) widen
  | inr last ↦
      let k = j - length (links_before sites n) in
      let at : length (links_before sites n) + k ≡ j = omega arith in
      let inside : k < length (links_in sites n) = omega (arith, h, length_more sites n) in
      let found : slice_index_or (links_before sites (suc n)) j d ≡ (n, slice_index_or (links_in sites n) k no_link) =
      ap (λ i. slice_index_or (links_before sites (suc n)) i d) (sym at) ∙ (get_or-append-add (links_before sites n) (links_at sites n) k d ∙ get_or-map (λ l. (n, l)) (links_in sites n) k no_link d inside) in
      subst (λ (e : ℕ × Link). Owns sites (suc n) j e.0) (sym found) (omega arith, last, omega (arith, h, length_more sites n))
]

-- the entry of the table of sites at a link
pub home_at : (sites : List Site) (n j d : ℕ) (e : ℕ × Link) → j < length (links_before sites n) → slice_index_or (homes_before sites n) j d ≡ (slice_index_or (links_before sites n) j e).0
home_at sites n j d e h = get_or-map home_of (links_before sites n) j e d h
