-- The links of a plan, site after site.
use Rattle.std.proofs.Common.{◌≡◌, ℕ, suc, ◌+◌, ◌<◌, Bool, false, not, ◌&&◌, ◌||◌, nat_lt, List, [], ◌∷◌, ◌++◌, length, filter, slice_index_or, refl, ap, sym, ◌∙◌, arith}
use Rattle.std.specs.List.{All}
use Rattle.std.proofs.lemmas.Bool.{false≢true, or_left}
use Rattle.std.proofs.lemmas.Bool.Decides.{Decides-ltb}
use Rattle.std.proofs.lemmas.List.{length-append, length-map}
use Rattle.std.proofs.lemmas.List.Elements.{All-filter, filter-append}
use Rattle.std.proofs.lemmas.List.FromFn.{get_or-range_with_len, length-range_with_len}
use Rattle.mh_network.specs.Selection.{member}
use Rattle.mh_site.specs.declared.link.Link.{Link}
use Rattle.mh_site.specs.Defined.{DefinitionData, no_link, site_at}
use Rattle.mh_site.specs.Links.{first_link, links, links_at, links_before, site_of}
use Rattle.mh_site.specs.Laws.{numbered}
use Rattle.mh_core.specs.declared.record.Record.{Record}
use Rattle.mh_core.specs.Books.{BookState, IsBook}
use Rattle.mh_core.specs.Installations.{IsPublished, chosen, is_concerned, is_current, kept, left_out, own_links, plan_at}
use Rattle.mh_core.specs.Problems.{is_eligible}
use Rattle.mh_core.specs.Records.{numbers}
use Rattle.mh_core.specs.Laws.Members.{filter_alike, numbers_parts, rising_below}
use Rattle.mh_core.specs.Laws.PlanTables.{plan_known}

module _ (d : DefinitionData) (r : List Record) (m : ℕ) where
  abbrev in_plan : ℕ → Bool
  in_plan = member (plan_at r m).plan.links

  abbrev is_left_out : ℕ → Bool
  is_left_out j = is_current r m (site_of d j) && not (is_eligible d r j)

  -- those that are left out of the links of the first sites
  abbrev pub left_out_before : ℕ → List ℕ
  left_out_before s = filter is_left_out (filter in_plan (numbers (first_link d s)))

  -- those of a site
  abbrev pub left_out_at : ℕ → List ℕ
  left_out_at s = filter (λ j. is_current r m s && not (is_eligible d r j)) (chosen d r m s)

  own_site : (s : ℕ) → s < length d.sites → All (λ j. site_of d j ≡ s) (own_links d s)
  own_site s h k e below =
      let n = length (site_at d s).links in
      let inside : k < n = omega (arith, below, length-range_with_len (first_link d s) n) in
      ap (site_of d) (get_or-range_with_len (first_link d s) n k e inside) ∙ ap (λ (l : ℕ × Link). l.0) (numbered d.sites (length d.sites) s k (length d.sites, no_link) h inside)

  at_site : (s : ℕ) → s < length d.sites → filter is_left_out (chosen d r m s) ≡ left_out_at s
  at_site s h =
      filter_alike is_left_out (λ j. is_current r m s && not (is_eligible d r j)) (chosen d r m s)
      (All-filter in_plan (λ j. is_left_out j ≡ (is_current r m s && not (is_eligible d r j))) (own_links d s)
      (λ k e below. ap (λ (t : ℕ). is_current r m t && not (is_eligible d r (slice_index_or (own_links d s) k e))) (own_site s h k e below)))

  first_more : (s : ℕ) → first_link d (s + 1) ≡ first_link d s + length (site_at d s).links
  first_more s =
      let more : s + 1 ≡ suc s = omega arith in
      let here : length (links_at d.sites s) ≡ length (site_at d s).links = length-map (site_at d s).links (λ (l : Link). (s, l)) in
      ap (first_link d) more ∙ (length-append (links_before d.sites s) (links_at d.sites s) ∙ ap (λ (n : ℕ). first_link d s + n) here)

  -- one site more
  pub left_out_more : (s : ℕ) → s < length d.sites → left_out_before (s + 1) ≡ left_out_before s ++ left_out_at s
  left_out_more s h =
      let n = length (site_at d s).links in
      ap (λ (k : ℕ). filter is_left_out (filter in_plan (numbers k))) (first_more s)
      ∙ (ap (λ (l : List ℕ). filter is_left_out (filter in_plan l)) (numbers_parts (first_link d s) n)
      ∙ (ap (filter is_left_out) (filter-append in_plan (numbers (first_link d s)) (own_links d s))
      ∙ (filter-append is_left_out (filter in_plan (numbers (first_link d s))) (chosen d r m s) ∙ ap (λ (l : List ℕ). left_out_before s ++ l) (at_site s h))))

  -- a site that is not concerned has no link in the plan
  pub none_left_out : (s : ℕ) → is_concerned d r m s ≡ false → left_out_at s ≡ []
  none_left_out s none = ap (filter (λ j. is_current r m s && not (is_eligible d r j))) (no_chosen (chosen d r m s) none)
    where
      no_chosen : (js : List ℕ) → (nat_lt 0 (length js) || nat_lt 0 (length (kept d r s))) ≡ false → js ≡ []
      no_chosen [] e = refl
      no_chosen (j ∷ js) e = absurd (false≢true (sym e ∙ or_left (nat_lt 0 (length (j ∷ js))) _ ((Decides-ltb 0 (length (j ∷ js))).1 (omega arith))))

-- those of all sites are those of the plan
pub left_out_all : (b : BookState) (m : ℕ) → IsBook b → IsPublished b.records m → left_out_before b.definition b.records m (length b.definition.sites) ≡ left_out b.definition b.records m
left_out_all b m is published =
    let known = plan_known b m is published in
    ap (filter (λ j. is_current b.records m (site_of b.definition j) && not (is_eligible b.definition b.records j)))
    (rising_below (length (links b.definition)) (plan_at b.records m).plan.links known.ascending known.inside)
