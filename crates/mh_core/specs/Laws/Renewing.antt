-- Facts that a renewal preserves.
use Rattle.std.proofs.Common.{◌≡◌, ℕ, zero, suc, ◌+◌, ◌<◌, ◌≤◌, ◌==◌, Bool, true, false, cond, List, [], ◌∷◌, length, map, filter, not, nat_lt, ◌&&◌, ◌||◌, slice_index_or, refl, ap, sym, subst, ◌∙◌, arith}
use Rattle.std.specs.List.{range_with_len}
use Rattle.std.proofs.lemmas.List.{get_or_past}
use Rattle.std.proofs.lemmas.Simd.{map-map}
use Rattle.std.proofs.lemmas.List.FromFn.{get_or-map-range_with_len, length-map-range_with_len}
use Rattle.std.proofs.lemmas.Bool.Decides.{nat_tests}
use Rattle.mh_type.specs.declared.kind.Kind.TheVariants as kind
use Rattle.mh_type.specs.declared.value.Value.{Value}
use Rattle.mh_type.specs.declared.value.Value.TheVariants.{Boolean}
use Rattle.mh_tree.specs.Handle.{TypedTree}
use Rattle.mh_tree.specs.Environment.{Environment}
use Rattle.mh_tree.specs.Meaning.{mean}
use Rattle.mh_tree.specs.Sites.{with_sites, target_at as site_tree}
use Rattle.mh_tree.specs.Tree.{Tree, constant}
use Rattle.mh_tree.specs.Typing.{IsTyped}
use Rattle.mh_pic.specs.Specialised.{Retires, is_among, retired_tree}
use Rattle.mh_pic.specs.Laws.{resolved_bound, resolved_invokes, retired_mean, retired_sites}
use Rattle.mh_site.specs.Defined.{DefinitionData, site_at, no_tree}
use Rattle.mh_site.specs.Invoking.{IsLower, IsOfType}
use Rattle.mh_site.specs.Lawful.{IsDefinition}
use Rattle.mh_site.specs.Links.{links}
use Rattle.mh_site.specs.LookBack as look
use Rattle.mh_site.specs.LookBack.{member}
use Rattle.mh_site.specs.Targets.{AreTargets, MayRun, target_at}
use Rattle.mh_site.specs.Laws as sites
use Rattle.mh_site.specs.declared.control.Control.{Control}
use Rattle.mh_site.specs.declared.control.Control.TheVariants as control
use Rattle.mh_core.specs.declared.record.Record.{Record}
use Rattle.mh_core.specs.declared.record.Record.TheVariants.{Invalidated}
use Rattle.mh_core.specs.Books.{BookState, Legal}
use Rattle.mh_core.specs.Limits.{LimitsData}
use Rattle.mh_core.specs.PlanTables.{plans_of}
use Rattle.mh_core.specs.Records.{base, bases, environment_of_bases, is_valid, numbers, plain_controls, valid_points}
use Rattle.mh_core.specs.Renewals.{BasesAreTyped, carried, fallen, given_back, is_valid_anew, renewed, renewed_bases, renewed_records, MeansTheSame}
use Rattle.mh_core.specs.Replayed.{controls}
use Rattle.mh_core.specs.Snapshots.{snapshots_of}
use Rattle.mh_core.specs.Laws.Numbered.{same_numbers}
use Rattle.mh_core.specs.Laws.Worlds.{base_suits}

-- ---- flushes change neither trees nor points
pub plain_carried : (r : List Record) (shares : List (List ℕ)) (n : ℕ) → plain_controls (carried r shares n) ≡ plain_controls r
plain_carried r shares zero = refl
plain_carried r shares (suc n) = plain_carried r shares n

pub controls_carried : (d : DefinitionData) (r : List Record) (shares : List (List ℕ)) (n : ℕ) → controls d (carried r shares n) ≡ controls d r
controls_carried d r shares zero = refl
controls_carried d r shares (suc n) = controls_carried d r shares n

pub snapshots_carried : (d : DefinitionData) (r : List Record) (shares : List (List ℕ)) (n : ℕ) → snapshots_of d (carried r shares n) ≡ snapshots_of d r
snapshots_carried d r shares zero = refl
snapshots_carried d r shares (suc n) = snapshots_carried d r shares n

pub plans_carried : (r : List Record) (shares : List (List ℕ)) (n : ℕ) → plans_of (carried r shares n) ≡ plans_of r
plans_carried r shares zero = refl
plans_carried r shares (suc n) = plans_carried r shares n

pub length_carried : (r : List Record) (shares : List (List ℕ)) (n : ℕ) → length (carried r shares n) ≡ length r + n
length_carried r shares zero = omega arith
length_carried r shares (suc n) = let h = length_carried r shares n in omega arith

-- ---- the definition
module _ (d : DefinitionData) (r : List Record) (again : List ℕ) where
  abbrev points : List ℕ
  points = given_back r again

  abbrev tree : ℕ → TypedTree
  tree s = retired_tree points (base d r s)

  target_is : (s : ℕ) → s < length d.sites → target_at (renewed_bases d r again) s ≡ tree s
  target_is s h = get_or-map-range_with_len tree 0 (length d.sites) s s no_tree h (omega arith)

  pub renewed_sites : length (renewed d r again).sites ≡ length d.sites
  renewed_sites = sites.sites_kept d (renewed_bases d r again)

  pub renewed_links : links (renewed d r again) ≡ links d
  renewed_links = sites.links_kept d (renewed_bases d r again)

  pub bases_suit : (l : LimitsData) → IsDefinition d → Legal d l r → AreTargets d (renewed_bases d r again)
  bases_suit l is legal = record {
    count = length-map-range_with_len tree 0 (length d.sites);
    each = λ s h.
        let suits = base_suits d l r s is h legal in
        let own : Tree = (base d r s).tree in
        let level : ℕ = (site_at d s).level in
        let bound = resolved_bound false points own in
        let run : MayRun d s (tree s) = record {
          typed = suits.signature;
          known = omega (arith, bound, suits.points);
          invokes = record {
            types = resolved_invokes (IsOfType d.sites) false points own suits.invokes.types;
            levels = resolved_invokes (IsLower d.sites level) false points own suits.invokes.levels;
          };
        } in
        subst (MayRun d s) (sym (target_is s h)) run;
  }

  pub renewed_lawful : (l : LimitsData) → IsDefinition d → Legal d l r → IsDefinition (renewed d r again)
  renewed_lawful l is legal = sites.with_targets_lawful d (renewed_bases d r again) is (bases_suit l is legal)

-- ---- points
pub absent_cond : (b : Bool) (a p : ℕ) (xs : List ℕ) → (a == p) ≡ false → member xs p ≡ false → member (cond b (a ∷ xs) xs) p ≡ false
absent_cond true a p xs e k = rw e k
absent_cond false a p xs e k = k

absent : (f : ℕ → Bool) (a n p : ℕ) → p < a → member (filter f (range_with_len a n)) p ≡ false
absent f a zero p h = refl
absent f a (suc n) p h = absent_cond (f a) a p (filter f (range_with_len (a + 1) n)) (grind (arith, nat_tests)) (absent f (a + 1) n p (omega arith))

here : (b : Bool) (a p : ℕ) (xs : List ℕ) → (a == p) ≡ true → member xs p ≡ false → member (cond b (a ∷ xs) xs) p ≡ b
here true a p xs e k = rw e refl
here false a p xs e k = k

later : (b : Bool) (a p : ℕ) (xs : List ℕ) → (a == p) ≡ false → member (cond b (a ∷ xs) xs) p ≡ member xs p
later true a p xs e = rw e refl
later false a p xs e = refl

step : (f : ℕ → Bool) (a n p : ℕ) (b : Bool) → (a == p) ≡ b → (b ≡ false → member (filter f (range_with_len (a + 1) n)) p ≡ f p)
    → member (filter f (range_with_len a (suc n))) p ≡ f p
step f a n p true e k = let same : a ≡ p = grind (arith, nat_tests) in here (f a) a p (filter f (range_with_len (a + 1) n)) e (absent f (a + 1) n p (omega arith)) ∙ ap f same
step f a n p false e k = later (f a) a p (filter f (range_with_len (a + 1) n)) e ∙ k refl

past : (a p : ℕ) → a ≤ p → (a == p) ≡ false → a + 1 ≤ p
past a p low e = grind (arith, nat_tests)

pub among : (f : ℕ → Bool) (a n p : ℕ) → a ≤ p → p < a + n → member (filter f (range_with_len a n)) p ≡ f p
among f a zero p low high = absurd (omega arith)
among f a (suc n) p low high = step f a n p (a == p) refl (λ e. among f (a + 1) n p (past a p low e) (omega arith))

and_none : (b : Bool) → (b && false) ≡ false
and_none true = refl
and_none false = refl

pub twice : (b : Bool) → (not (not b) && true) ≡ b
twice true = refl
twice false = refl

-- the members of a filtered list are the members that pass the test
member_filter : (f : ℕ → Bool) (ps : List ℕ) (p : ℕ) → is_among (filter f ps) p ≡ (f p && is_among ps p)
member_filter f [] p = sym (and_none (f p))
member_filter f (q ∷ ps) p = by_test (f q) (q == p) refl refl (member_filter f ps p)
  where
    by_test : (b c : Bool) → f q ≡ b → (q == p) ≡ c → is_among (filter f ps) p ≡ (f p && is_among ps p)
        → is_among (cond (f q) (q ∷ filter f ps) (filter f ps)) p ≡ (f p && ((q == p) || is_among ps p))
    by_test true true e k rest = let same : q ≡ p = grind (arith, nat_tests) in rw (e, k) (sym (ap (λ b. b && true) (ap f (sym same) ∙ e)))
    by_test true false e k rest = rw (e, k) rest
    by_test false true e k rest =
        let same : q ≡ p = grind (arith, nat_tests) in
        let fails : f p ≡ false = ap f (sym same) ∙ e in
        rw e (rest ∙ ap (λ b. b && is_among ps p) fails ∙ sym (ap (λ b. b && ((q == p) || is_among ps p)) fails))
    by_test false false e k rest = rw (e, k) rest

-- a point that is given back was invalid
given_fell : (v a : Bool) → (not v && a) ≡ true → v ≡ false
given_fell true a h = cc
given_fell false a h = refl

-- a point that is not given back is as it was
not_given : (v a : Bool) → (not v && a) ≡ false → (v || a) ≡ v
not_given true a h = refl
not_given false a h = h

-- ---- what trees mean
module _ (d : DefinitionData) (r : List Record) (again : List ℕ) (shares : List (List ℕ)) where
  abbrev new : List Record
  new = renewed_records d r again shares

  abbrev now : DefinitionData
  now = renewed d r again

  plain_new : plain_controls new ≡ control.Invalidate (fallen d r again) ∷ []
  plain_new = plain_carried (Invalidated (fallen d r again) ∷ []) shares (length shares)

  base_kept : (s : ℕ) → s < length d.sites → base now new s ≡ retired_tree (given_back r again) (base d r s)
  base_kept s h =
      ap (λ (cs : List Control). look.base now cs s) plain_new
      ∙ (ap (λ x. x.target) (sites.site_kept d (renewed_bases d r again) s h) ∙ target_is d r again s h)

  bases_kept : bases now new ≡ map (retired_tree (given_back r again)) (bases d r)
  bases_kept =
      ap (λ n. map (base now new) (numbers n)) (renewed_sites d r again)
      ∙ same_numbers no_tree (base now new) (λ s. retired_tree (given_back r again) (base d r s)) (length d.sites) base_kept
      ∙ sym (map-map (retired_tree (given_back r again)) (base d r) (numbers (length d.sites)))

  valid_anew : (p : ℕ) → p < length d.points → is_valid new p ≡ is_valid_anew r again p
  valid_anew p h =
      ap (λ (cs : List Control). look.is_valid cs p) plain_new
      ∙ (ap (λ b. not b && true) (among (λ q. not (is_valid_anew r again q)) 0 (length d.points) p (omega arith) (omega arith)) ∙ twice (is_valid_anew r again p))

  pub points_anew : valid_points now new ≡ map (is_valid_anew r again) (numbers (length d.points))
  points_anew = same_numbers false (is_valid new) (is_valid_anew r again) (length d.points) valid_anew

  at_point : (f : ℕ → Bool) (p : ℕ) → p < length d.points → slice_index_or (map f (numbers (length d.points))) p false ≡ f p
  at_point f p h = get_or-map-range_with_len f 0 (length d.points) p p false h (omega arith)

  past_points : (f : ℕ → Bool) (p : ℕ) → length d.points ≤ p → slice_index_or (map f (numbers (length d.points))) p false ≡ false
  past_points f p h = get_or_past (map f (numbers (length d.points))) p false (omega (arith, h, length-map-range_with_len f 0 (length d.points)))

  was_invalid : (p : ℕ) → is_among (given_back r again) p ≡ true → slice_index_or (valid_points d r) p false ≡ false
  was_invalid p given = by_place (nat_lt p (length d.points)) refl
    where
      by_place : (b : Bool) → nat_lt p (length d.points) ≡ b → slice_index_or (valid_points d r) p false ≡ false
      by_place true e =
          at_point (is_valid r) p (grind (arith, nat_tests)) ∙ given_fell (is_valid r p) (is_among again p) (sym (member_filter (λ q. not (is_valid r q)) again p) ∙ given)
      by_place false e = past_points (is_valid r) p (grind (arith, nat_tests))

  stays : (p : ℕ) → is_among (given_back r again) p ≡ false → slice_index_or (map (is_valid_anew r again) (numbers (length d.points))) p false ≡ slice_index_or (valid_points d r) p false
  stays p other = by_place (nat_lt p (length d.points)) refl
    where
      by_place : (b : Bool) → nat_lt p (length d.points) ≡ b → slice_index_or (map (is_valid_anew r again) (numbers (length d.points))) p false ≡ slice_index_or (valid_points d r) p false
      by_place true e =
          let inside : p < length d.points = grind (arith, nat_tests) in
          at_point (is_valid_anew r again) p inside
          ∙ (not_given (is_valid r p) (is_among again p) (sym (member_filter (λ q. not (is_valid r q)) again p) ∙ other) ∙ sym (at_point (is_valid r) p inside))
      by_place false e =
          let past : length d.points ≤ p = grind (arith, nat_tests) in
          past_points (is_valid_anew r again) p past ∙ sym (past_points (is_valid r) p past)

  retires : Retires (given_back r again) (valid_points d r) (map (is_valid_anew r again) (numbers (length d.points)))
  retires = record { taken = was_invalid; others = stays }

  -- the tree of a site that does not exist
  abbrev absent_tree : TypedTree
  absent_tree = record { tree = constant (Boolean false); signature = record { ret = kind.Boolean; parameters = [] } }

  typed_target : BasesAreTyped d r → (s : ℕ) → s < length (bases d r) → IsTyped (site_tree (bases d r) s).tree (site_tree (bases d r) s).signature
  typed_target typed s h =
      let inside : s < length d.sites = omega (arith, h, length-map-range_with_len (base d r) 0 (length d.sites)) in
      subst (λ (t : TypedTree). IsTyped t.tree t.signature) (sym (get_or-map-range_with_len (base d r) 0 (length d.sites) s s absent_tree inside (omega arith))) (typed s inside)

  environment_anew : environment_of_bases now new ≡ with_sites (map (is_valid_anew r again) (numbers (length d.points))) (map (retired_tree (given_back r again)) (bases d r))
  environment_anew = ap (λ v. with_sites v (bases now new)) points_anew ∙ ap (with_sites (map (is_valid_anew r again) (numbers (length d.points)))) bases_kept

  pub mean_kept : BasesAreTyped d r → (s : ℕ) (a : List Value) → s < length d.sites → mean (environment_of_bases now new) (base now new s).tree a ≡ mean (environment_of_bases d r) (base d r s).tree a
  mean_kept typed s a h =
      ap (λ (v : Environment). mean v (base now new s).tree a) environment_anew
      ∙ (ap (λ (t : TypedTree). mean (with_sites (map (is_valid_anew r again) (numbers (length d.points))) (map (retired_tree (given_back r again)) (bases d r))) t.tree a) (base_kept s h)
      ∙ retired_mean (given_back r again) (environment_of_bases d r) _ (retired_sites (given_back r again) (valid_points d r) _ (bases d r) retires (typed_target typed)) (base d r s).tree (base d r s).signature (typed s h) a)

  pub new_controls : controls now new ≡ control.Invalidate (fallen d r again) ∷ []
  new_controls = controls_carried now (Invalidated (fallen d r again) ∷ []) shares (length shares)

  pub new_snapshots : snapshots_of now new ≡ []
  new_snapshots = snapshots_carried now (Invalidated (fallen d r again) ∷ []) shares (length shares)

  pub new_plans : plans_of new ≡ []
  new_plans = plans_carried (Invalidated (fallen d r again) ∷ []) shares (length shares)

-- ---- a book that begins a new history
pub means_the_same : (b new : BookState) (again : List ℕ) (shares : List (List ℕ)) → BasesAreTyped b.definition b.records → new.definition ≡ renewed b.definition b.records again
    → new.records ≡ renewed_records b.definition b.records again shares → MeansTheSame again b new
means_the_same b new again shares typed definition records =
    let now : DefinitionData = renewed b.definition b.records again in
    record {
      calls = λ s a inside.
          ap (λ (d : DefinitionData). mean (environment_of_bases d new.records) (base d new.records s).tree a) definition
          ∙ (ap (λ (r : List Record). mean (environment_of_bases now r) (base now r s).tree a) records ∙ mean_kept b.definition b.records again shares typed s a inside);
      valid = ap (λ (d : DefinitionData). valid_points d new.records) definition ∙ (ap (valid_points now) records ∙ points_anew b.definition b.records again shares);
    }
