-- The tables of a world agree with looking back through the records, and with the state of a book that has one more record.
use Rattle.std.proofs.Common.{◌≡◌, ℕ, zero, suc, ◌+◌, ◌<◌, ◌≤◌, ◌==◌, nat_lt, Bool, true, false, cond, List, [], ◌∷◌, ◌++◌, length, map, filter, not, ◌&&◌, ◌||◌, refl, ap, sym, subst, ◌∙◌, arith}
use Rattle.std.specs.Prelude.{reverse}
use Rattle.std.specs.List.{range_with_len}
use Rattle.std.proofs.lemmas.List.{reverse-append, ext_get_or, get_or-map, length-map}
use Rattle.std.proofs.lemmas.List.FromFn.{get_or-map-range_with_len, length-map-range_with_len}
use Rattle.std.proofs.lemmas.Bool.Decides.{Decides-ltb, nat_tests}
use Rattle.mh_tree.specs.Handle.{TypedTree}
use Rattle.mh_tree.specs.Limits.{point_bound}
use Rattle.mh_site.specs.declared.control.Control.{Control}
use Rattle.mh_site.specs.Controls.{Relinked}
use Rattle.mh_site.specs.Defined.{DefinitionData, site_at, no_site}
use Rattle.mh_site.specs.Invoking.{InvokesLower}
use Rattle.mh_site.specs.Lawful.{IsDefinition, MayInvokeFrom}
use Rattle.mh_site.specs.LookBack as look
use Rattle.mh_site.specs.LookBack.{member, last_of}
use Rattle.mh_site.specs.Worlds.{SiteState, no_state, opened, replay, state_at}
use Rattle.mh_site.specs.Worlds as worlds
use Rattle.mh_site.specs.Laws as sites
use Rattle.mh_core.specs.declared.record.Record.{Record}
use Rattle.mh_core.specs.declared.record.Record.TheVariants.{Flushed, Targeted, Invalidated, Snapped, Published, Installed}
use Rattle.mh_core.specs.Books.{Legal}
use Rattle.mh_core.specs.Limits.{LimitsData}
use Rattle.mh_core.specs.Installations.{linked, linkeds, kept, chosen, usable, cached, is_current, is_concerned}
use Rattle.mh_core.specs.Problems.{is_eligible}
use Rattle.mh_core.specs.Records.{base, bases, version, is_valid, valid_points}
use Rattle.mh_core.specs.Replayed.{controls, world, changes, relinked}

pub newest_push : {A : Type 0} (xs : List A) (x : A) → reverse (xs ++ x ∷ []) ≡ x ∷ reverse xs
newest_push xs x = reverse-append xs (x ∷ [])

pub oldest_push : {A : Type 0} (x : A) (xs : List A) → reverse (x ∷ xs) ≡ reverse xs ++ x ∷ []
oldest_push x xs = reverse-append (x ∷ []) xs

-- a world that absorbs one more control is that of one more record
pub world_push : (d : DefinitionData) (r older : List Record) (c : Control) → controls d r ≡ c ∷ controls d older
    → world d r ≡ replay (opened d) (reverse (controls d older) ++ c ∷ [])
world_push d r older c e = ap (λ (cs : List Control). replay (opened d) (reverse cs)) e ∙ ap (replay (opened d)) (oldest_push c (controls d older))

-- ---- the controls of records agree with the records
base_same : (d : DefinitionData) (r : List Record) (s : ℕ) → look.base d (controls d r) s ≡ base d r s
base_same d [] s = refl
base_same d (Flushed w hits ∷ r) s = base_same d r s
base_same d (Targeted t tree ∷ r) s = ap (λ (u : TypedTree). cond (t == s) tree u) (base_same d r s)
base_same d (Invalidated points ∷ r) s = base_same d r s
base_same d (Snapped ∷ r) s = base_same d r s
base_same d (Published n plan ∷ r) s = base_same d r s
base_same d (Installed m ∷ r) s = base_same d r s

version_same : (d : DefinitionData) (r : List Record) (s : ℕ) → look.version (controls d r) s ≡ version r s
version_same d [] s = refl
version_same d (Flushed w hits ∷ r) s = version_same d r s
version_same d (Targeted t tree ∷ r) s = ap (λ (n : ℕ). cond (t == s) (n + 1) n) (version_same d r s)
version_same d (Invalidated points ∷ r) s = version_same d r s
version_same d (Snapped ∷ r) s = version_same d r s
version_same d (Published n plan ∷ r) s = version_same d r s
version_same d (Installed m ∷ r) s = version_same d r s

valid_same : (d : DefinitionData) (r : List Record) (p : ℕ) → look.is_valid (controls d r) p ≡ is_valid r p
valid_same d [] p = refl
valid_same d (Flushed w hits ∷ r) p = valid_same d r p
valid_same d (Targeted t tree ∷ r) p = valid_same d r p
valid_same d (Invalidated points ∷ r) p = ap (λ (b : Bool). not (member points p) && b) (valid_same d r p)
valid_same d (Snapped ∷ r) p = valid_same d r p
valid_same d (Published n plan ∷ r) p = valid_same d r p
valid_same d (Installed m ∷ r) p = valid_same d r p

controls_count : (d : DefinitionData) (r : List Record) → length (controls d r) ≤ length r
controls_count d [] = omega arith
controls_count d (Flushed w hits ∷ r) = let h = controls_count d r in omega arith
controls_count d (Targeted t tree ∷ r) = let h = controls_count d r in omega arith
controls_count d (Invalidated points ∷ r) = let h = controls_count d r in omega arith
controls_count d (Snapped ∷ r) = let h = controls_count d r in omega arith
controls_count d (Published n plan ∷ r) = let h = controls_count d r in omega arith
controls_count d (Installed m ∷ r) = let h = controls_count d r in omega arith

abbrev numbers : ℕ → List ℕ
numbers n = range_with_len 0 n

same_map : (f g : ℕ → Bool) (n : ℕ) → ((i : ℕ) → f i ≡ g i) → map f (numbers n) ≡ map g (numbers n)
same_map f g n h =
    ext_get_or false (map f (numbers n)) (map g (numbers n)) (length-map-range_with_len f 0 n ∙ sym (length-map-range_with_len g 0 n))
    (λ i within.
    let inside : i < n = omega (arith, length-map-range_with_len f 0 n) in
    get_or-map-range_with_len f 0 n i i false inside (omega arith) ∙ (h i ∙ sym (get_or-map-range_with_len g 0 n i i false inside (omega arith))))

-- ---- the world after records
pub world_sites : (d : DefinitionData) (r : List Record) → length (world d r).sites ≡ length d.sites
world_sites d r = sites.world_sites d (controls d r)

pub world_front : (d : DefinitionData) (r : List Record) → (world d r).front ≤ length r
world_front d r = omega (arith, sites.world_front d (controls d r), controls_count d r)

-- the state of a site after the records
abbrev pub site_after : DefinitionData → List Record → ℕ → SiteState
site_after d r s = record { base = base d r s; linked = linked d r s; kept = kept d r s; version = version r s }

-- ---- an installation changes each site once at most
-- two filters are one by both tests
filter_both : (p q : ℕ → Bool) (xs : List ℕ) → filter p (filter q xs) ≡ filter (λ i. q i && p i) xs
filter_both p q [] = refl
filter_both p q (x ∷ xs) = by_test (q x) (p x) refl refl (filter_both p q xs)
  where
    by_test : (b c : Bool) → q x ≡ b → p x ≡ c → filter p (filter q xs) ≡ filter (λ i. q i && p i) xs
        → filter p (cond (q x) (x ∷ filter q xs) (filter q xs)) ≡ cond (q x && p x) (x ∷ filter (λ i. q i && p i) xs) (filter (λ i. q i && p i) xs)
    by_test true true e f rest = rw e (rw f (ap (λ l. x ∷ l) rest))
    by_test true false e f rest = rw e (rw f rest)
    by_test false c e f rest = rw e rest

and_true : {X : Type 0} (b : Bool) (x y : X) → cond (b && true) x y ≡ cond b x y
and_true true x y = refl
and_true false x y = refl

and_false : {X : Type 0} (b : Bool) (x y : X) → cond (b && false) x y ≡ y
and_false true x y = refl
and_false false x y = refl

module _ {X : Type 0} (part : Relinked → X) (make : ℕ → Relinked) (own : (i : ℕ) → (make i).site ≡ i) (p : ℕ → Bool) (s : ℕ) where
  abbrev told : List ℕ → X → X
  told xs other = last_of part s other (map make xs)

  told_first : (b : Bool) (a : ℕ) (xs : List ℕ) (other : X) → told (cond b (a ∷ xs) xs) other ≡ told xs (cond (b && (a == s)) (part (make a)) other)
  told_first true a xs other = ap (λ i. told xs (cond (i == s) (part (make a)) other)) (own a)
  told_first false a xs other = refl

  told_none : (n a : ℕ) (other : X) → s < a → told (filter p (range_with_len a n)) other ≡ other
  told_none zero a other h = refl
  told_none (suc n) a other h =
      let differs : (a == s) ≡ false = grind (arith, nat_tests) in
      let rest = filter p (range_with_len (a + 1) n) in
      told_first (p a) a rest other
      ∙ (ap (λ b. told rest (cond (p a && b) (part (make a)) other)) differs
      ∙ (ap (told rest) (and_false (p a) (part (make a)) other) ∙ told_none n (a + 1) other (omega arith)))

  told_once : (n a : ℕ) (other : X) → a ≤ s → s < a + n → told (filter p (range_with_len a n)) other ≡ cond (p s) (part (make s)) other
  told_once zero a other h k = absurd (omega arith)
  told_once (suc n) a other h k = told_first (p a) a (filter p (range_with_len (a + 1) n)) other ∙ by_test (a == s) refl (λ later. told_once n (a + 1) other later (omega arith))
    where
      by_test : (b : Bool) → (a == s) ≡ b → (a + 1 ≤ s → told (filter p (range_with_len (a + 1) n)) other ≡ cond (p s) (part (make s)) other)
          → told (filter p (range_with_len (a + 1) n)) (cond (p a && (a == s)) (part (make a)) other) ≡ cond (p s) (part (make s)) other
      by_test true e rest =
          let same : a ≡ s = grind (arith, nat_tests) in
          told_none n (a + 1) (cond (p a && (a == s)) (part (make a)) other) (omega arith)
          ∙ (ap (λ b. cond (p a && b) (part (make a)) other) e ∙ (and_true (p a) (part (make a)) other ∙ ap (λ i. cond (p i) (part (make i)) other) same))
      by_test false e rest =
          let later : a + 1 ≤ s = grind (arith, nat_tests) in
          ap (λ b. told (filter p (range_with_len (a + 1) n)) (cond (p a && b) (part (make a)) other)) e
          ∙ (ap (told (filter p (range_with_len (a + 1) n))) (and_false (p a) (part (make a)) other) ∙ rest later)

-- the result of an installation for a site
changed_once : {X : Type 0} (part : Relinked → X) (d : DefinitionData) (r : List Record) (m s : ℕ) (other : X) → s < length d.sites
    → last_of part s other (changes d r m) ≡ cond (is_concerned d r m s && is_current r m s) (part (relinked d r m s)) other
changed_once part d r m s other h =
    ap (λ xs. last_of part s other (map (relinked d r m) xs)) (filter_both (is_current r m) (is_concerned d r m) (numbers (length d.sites)))
    ∙ told_once part (relinked d r m) (λ i. refl) (λ i. is_concerned d r m i && is_current r m i) s (length d.sites) 0 other (omega arith) (omega arith)

not_empty : (x : ℕ) (xs : List ℕ) → nat_lt 0 (length (x ∷ xs)) ≡ true
not_empty x xs = (Decides-ltb 0 (length (x ∷ xs))).1 (omega arith)

-- a site that is not concerned has no links, before and after
unconcerned : (xs ks : List ℕ) (p : ℕ → Bool) (current : Bool)
    → cond ((nat_lt 0 (length xs) || nat_lt 0 (length ks)) && current) (filter p xs) ks ≡ cond current (filter p xs) ks
unconcerned [] [] p true = refl
unconcerned [] [] p false = refl
unconcerned [] (k ∷ ks) p current = ap (λ b. cond (b && current) [] (k ∷ ks)) (not_empty k ks)
unconcerned (x ∷ xs) ks p current = ap (λ b. cond ((b || nat_lt 0 (length ks)) && current) (filter p (x ∷ xs)) ks) (not_empty x xs)

kept_same : (d : DefinitionData) (r : List Record) (s : ℕ) → s < length d.sites → look.kept (controls d r) s ≡ kept d r s
kept_same d [] s h = refl
kept_same d (Flushed w hits ∷ r) s h = kept_same d r s h
kept_same d (Targeted t tree ∷ r) s h = ap (λ (ks : List ℕ). cond (t == s) [] ks) (kept_same d r s h)
kept_same d (Invalidated points ∷ r) s h = kept_same d r s h
kept_same d (Snapped ∷ r) s h = kept_same d r s h
kept_same d (Published n plan ∷ r) s h = kept_same d r s h
kept_same d (Installed m ∷ r) s h =
    changed_once (λ c. c.kept) d r m s (look.kept (controls d r) s) h
    ∙ (ap (λ (ks : List ℕ). cond (is_concerned d r m s && is_current r m s) (usable d r m s) ks) (kept_same d r s h)
    ∙ unconcerned (chosen d r m s) (kept d r s) (is_eligible d r) (is_current r m s))

-- a retargeting leaves no cache
cached_none : (d : DefinitionData) (s : ℕ) (b : Bool) (tree t : TypedTree) (ks : List ℕ) → cond b tree (cached d s t ks) ≡ cached d s (cond b tree t) (cond b [] ks)
cached_none d s true tree t ks = refl
cached_none d s false tree t ks = refl

cached_cond : (d : DefinitionData) (s : ℕ) (b : Bool) (t : TypedTree) (js ks : List ℕ) → cond b (cached d s t js) (cached d s t ks) ≡ cached d s t (cond b js ks)
cached_cond d s true t js ks = refl
cached_cond d s false t js ks = refl

linked_same : (d : DefinitionData) (r : List Record) (s : ℕ) → s < length d.sites → look.linked d (controls d r) s ≡ linked d r s
linked_same d [] s h = refl
linked_same d (Flushed w hits ∷ r) s h = linked_same d r s h
linked_same d (Targeted t tree ∷ r) s h =
    ap (λ (u : TypedTree). cond (t == s) tree u) (linked_same d r s h) ∙ cached_none d s (t == s) tree (base d r s) (kept d r s)
linked_same d (Invalidated points ∷ r) s h = linked_same d r s h
linked_same d (Snapped ∷ r) s h = linked_same d r s h
linked_same d (Published n plan ∷ r) s h = linked_same d r s h
linked_same d (Installed m ∷ r) s h =
    changed_once (λ c. c.linked) d r m s (look.linked d (controls d r) s) h
    ∙ (ap (λ (t : TypedTree). cond (is_concerned d r m s && is_current r m s) (cached d s (base d r s) (usable d r m s)) t) (linked_same d r s h)
    ∙ (cached_cond d s (is_concerned d r m s && is_current r m s) (base d r s) (usable d r m s) (kept d r s)
    ∙ ap (cached d s (base d r s)) (unconcerned (chosen d r m s) (kept d r s) (is_eligible d r) (is_current r m s))))

abbrev state_of : TypedTree → TypedTree → List ℕ → ℕ → SiteState
state_of t l k n = record { base = t; linked = l; kept = k; version = n }

pub read : (d : DefinitionData) (r : List Record) (s : ℕ) → s < length d.sites → state_at (world d r) s ≡ site_after d r s
read d r s h =
    let c = controls d r in
    sites.site_read d c s h
    ∙ (ap (λ (t : TypedTree). state_of t (look.linked d c s) (look.kept c s) (look.version c s)) (base_same d r s)
    ∙ (ap (λ (l : TypedTree). state_of (base d r s) l (look.kept c s) (look.version c s)) (linked_same d r s h)
    ∙ (ap (λ (k : List ℕ). state_of (base d r s) (linked d r s) k (look.version c s)) (kept_same d r s h)
    ∙ ap (state_of (base d r s) (linked d r s) (kept d r s)) (version_same d r s))))

pub valid_is : (d : DefinitionData) (r : List Record) → (world d r).valid ≡ valid_points d r
valid_is d r = sites.valid_is d (controls d r) ∙ same_map (look.is_valid (controls d r)) (is_valid r) (length d.points) (valid_same d r)

-- the trees of all sites, by number
trees_are : (part : SiteState → TypedTree) (told : ℕ → TypedTree) (d : DefinitionData) (r : List Record) → ((s : ℕ) → s < length d.sites → part (state_at (world d r) s) ≡ told s)
    → map part (world d r).sites ≡ map told (numbers (length d.sites))
trees_are part told d r same =
    let sites = (world d r).sites in
    let n = length d.sites in
    let e = part no_state in
    ext_get_or e (map part sites) (map told (numbers n)) (length-map sites part ∙ (world_sites d r ∙ sym (length-map-range_with_len told 0 n)))
    (λ s within.
    let known : s < length sites = omega (arith, length-map sites part) in
    let inside : s < n = omega (arith, world_sites d r) in
    get_or-map part sites s no_state e known ∙ (same s inside ∙ sym (get_or-map-range_with_len told 0 n s s e inside (omega arith))))

pub bases_are : (d : DefinitionData) (r : List Record) → worlds.bases (world d r) ≡ bases d r
bases_are d r = trees_are (λ x. x.base) (base d r) d r (λ s h. ap (λ (x : SiteState). x.base) (read d r s h))

pub linkeds_are : (d : DefinitionData) (r : List Record) → worlds.linkeds (world d r) ≡ linkeds d r
linkeds_are d r = trees_are (λ x. x.linked) (linked d r) d r (λ s h. ap (λ (x : SiteState). x.linked) (read d r s h))

-- ---- a base tree has its site's type, names only declared points, and invokes lower sites with their types
pub record Suits (d : DefinitionData) (s : ℕ) (t : TypedTree) : Type 0 where
  pub signature : t.signature ≡ (site_at d s).method_type
  pub points : point_bound t.tree ≤ length d.points
  pub invokes : MayInvokeFrom d.sites (site_at d s).level t.tree

suits_cond : (d : DefinitionData) (s : ℕ) (b : Bool) (t u : TypedTree) → (b ≡ true → Suits d s t) → Suits d s u → Suits d s (cond b t u)
suits_cond d s true t u h k = h refl
suits_cond d s false t u h k = k

pub base_suits : (d : DefinitionData) (l : LimitsData) (r : List Record) (s : ℕ) → IsDefinition d → s < length d.sites → Legal d l r → Suits d s (base d r s)
base_suits d l [] s is h legal = let lawful = is.sites s no_site h in record { signature = lawful.typed; points = lawful.known; invokes = is.invokes s no_site h }
base_suits d l (Flushed w hits ∷ r) s is h legal = base_suits d l r s is h legal.1
base_suits d l (Targeted t tree ∷ r) s is h legal =
    suits_cond d s (t == s) tree (base d r s)
    (λ e. let same : t ≡ s = grind (arith, nat_tests) in
    record {
      signature = legal.0.1.1.1.0.0 ∙ ap (λ (i : ℕ). (site_at d i).method_type) same;
      points = legal.0.1.1.1.1.0;
      invokes = record {
        types = legal.0.1.1.1.0.1;
        levels = subst (λ (i : ℕ). InvokesLower d.sites (site_at d i).level tree.tree) same legal.0.1.1.1.1.1.0;
      };
    })
    (base_suits d l r s is h legal.1)
base_suits d l (Invalidated points ∷ r) s is h legal = base_suits d l r s is h legal.1
base_suits d l (Snapped ∷ r) s is h legal = base_suits d l r s is h legal.1
base_suits d l (Published n plan ∷ r) s is h legal = base_suits d l r s is h legal.1
base_suits d l (Installed m ∷ r) s is h legal = base_suits d l r s is h legal.1
