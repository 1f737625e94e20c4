-- The tables of a world agree with looking back through the controls.
use Rattle.std.proofs.Common.{◌≡◌, ◌≢◌, ℕ, zero, suc, ◌+◌, ◌<◌, ◌==◌, Bool, true, false, not, ◌&&◌, ◌||◌, cond, List, [], ◌∷◌, length, map, fold, slice_set, slice_index_or, refl, ap, sym, ◌∙◌, arith, replicate}
use Rattle.std.specs.Prelude.{reverse}
use Rattle.std.specs.List.{range_with_len}
use Rattle.std.proofs.lemmas.List.{get_or-map, get_or-set_same, get_or-set_other, length-set, length-map, ext_get_or, reverse-append}
use Rattle.std.proofs.lemmas.List.FromFn.{get_or-map-range_with_len, length-map-range_with_len}
use Rattle.std.proofs.lemmas.Bool.Decides.{nat_tests}
use Rattle.mh_tree.specs.Handle.{TypedTree}
use Rattle.mh_site.specs.declared.control.Control.{Control}
use Rattle.mh_site.specs.declared.control.Control.TheVariants.{Target, Invalidate, Install}
use Rattle.mh_site.specs.Controls.{Relinked}
use Rattle.mh_site.specs.Defined.{DefinitionData, no_site}
use Rattle.mh_site.specs.Worlds.{WorldState, SiteState, opened, opening, replay, after, state_at, no_state, retargeted, relinked, relink_site, clear_point}
use Rattle.mh_site.specs.LookBack.{base, linked, kept, version, member, is_valid, valid_points, last_of, site_after}
use Rattle.mh_site.specs.Laws.Tables.{replay_push}

-- the world after controls that are listed newest first
abbrev pub world : DefinitionData → List Control → WorldState
world d newest = replay (opened d) (reverse newest)

one_more : (d : DefinitionData) (c : Control) (older : List Control) → world d (c ∷ older) ≡ after (world d older) c
one_more d c older = ap (replay (opened d)) (reverse-append (c ∷ []) older) ∙ replay_push (opened d) (reverse older) c

-- ---- sites
relinked_sites : (changes : List Relinked) (sites : List SiteState) → length (fold relink_site sites changes) ≡ length sites
relinked_sites [] sites = refl
relinked_sites (c ∷ changes) sites = relinked_sites changes (relink_site sites c) ∙ length-set sites c.site _

after_sites : (w : WorldState) (c : Control) → length (after w c).sites ≡ length w.sites
after_sites w (Target r) = length-set w.sites r.site _
after_sites w (Invalidate points) = refl
after_sites w (Install changes) = relinked_sites changes w.sites

pub world_sites : (d : DefinitionData) (newest : List Control) → length (world d newest).sites ≡ length d.sites
world_sites d [] = length-map d.sites opening
world_sites d (c ∷ older) = ap (λ w. length w.sites) (one_more d c older) ∙ (after_sites (world d older) c ∙ world_sites d older)

target_read : (w : WorldState) (t s : ℕ) (tree : TypedTree) (b : Bool) → (t == s) ≡ b → s < length w.sites
    → state_at (after w (Target record { site = t; tree = tree })) s ≡ cond b (retargeted tree (state_at w s)) (state_at w s)
target_read w t s tree true e h =
    let same : t ≡ s = grind (arith, nat_tests) in
    rw same (get_or-set_same w.sites s (retargeted tree (state_at w s)) no_state h)
target_read w t s tree false e h =
    let other : s ≢ t = λ q. grind (arith, nat_tests) in
    get_or-set_other w.sites t s (retargeted tree (state_at w t)) no_state other

abbrev state_of : TypedTree → TypedTree → List ℕ → ℕ → SiteState
state_of t l k n = record { base = t; linked = l; kept = k; version = n }

retarget_spread : (b : Bool) (tree t l : TypedTree) (k : List ℕ) (n : ℕ)
    → cond b (retargeted tree (state_of t l k n)) (state_of t l k n) ≡ state_of (cond b tree t) (cond b tree l) (cond b [] k) (cond b (n + 1) n)
retarget_spread true tree t l k n = refl
retarget_spread false tree t l k n = refl

relink_spread : (b : Bool) (new : TypedTree) (links : List ℕ) (t l : TypedTree) (k : List ℕ) (n : ℕ)
    → cond b (relinked new links (state_of t l k n)) (state_of t l k n) ≡ state_of t (cond b new l) (cond b links k) n
relink_spread true new links t l k n = refl
relink_spread false new links t l k n = refl

relink_read : (sites : List SiteState) (c : Relinked) (s : ℕ) (b : Bool) → (c.site == s) ≡ b → s < length sites
    → slice_index_or (relink_site sites c) s no_state ≡ cond b (relinked c.linked c.kept (slice_index_or sites s no_state)) (slice_index_or sites s no_state)
relink_read sites c s true e h =
    let same : s ≡ c.site = grind (arith, nat_tests) in
    rw same (get_or-set_same sites c.site (relinked c.linked c.kept (slice_index_or sites c.site no_state)) no_state (omega arith))
relink_read sites c s false e h =
    let other : s ≢ c.site = λ q. grind (arith, nat_tests) in
    get_or-set_other sites c.site s (relinked c.linked c.kept (slice_index_or sites c.site no_state)) no_state other

-- a site after an installation
relinks_read : (changes : List Relinked) (sites : List SiteState) (s : ℕ) (t l : TypedTree) (k : List ℕ) (n : ℕ) → s < length sites
    → slice_index_or sites s no_state ≡ state_of t l k n
    → slice_index_or (fold relink_site sites changes) s no_state ≡ state_of t (last_of (λ c. c.linked) s l changes) (last_of (λ c. c.kept) s k changes) n
relinks_read [] sites s t l k n h e = e
relinks_read (c ∷ changes) sites s t l k n h e =
    relinks_read changes (relink_site sites c) s t (cond (c.site == s) c.linked l) (cond (c.site == s) c.kept k) n (omega (arith, length-set sites c.site (relinked c.linked c.kept (slice_index_or sites c.site no_state))))
    (relink_read sites c s (c.site == s) refl h
    ∙ (ap (λ x. cond (c.site == s) (relinked c.linked c.kept x) x) e ∙ relink_spread (c.site == s) c.linked c.kept t l k n))

pub site_read : (d : DefinitionData) (newest : List Control) (s : ℕ) → s < length d.sites → state_at (world d newest) s ≡ site_after d newest s
site_read d [] s h = get_or-map opening d.sites s no_site no_state h
site_read d (Target r ∷ older) s h =
    ap (λ w. state_at w s) (one_more d (Target r) older)
    ∙ (target_read (world d older) r.site s r.tree (r.site == s) refl (omega (arith, world_sites d older))
    ∙ (ap (λ x. cond (r.site == s) (retargeted r.tree x) x) (site_read d older s h)
    ∙ retarget_spread (r.site == s) r.tree (base d older s) (linked d older s) (kept older s) (version older s)))
site_read d (Invalidate points ∷ older) s h = ap (λ w. state_at w s) (one_more d (Invalidate points) older) ∙ site_read d older s h
site_read d (Install changes ∷ older) s h =
    ap (λ w. state_at w s) (one_more d (Install changes) older)
    ∙ relinks_read changes (world d older).sites s (base d older s) (linked d older s) (kept older s) (version older s) (omega (arith, world_sites d older)) (site_read d older s h)

-- ---- the front
after_front : (w : WorldState) (c : Control) → (after w c).front ≡ w.front + 1
after_front w (Target r) = refl
after_front w (Invalidate points) = refl
after_front w (Install changes) = refl

pub world_front : (d : DefinitionData) (newest : List Control) → (world d newest).front ≡ length newest
world_front d [] = refl
world_front d (c ∷ older) =
    let more : (world d (c ∷ older)).front ≡ (world d older).front + 1 = ap (λ w. w.front) (one_more d c older) ∙ after_front (world d older) c in
    let rest : (world d older).front ≡ length older = world_front d older in
    omega arith

-- ---- points
abbrev numbers : ℕ → List ℕ
numbers n = range_with_len 0 n

all_true_from : (n a : ℕ) → replicate n true ≡ map (λ i. true) (range_with_len a n)
all_true_from zero a = refl
all_true_from (suc n) a = ap (λ l. true ∷ l) (all_true_from n (a + 1))

cleared : (f : ℕ → Bool) (n p i : ℕ) (b : Bool) → (p == i) ≡ b → i < n → slice_index_or (slice_set (map f (numbers n)) p false) i false ≡ (not b && f i)
cleared f n p i true e h =
    let same : p ≡ i = grind (arith, nat_tests) in
    rw same (get_or-set_same (map f (numbers n)) i false false (omega (arith, length-map-range_with_len f 0 n)))
cleared f n p i false e h =
    let other : i ≢ p = λ q. grind (arith, nat_tests) in
    get_or-set_other (map f (numbers n)) p i false false other ∙ get_or-map-range_with_len f 0 n i i false h (omega arith)

-- one point fewer
clear_one : (f : ℕ → Bool) (n p : ℕ) → clear_point (map f (numbers n)) p ≡ map (λ i. not (p == i) && f i) (numbers n)
clear_one f n p =
    let g : ℕ → Bool = λ i. not (p == i) && f i in
    ext_get_or false (slice_set (map f (numbers n)) p false) (map g (numbers n))
    (length-set (map f (numbers n)) p false ∙ (length-map-range_with_len f 0 n ∙ sym (length-map-range_with_len g 0 n)))
    (λ i h.
    let in' : i < n = omega (arith, length-set (map f (numbers n)) p false, length-map-range_with_len f 0 n) in
    cleared f n p i (p == i) refl in' ∙ sym (get_or-map-range_with_len g 0 n i i false in' (omega arith)))

and_or : (a b c : Bool) → (not b && (not a && c)) ≡ (not (a || b) && c)
and_or true true c = refl
and_or true false c = refl
and_or false true c = refl
and_or false false c = refl

same_map : (f g : ℕ → Bool) (n : ℕ) → ((i : ℕ) → f i ≡ g i) → map f (numbers n) ≡ map g (numbers n)
same_map f g n h =
    ext_get_or false (map f (numbers n)) (map g (numbers n)) (length-map-range_with_len f 0 n ∙ sym (length-map-range_with_len g 0 n))
    (λ i in'.
    let k : i < n = omega (arith, length-map-range_with_len f 0 n) in
    get_or-map-range_with_len f 0 n i i false k (omega arith) ∙ (h i ∙ sym (get_or-map-range_with_len g 0 n i i false k (omega arith))))

clear_all : (f : ℕ → Bool) (n : ℕ) (ps : List ℕ) → fold clear_point (map f (numbers n)) ps ≡ map (λ i. not (member ps i) && f i) (numbers n)
clear_all f n [] = same_map f (λ i. f i) n (λ i. refl)
clear_all f n (p ∷ ps) =
    ap (λ v. fold clear_point v ps) (clear_one f n p)
    ∙ (clear_all (λ i. not (p == i) && f i) n ps ∙ same_map _ _ n (λ i. and_or (p == i) (member ps i) (f i)))

pub valid_is : (d : DefinitionData) (newest : List Control) → (world d newest).valid ≡ valid_points d newest
valid_is d [] = all_true_from (length d.points) 0
valid_is d (Target r ∷ older) = ap (λ w. w.valid) (one_more d (Target r) older) ∙ valid_is d older
valid_is d (Invalidate points ∷ older) =
    ap (λ w. w.valid) (one_more d (Invalidate points) older)
    ∙ (ap (λ v. fold clear_point v points) (valid_is d older) ∙ clear_all (is_valid older) (length d.points) points)
valid_is d (Install changes ∷ older) = ap (λ w. w.valid) (one_more d (Install changes) older) ∙ valid_is d older
