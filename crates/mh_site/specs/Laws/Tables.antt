-- Tables of sites.
use Rattle.std.proofs.Common.{Bool, ◌≡◌, ℕ, zero, suc, ◌+◌, ◌<◌, ◌≤◌, List, [], ◌∷◌, ◌++◌, length, map, take, drop, slice_set, slice_index_or, fold, refl, ap, sym, subst, ◌∙◌, arith, inl, inr, ◌⊎◌}
use Rattle.std.specs.List.{All, zip}
use Rattle.std.proofs.lemmas.Slice.Zip.{get_or-zip, length-zip, seconds-zip}
use Rattle.std.proofs.lemmas.List.{map-append, map-set, get_or-map, get_or_past, length-map, set_past, take_more}
use Rattle.std.proofs.lemmas.Simd.{map-map}
use Rattle.std.proofs.lemmas.List.Elements.{All-push, All-set}
use Rattle.std.proofs.lemmas.List.Sums.{fold_push}
use Rattle.mh_site.specs.declared.control.Control.{Control}
use Rattle.mh_site.specs.declared.control.Control.TheVariants.{Target, Invalidate, Install}
use Rattle.mh_site.specs.Controls.{Relinked}
use Rattle.mh_site.specs.declared.site.Site.{Site}
use Rattle.mh_site.specs.declared.world.SiteWorld.{SiteWorld}
use Rattle.mh_tree.specs.Handle.{TypedTree}
use Rattle.mh_tree.specs.Typing.{IsTyped}
use Rattle.mh_site.specs.Worlds.{plain_site, site_state, site_states, AreTyped, opening, SiteState, WorldState, no_state, retargeted, relinked, relink_site, after, replay, IsWorld, state_at}
use Rattle.mh_site.specs.Defined.{no_site, no_tree}

-- whether a number is below another
below : (m n : ℕ) → (m < n) ⊎ (n ≤ m)
below zero zero = inr (omega arith)
below zero (suc n) = inl (omega arith)
below (suc m) zero = inr (omega arith)
below (suc m) (suc n) = elim (below m n) [ inl h ↦ inl (omega arith) | inr h ↦ inr (omega arith) ]

-- what holds of all elements and of the default holds at each index
All-at : {X : Type 0} (P : X → Type 0) (xs : List X) (i : ℕ) (d : X) → P d → All P xs → P (slice_index_or xs i d)
All-at P xs i d at_default all = elim (below i (length xs)) [
  | inl h ↦ all i d h
  | inr h ↦ subst P (sym (get_or_past xs i d h)) at_default
]

module _ (front : ℕ) where
  abbrev pub Early : SiteState → Type 0
  Early x = x.version ≤ front

later : (front : ℕ) (xs : List SiteState) → All (Early front) xs → All (Early (front + 1)) xs
later front xs all k d h = let e : (slice_index_or xs k d).version ≤ front = all k d h in omega arith

-- the trees of an installation or a retargeting are typed
abbrev pub IsTypedTree : TypedTree → Type 0
IsTypedTree t = IsTyped t.tree t.signature

abbrev pub BringsTyped : Control → Type 0
BringsTyped (Target r) = IsTypedTree r.tree
BringsTyped (Invalidate points) = Unit {0}
BringsTyped (Install changes) = All (λ (c : Relinked). IsTypedTree c.linked) changes

abbrev Typed : SiteState → Type 0
Typed x = IsTypedTree x.base × IsTypedTree x.linked

none_typed : Typed no_state
none_typed = (refl, refl)

relink_keeps : (front : ℕ) (sites : List SiteState) (c : Relinked) → All (Early front) sites → All (Early front) (relink_site sites c)
relink_keeps front sites c all =
    let e : (slice_index_or sites c.site no_state).version ≤ front = All-at (Early front) sites c.site no_state (omega arith) all in
    All-set (Early front) sites c.site (relinked c.linked c.kept (slice_index_or sites c.site no_state)) e all

relinks_keep : (front : ℕ) (changes : List Relinked) (sites : List SiteState) → All (Early front) sites → All (Early front) (fold relink_site sites changes)
relinks_keep front [] sites all = all
relinks_keep front (c ∷ changes) sites all = relinks_keep front changes (relink_site sites c) (relink_keeps front sites c all)

relink_typed : (sites : List SiteState) (c : Relinked) → IsTypedTree c.linked → AreTyped sites → AreTyped (relink_site sites c)
relink_typed sites c new all =
    let old : Typed (slice_index_or sites c.site no_state) = All-at Typed sites c.site no_state none_typed all in
    All-set Typed sites c.site (relinked c.linked c.kept (slice_index_or sites c.site no_state)) (old.0, new) all

relinks_typed : (changes : List Relinked) (sites : List SiteState) → All (λ (c : Relinked). IsTypedTree c.linked) changes → AreTyped sites → AreTyped (fold relink_site sites changes)
relinks_typed [] sites new all = all
relinks_typed (c ∷ changes) sites new all = relinks_typed changes (relink_site sites c) (λ k e h. new (suc k) e (omega arith)) (relink_typed sites c (new 0 c (omega arith)) all)

pub after_keeps : (w : WorldState) (c : Control) → BringsTyped c → IsWorld w → IsWorld (after w c)
after_keeps w (Target r) new is =
    let e : (state_at w r.site).version ≤ w.front = All-at (Early w.front) w.sites r.site no_state (omega arith) is.early in
    record {
      early = All-set (Early (w.front + 1)) w.sites r.site (retargeted r.tree (state_at w r.site)) (omega arith) (later w.front w.sites is.early);
      typed = All-set Typed w.sites r.site (retargeted r.tree (state_at w r.site)) (new, new) is.typed;
    }
after_keeps w (Invalidate points) new is = record { early = later w.front w.sites is.early; typed = is.typed }
after_keeps w (Install changes) new is = record {
  early = later w.front (fold relink_site w.sites changes) (relinks_keep w.front changes w.sites is.early);
  typed = relinks_typed changes w.sites new is.typed;
}

-- ---- two tables as one
zip_set : {A B : Type 0} (xs : List A) (ts : List B) (i : ℕ) (x : A) (t : B) → zip (slice_set xs i x) (slice_set ts i t) ≡ slice_set (zip xs ts) i (x, t)
zip_set [] ts i x t = refl
zip_set (y ∷ xs) [] i x t = zip_none (slice_set (y ∷ xs) i x)
  where
    zip_none : {A B : Type 0} (xs : List A) → zip {X = B} xs [] ≡ []
    zip_none [] = refl
    zip_none (x ∷ xs) = refl
zip_set (y ∷ xs) (u ∷ ts) zero x t = refl
zip_set (y ∷ xs) (u ∷ ts) (suc i) x t = ap (λ r. (y, u) ∷ r) (zip_set xs ts i x t)

module _ (xs : List SiteWorld) (ts : List TypedTree) (many : length ts ≡ length xs) where
  pub states_long : length (site_states xs ts) ≡ length xs
  states_long = omega (arith, length-map (zip xs ts) site_state, length-zip xs ts)

  -- the state of a site
  pub states_read : (i : ℕ) (d : SiteWorld) (t : TypedTree) (e : SiteState) → i < length xs → slice_index_or (site_states xs ts) i e ≡ site_state (slice_index_or xs i d, slice_index_or ts i t)
  states_read i d t e h =
      get_or-map site_state (zip xs ts) i (d, t) e (omega (arith, length-zip xs ts)) ∙ ap site_state (get_or-zip xs ts i (d, t) h (omega arith))

  -- a written site is the written state
  pub written : (i : ℕ) (new d : SiteWorld) (t u : TypedTree) (f : SiteState → SiteState) → i < length xs → site_state (new, t) ≡ f (site_state (slice_index_or xs i d, slice_index_or ts i u))
      → site_states (slice_set xs i new) (slice_set ts i t) ≡ slice_set (site_states xs ts) i (f (slice_index_or (site_states xs ts) i no_state))
  written i new d t u f h e =
      ap (map site_state) (zip_set xs ts i new t)
      ∙ (map-set site_state (zip xs ts) i (new, t) ∙ ap (slice_set (site_states xs ts) i) (e ∙ ap f (sym (states_read i d u no_state h))))

  -- a write past the last changes nothing
  pub unwritten : (i : ℕ) (s : SiteState) → length xs ≤ i → site_states xs ts ≡ slice_set (site_states xs ts) i s
  unwritten i s h = sym (set_past (site_states xs ts) i s (omega (arith, states_long)))

  pub room_of : (front limit : ℕ) → All (Early front) (site_states xs ts) → front + 1 < limit → All (λ x. x.version + 1 < limit) xs
  room_of front limit all h k d in' =
      let t = slice_index_or ts k no_tree in
      let e : (slice_index_or (site_states xs ts) k no_state).version ≤ front = all k no_state (omega (arith, states_long)) in
      let same : (slice_index_or (site_states xs ts) k no_state).version ≡ (slice_index_or xs k d).version = ap (λ x. x.version) (states_read k d no_tree no_state in') in
      omega arith

  -- the linked trees, in order
  pub linkeds_are : map (λ x. x.linked) (site_states xs ts) ≡ ts
  linkeds_are = map-map _ _ (zip xs ts) ∙ seconds-zip xs ts many

  -- a site of a world that keeps these tables
  module _ (valid : List Bool) (front : ℕ) (w : WorldState) (view : record { valid = valid; sites = site_states xs ts; front = front } ≡ w) (s : ℕ) (inside : s < length w.sites) where
    pub inside_is : s < length xs
    inside_is = omega (arith, states_long, ap (λ (v : WorldState). length v.sites) view)

    pub linked_is : (t : TypedTree) → slice_index_or ts s t ≡ (state_at w s).linked
    linked_is t =
        ap (λ us. slice_index_or us s t) (sym linkeds_are)
        ∙ (get_or-map (λ x. x.linked) (site_states xs ts) s no_state t (omega (arith, states_long, inside_is)) ∙ ap (λ (v : WorldState). (state_at v s).linked) view)

    pub state_is : (d : SiteWorld) (t : TypedTree) → site_state (slice_index_or xs s d, slice_index_or ts s t) ≡ state_at w s
    state_is d t = sym (states_read s d t no_state inside_is) ∙ ap (λ (v : WorldState). state_at v s) view

pub opening_keeps : (xs : List Site) → All (Early 0) (map opening xs)
opening_keeps xs k d h =
    let e : (slice_index_or (map opening xs) k d).version ≡ 0 = ap (λ x. x.version) (get_or-map opening xs k no_site d (omega (arith, length-map xs opening))) in
    omega arith

-- one site more
pub states_push : (xs : List SiteWorld) (ts : List TypedTree) (x : SiteWorld) (t : TypedTree) → length ts ≡ length xs → site_states (xs ++ x ∷ []) (ts ++ t ∷ []) ≡ site_states xs ts ++ site_state (x, t) ∷ []
states_push xs ts x t many = ap (map site_state) (zip_push xs ts many) ∙ map-append site_state (zip xs ts) ((x, t) ∷ [])
  where
    zip_push : (xs : List SiteWorld) (ts : List TypedTree) → length ts ≡ length xs → zip (xs ++ x ∷ []) (ts ++ t ∷ []) ≡ zip xs ts ++ (x, t) ∷ []
    zip_push [] [] many = refl
    zip_push [] (u ∷ ts) many = absurd (omega arith)
    zip_push (y ∷ xs) [] many = absurd (omega arith)
    zip_push (y ∷ xs) (u ∷ ts) many = ap (λ r. (y, u) ∷ r) (zip_push xs ts (omega arith))

-- the parts of sites other than their linked trees decide their states
states_alike : (xs ys : List SiteWorld) (ts : List TypedTree) → map plain_site xs ≡ map plain_site ys → site_states xs ts ≡ site_states ys ts
states_alike [] [] ts same = refl
states_alike [] (y ∷ ys) ts same = absurd (omega (arith, ap length same))
states_alike (x ∷ xs) [] ts same = absurd (omega (arith, ap length same))
states_alike (x ∷ xs) (y ∷ ys) [] same = refl
states_alike (x ∷ xs) (y ∷ ys) (t ∷ ts) same =
    let one = ap (λ l. slice_index_or l 0 (plain_site x)) same in
    let head : site_state (x, t) ≡ site_state (y, t) = ap (λ p. record { base = p.0; linked = t; kept = p.1.0; version = p.1.1 }) one in
    ap (λ s. s ∷ site_states xs ts) head ∙ ap (λ l. site_state (y, t) ∷ l) (states_alike xs ys ts (ap (drop 1) same))

abbrev world_with : List Bool → List SiteState → ℕ → WorldState
world_with valid sites front = record { valid = valid; sites = sites; front = front }

pub shared_world : (u v : List Bool) (xs ys : List SiteWorld) (ts us : List TypedTree) (f : ℕ) → u ≡ v → map plain_site xs ≡ map plain_site ys → ts ≡ us
    → world_with u (site_states xs ts) f ≡ world_with v (site_states ys us) f
shared_world u v xs ys ts us f points sites trees =
    ap (λ l. world_with l (site_states xs ts) f) points ∙ ap (λ l. world_with v l f) (states_alike xs ys ts sites ∙ ap (site_states ys) trees)

-- the opening of one site more
pub opening_typed : (xs : List Site) (i : ℕ) (s : Site) → i < length xs → s ≡ slice_index_or xs i s → AreTyped (map opening (take i xs)) → IsTypedTree s.target → AreTyped (map opening (take (i + 1) xs))
opening_typed xs i s lt is all here =
    subst AreTyped (sym (ap (map opening) (take_more xs i s lt ∙ ap (λ y. take i xs ++ y ∷ []) (sym is)) ∙ map-append opening (take i xs) (s ∷ [])))
    (All-push (λ (x : SiteState). IsTypedTree x.base × IsTypedTree x.linked) (map opening (take i xs)) (opening s) all (here, here))

pub replay_push : (w : WorldState) (cs : List Control) (c : Control) → replay w (cs ++ c ∷ []) ≡ after (replay w cs) c
replay_push w cs c = fold_push after w cs c
