-- In version 1 no link that was read has a charge.
use Rattle.std.proofs.Common.{◌≡◌, refl, sym, subst, ap, ℕ, ◌+◌, ◌-◌, ◌^◌, List, [], ◌∷◌, Option, Some, None, Result, Ok, Err, arith}
use Rattle.std.specs.List.{All}
use Rattle.std.proofs.lemmas.List.Elements.{All-cons, All-push}
use Rattle.serde_json.specs.Data.{Data}
use Rattle.serde_json.specs.Find.{get}
use Rattle.mh_type.specs.declared.kind.Kind.{Kind}
use Rattle.mh_site.specs.declared.link.Link.{Link}
use Rattle.mh_site.specs.declared.site.Site.{Site}
use Rattle.mh_site.specs.declared.version.Version.{Version}
use Rattle.mh_site.specs.declared.version.Version.TheVariants.{One, Two}
use Rattle.mh_site.specs.Rules.{HasNoCharges}
use Rattle.mh_json.specs.declared.key.Field.TheVariants as field
use Rattle.mh_json.specs.declared.key.Key.{Key}
use Rattle.mh_json.specs.declared.key.Key.TheVariants.{Item}
use Rattle.mh_json.specs.Keys.{field_name}
use Rattle.mh_json.specs.Misreads.{MisreadData, under}
use Rattle.mh_json.specs.declared.json.scope.Scope.{Scope}
use Rattle.mh_json.specs.declared.json.sites.Sited.{Sited}
use Rattle.mh_json.specs.Gives.{◌>>=◌}
use Rattle.mh_json.specs.Script.{all_sites_of, key_kind, link_of, linked_of, links_of, named_points_of, none_sited, one_sited, place_or_none, site_of, sites_in, sites_of}
use Rattle.mh_json.specs.Shape.{count_of, items_from, list_of, member_of, member_or, part_of, part_or, text_of}
use Rattle.mh_json.specs.Trees.{declared_of}
use Rattle.mh_json.specs.Values.{type_of, value_for}

-- what was read before, where something was read in the end
pub record Read {A B : Type 0} (r : Result A MisreadData) (f : A → Result B MisreadData) (y : B) : Type 0 where
  pub value : A
  pub is : r ≡ Ok value
  pub rest : f value ≡ Ok y

read_before : {A B : Type 0} (r : Result A MisreadData) (f : A → Result B MisreadData) (y : B) → (r >>= f) ≡ Ok y → Read r f y
read_before (Ok x) f y h = record { value = x; is = refl; rest = h }
read_before (Err e) f y h = cc

-- what is read at a key is what is read there
pub read_there : {A : Type 0} (key : Key) (r : Result A MisreadData) (x : A) → under key r ≡ Ok x → r ≡ Ok x
read_there key (Ok y) x h = h
read_there key (Err m) x h = cc

abbrev read_as : {A : Type 0} → A → Result A MisreadData
read_as x = Ok x

same_ok : {A : Type 0} (x y : A) → read_as x ≡ read_as y → x ≡ y
same_ok x y h = cc

-- what holds of each item that is read holds of all
each_all : {A : Type 0} (P : A → Type 0) (read : Data → Result A MisreadData) → ((d : Data) (x : A) → read d ≡ Ok x → P x)
    → (n : ℕ) (ds : List Data) (xs : List A) → items_from (λ _ d. read d) n ds ≡ Ok xs → All P xs
each_all P read holds n [] xs h = subst (λ ys. All P ys) (same_ok [] xs h) (λ k d l. absurd (omega arith))
each_all P read holds n (d ∷ ds) xs h =
    let first = read_before (under (Item n) (read d)) _ xs h in
    let more = read_before (items_from (λ _ d. read d) (n + 1) ds) _ xs first.rest in
    subst (λ ys. All P ys) (same_ok _ xs more.rest)
    (All-cons P first.value more.value (holds d first.value (read_there (Item n) _ _ first.is)) (each_all P read holds (n + 1) ds more.value more.is))

abbrev IsFree : Link → Type 0
IsFree l = l.charge ≡ 0

link_free : (points : List (List ℕ)) (kind : Option Kind) (d : Data) (l : Link) → link_of One points kind d ≡ Ok l → IsFree l
link_free points kind d l h =
    let when = read_before (member_of field.When (value_for kind) d) _ l h in
    let weight = read_before (member_of field.Weight (count_of (2 ^ 63 - 1)) d) _ l when.rest in
    let needs = read_before (member_of field.Needs (named_points_of points) d) _ l weight.rest in
    sym (ap (λ (x : Link). x.charge) (same_ok _ l needs.rest))

links_free : (points : List (List ℕ)) (kind : Option Kind) (at : Option Data) (ls : List Link) → part_or [] field.Links (links_of One points kind) at ≡ Ok ls → All IsFree ls
links_free points kind None ls h = subst (λ ys. All IsFree ys) (same_ok [] ls h) (λ k d l. absurd (omega arith))
links_free points kind (Some d) ls h =
    let list = read_before (list_of d) _ ls (read_there _ (links_of One points kind d) ls h) in
    each_all IsFree (link_of One points kind) (link_free points kind) 0 list.value ls list.rest

site_free : (scope : Scope) (d : Data) (s : Site) → site_of One scope d ≡ Ok s → All IsFree s.links
unfolding linked_of
site_free scope d s h =
    let name = read_before (member_of field.Name text_of d) _ s h in
    let method_type = read_before (member_of field.Type type_of d) _ s name.rest in
    let level = read_before (member_or 0 field.Level (count_of (2 ^ 63 - 1)) d) _ s method_type.rest in
    let key = read_before (member_or None field.Key place_or_none d) _ s level.rest in
    let target = read_before (member_of field.Target (declared_of scope) d) _ s key.rest in
    let links = read_before (linked_of One scope.points (key_kind method_type.value key.value) d) _ s target.rest in
    subst (λ ys. All IsFree ys) (ap (λ (x : Site). x.links) (same_ok _ s links.rest)) (links_free scope.points (key_kind method_type.value key.value) (get (field_name field.Links) d) links.value links.is)

abbrev AreFree : List Site → Type 0
AreFree sites = All (λ (s : Site). All IsFree s.links) sites

sites_free : (sited : Sited) (n : ℕ) (ds : List Data) (all : Sited) → AreFree sited.sites → all_sites_of One sited n ds ≡ Ok all → AreFree all.sites
sites_free sited n [] all free h = subst (λ (x : Sited). AreFree x.sites) (same_ok sited all h) free
sites_free sited n (d ∷ ds) all free h =
    let first = read_before (under (Item n) (site_of One sited.scope d)) _ all h in
    sites_free (one_sited sited first.value) (n + 1) ds all
    (All-push (λ (s : Site). All IsFree s.links) sited.sites first.value free (site_free sited.scope d first.value (read_there (Item n) _ _ first.is))) first.rest

pub no_charges : (version : Version) (scope : Scope) (d : Data) (sited : Sited) → sites_in version scope d ≡ Ok sited → HasNoCharges version sited.sites
no_charges One scope d sited h =
    let sites = read_before (part_of field.Sites d) _ sited h in
    let list = read_before (list_of sites.value) _ sited (read_there _ (sites_of One scope sites.value) sited sites.rest) in
    λ _. sites_free (none_sited scope) 0 list.value sited (λ k e l. absurd (omega arith)) list.rest
no_charges Two scope d sited h = λ same. cc
