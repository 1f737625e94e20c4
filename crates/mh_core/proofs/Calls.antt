-- What a call reads in the world of a definition, and of a book.
use Rattle.std.proofs.Common.{◌≡◌, ℕ, ◌<◌, ◌≤◌, List, length, ap, subst, sym, ◌∙◌, arith, Bool}
use Rattle.std.proofs.lemmas.List.FromFn.{length-map-range_with_len}
use Rattle.mh_type.specs.declared.value.Value.{Value}
use Rattle.mh_type.specs.declared.outcome.Outcome.{Outcome}
use Rattle.mh_type.specs.Fits.{Fits}
use Rattle.mh_type.specs.Signature.{Signature}
use Rattle.mh_eval.specs.Entered.{EntersPlain}
use Rattle.mh_tree.specs.Environment.{Environment}
use Rattle.mh_tree.specs.Handle.{TypedTree}
use Rattle.mh_tree.specs.Limits.{point_bound}
use Rattle.mh_tree.specs.Meaning.{mean, steps}
use Rattle.mh_tree.specs.Sites.{HavePoints, IsLawful, sites, with_sites}
use Rattle.mh_site.specs.Defined.{DefinitionData}
use Rattle.mh_site.specs.Worlds.{AreTyped, WorldState, state_at}
use Rattle.mh_site.specs.Worlds as worlds
use Rattle.mh_core.specs.declared.reply.Reply.TheVariants.{Called}
use Rattle.mh_core.specs.Books.{BookState, IsBook}
use Rattle.mh_core.specs.Callers.{IsCallable}
use Rattle.mh_core.specs.Installations.{environment_of_links, linked, linked_sites, linkeds}
use Rattle.mh_core.specs.Legal.{answer_of_call}
use Rattle.mh_core.specs.Records.{base, environment_of_bases, is_valid, valid_points}
use Rattle.mh_core.specs.Standing.{AreStanding, IsWorldOf}
use Rattle.mh_core.specs.Laws.{levels_of, links_known, links_lawful, links_mean, stands}
use Rattle.mh_core.specs.Laws.Worlds.{bases_are, linkeds_are, read, valid_is, world_sites}

module _ (d : DefinitionData) (w : WorldState) (is : IsWorldOf d w) (s : ℕ) (a : List Value) (may : IsCallable d s a) where
  pub inside : s < length w.sites
  inside = omega (arith, may.inside, is.sites)

  pub linked_fits : Fits (state_at w s).linked.signature a
  linked_fits = subst (λ (m : Signature). Fits m a) (sym (is.standing s may.inside).linked_type) may.fits

  pub known : point_bound (state_at w s).linked.tree ≤ length w.valid
  known = omega (arith, (is.standing s may.inside).linked_points, is.points)

  module _ (typed : AreTyped w.sites) where
    pub known_all : HavePoints (length w.valid) (worlds.linkeds w)
    known_all = links_known d w is.standing typed is.sites is.points

    pub lawful : IsLawful (levels_of d) (worlds.linkeds w) (state_at w s).linked.tree
    lawful = links_lawful d w is.standing typed is.sites s may.inside

    -- a call of the linked tree over the linked trees means what the base tree means
    pub means : mean (worlds.environment_of_links w) (state_at w s).linked.tree a ≡ mean (worlds.environment_of_bases w) (state_at w s).base.tree a
    means = links_mean d w is.standing typed is.sites s a may.inside may.fits

module _ (b : BookState) (is : IsBook b) where
  points_there : b.world.valid ≡ valid_points b.definition b.records
  points_there = ap (λ (w : WorldState). w.valid) is.world ∙ valid_is b.definition b.records

  -- the world of a book is one of its definition
  pub world_of : IsWorldOf b.definition b.world
  world_of = record {
    sites = ap (λ (w : WorldState). length w.sites) is.world ∙ world_sites b.definition b.records;
    points = ap length points_there ∙ length-map-range_with_len (is_valid b.records) 0 (length b.definition.points);
    standing = subst (AreStanding b.definition) (sym is.world) (λ s h. stands b.definition b.limits b.records s is.definition is.legal h);
  }

  links_there : worlds.linkeds b.world ≡ linkeds b.definition b.records
  links_there = ap worlds.linkeds is.world ∙ linkeds_are b.definition b.records

  links_same : worlds.linked_sites b.world ≡ linked_sites b.definition b.records
  links_same = ap (λ (v : List Bool). sites v (worlds.linkeds b.world)) points_there ∙ ap (sites (valid_points b.definition b.records)) links_there

  environment_same : worlds.environment_of_links b.world ≡ environment_of_links b.definition b.records
  environment_same = ap (λ (v : List Bool). with_sites v (worlds.linkeds b.world)) points_there ∙ ap (with_sites (valid_points b.definition b.records)) links_there

  bases_same : worlds.environment_of_bases b.world ≡ environment_of_bases b.definition b.records
  bases_same =
      ap (λ (v : List Bool). with_sites v (worlds.bases b.world)) points_there
      ∙ ap (with_sites (valid_points b.definition b.records)) (ap worlds.bases is.world ∙ bases_are b.definition b.records)

  module _ (s : ℕ) (h : s < length b.definition.sites) where
    base_there : (state_at b.world s).base ≡ base b.definition b.records s
    base_there = ap (λ (w : WorldState). (state_at w s).base) is.world ∙ ap (λ x. x.base) (read b.definition b.records s h)

    linked_there : (state_at b.world s).linked ≡ linked b.definition b.records s
    linked_there = ap (λ (w : WorldState). (state_at w s).linked) is.world ∙ ap (λ x. x.linked) (read b.definition b.records s h)

    -- what the world gives is the answer
    pub answered : (a : List Value) (o : Outcome) (n : ℕ) → o ≡ mean (worlds.environment_of_bases b.world) (state_at b.world s).base.tree a
        → n ≡ steps (worlds.environment_of_links b.world) (state_at b.world s).linked.tree a → Called o n ≡ answer_of_call b.definition b.records s a
    answered a o n g k =
        let d = b.definition in
        let r = b.records in
        let outcome : o ≡ mean (environment_of_bases d r) (base d r s).tree a =
        g ∙ (ap (λ (e : Environment). mean e (state_at b.world s).base.tree a) bases_same ∙ ap (λ (t : TypedTree). mean (environment_of_bases d r) t.tree a) base_there) in
        let entered : n ≡ steps (environment_of_links d r) (linked d r s).tree a =
        k ∙ (ap (λ (e : Environment). steps e (state_at b.world s).linked.tree a) environment_same ∙ ap (λ (t : TypedTree). steps (environment_of_links d r) t.tree a) linked_there) in
        ap (λ (x : Outcome). Called x n) outcome ∙ ap (Called (mean (environment_of_bases d r) (base d r s).tree a)) entered

    -- a call that takes no memory by the records takes none by the world
    pub plain : (a : List Value) → EntersPlain (linked_sites b.definition b.records) (linked b.definition b.records s).tree a
        → EntersPlain (worlds.linked_sites b.world) (state_at b.world s).linked.tree a
    plain a h =
        let there = subst (λ (t : TypedTree). EntersPlain (linked_sites b.definition b.records) t.tree a) (sym linked_there) h in
        subst (λ x. EntersPlain x (state_at b.world s).linked.tree a) (sym links_same) there
