use Rattle.std.proofs.Common.{◌≡◌, ◌<◌, ◌+◌, ℕ, List, [], ◌∷◌, ◌++◌, length, map, slice_index_or, ap, sym, ◌∙◌, arith}
use Rattle.std.proofs.lemmas.List.{get_or_default}
use Rattle.std.proofs.lemmas.List.FromFn.{map-range_with_len_more}
use Rattle.std.specs.List.{range_with_len}
use Rattle.mh_tree.specs.Handle.{TypedTree}
use Rattle.mh_site.specs.declared.site.Site.{Site}
use Rattle.mh_site.specs.Defined.{no_site, no_tree}
use Rattle.mh_site.specs.Targets.{target_at, with_target}
use Rattle.mh_site.proofs.targets.with_targets.Goals as goal

more : (f : ℕ → Site) (n : ℕ) (old new : List Site) (x : Site) → old ≡ map f (range_with_len 0 n) → x ≡ f n → new ≡ old ++ x ∷ [] → new ≡ map f (range_with_len 0 (n + 1))
more f n old new x before made pushed =
    pushed ∙ (ap (λ (l : List Site). l ++ x ∷ []) before ∙ (ap (λ (y : Site). map f (range_with_len 0 n) ++ y ∷ []) made ∙ sym (map-range_with_len_more f 0 n n (omega arith))))

-- what is read at a number that is there
built : (sites : List Site) (targets : List TypedTree) (s : ℕ) (x : Site) (t : TypedTree) → s < length sites → s < length targets → x ≡ slice_index_or sites s x → t ≡ slice_index_or targets s t
    → with_target x t ≡ with_target (slice_index_or sites s no_site) (target_at targets s)
built sites targets s x t inside known read got =
    ap (λ (y : Site). with_target y t) (read ∙ get_or_default sites s x no_site inside) ∙ ap (with_target (slice_index_or sites s no_site)) (got ∙ get_or_default targets s t no_tree known)

pub loop-site-preserved : goal.loop-site-preserved
loop-site-preserved c =
    let s = c.loop-site.site in
    let inside : s < length c.args.sites.now = omega arith in
    more (λ i. with_target (slice_index_or c.args.sites.now i no_site) (target_at c.args.targets.now i)) s _ _ _ c.loop-site.invariant
    (c.in_ok-with_target.ensures.value ∙ built c.args.sites.now c.args.targets.now s c.index-sites-site.result c.index-targets-site.result inside (omega (arith, inside, c.requires.count)) c.index-sites-site.is c.index-targets-site.is)
    c.in_ok-push.ensures.items
