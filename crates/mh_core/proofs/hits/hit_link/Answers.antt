use Rattle.std.proofs.Common.{◌≡◌, ◌+◌, ap, sym, ◌∙◌, arith, ℕ, Some, None}
use Rattle.std.specs.List.{position}
use Rattle.mh_site.specs.declared.link.Link.{Link}
use Rattle.mh_type.specs.Values.{same_value}
use Rattle.mh_core.specs.Hits.{hits}
use Rattle.mh_core.proofs.HitLinks.{hit_has_key, key_inside, found_is_hit, none_is_hit, one_hit}
use Rattle.mh_core.proofs.hits.hit_link.Goals as goal

pub returns-in_err-key-clause-none : goal.returns-in_err-key-clause-none
returns-in_err-key-clause-none c =
    let none = λ (i : ℕ). hit_has_key c.args.definition.now c.args.site c.args.arguments.now i c.link_count-count.ensures.lawful c.requires.inside (sym c.in_err-key.ensures.value) in
    rw c.from_residual.ensures none

pub argument-requires : goal.argument-requires
argument-requires c = record { inside = key_inside c.args.definition.now c.args.site c.in_ok-key.key c.args.arguments.now c.link_count-count.ensures.lawful c.requires.inside (sym c.in_ok-key.ensures.value) c.requires.fits }

pub returns-in_err-place-clause-none : goal.returns-in_err-place-clause-none
returns-in_err-place-clause-none c =
    let p : None ≡ position (λ (l : Link). same_value l.when c.argument.result.now) c.links.result.now = c.in_err-place.ensures.value in
    let q : position (λ (l : Link). same_value l.when c.argument.result.now) _ ≡ None = sym (p ∙ ap (position (λ (l : Link). same_value l.when c.argument.result.now)) c.links.ensures.value) in
    let none = λ (i : ℕ). none_is_hit c.args.definition.now c.args.site c.in_ok-key.key c.args.arguments.now c.requires.inside (sym c.in_ok-key.ensures.value) c.argument.result.now i c.argument.ensures.value q in
    rw c.from_residual-in_err-place.ensures none

pub returns-clause-hit : goal.returns-clause-hit
returns-clause-hit c =
    let p : Some c.in_ok-place.place ≡ position (λ (l : Link). same_value l.when c.argument.result.now) c.links.result.now = c.in_ok-place.ensures.value in
    let q : position (λ (l : Link). same_value l.when c.argument.result.now) _ ≡ Some c.in_ok-place.place = sym (p ∙ ap (position (λ (l : Link). same_value l.when c.argument.result.now)) c.links.ensures.value) in
    let is = found_is_hit c.args.definition.now c.args.site c.in_ok-key.key c.args.arguments.now c.requires.inside (sym c.in_ok-key.ensures.value) c.argument.result.now c.in_ok-place.place c.argument.ensures.value q in
    (omega (arith, is.0, c.first_link.ensures.within), ap (λ j. hits c.args.definition.now c.args.site c.args.arguments.now (j + c.in_ok-place.place)) c.first_link.ensures.value ∙ is.1)

pub overflow_add-result : goal.overflow_add-result
overflow_add-result c = omega (arith, (returns-clause-hit c).0, c.link_count-count.ensures.count)

pub returns-clause-alone : goal.returns-clause-alone
returns-clause-alone c i hit = one_hit c.args.definition.now c.args.site c.args.arguments.now i _ c.link_count-count.ensures.lawful c.requires.inside hit (returns-clause-hit c).1
