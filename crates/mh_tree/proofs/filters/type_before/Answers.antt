use Rattle.std.specs.Prelude.{slice_set}
use Rattle.std.specs.List.{All}
use Rattle.std.proofs.lemmas.List.{take_all}
use Rattle.std.proofs.lemmas.List.Elements.{All-more}
use Rattle.std.proofs.Math.ListN.{length-set}
use Rattle.std.proofs.Common.{◌≡◌, ◌+◌, ◌++◌, ◌∙◌, ◌<◌, ap, sym, subst, arith, length, take, drop, None, Some}
use Rattle.mh_type.specs.declared.kind.Kind.{Kind}
use Rattle.mh_type.specs.Signature.{Signature}
use Rattle.mh_tree.specs.Constructors.{taken_kinds}
use Rattle.mh_tree.specs.Laws.Types.{first_kind}
use Rattle.mh_tree.proofs.FilterKinds.{SoundFilter, found_at, unary_at, taken_some, taken_none}
use Rattle.mh_tree.proofs.filters.type_before.Goals.{in-Some, in_default}
use Rattle.mh_tree.proofs.filters.type_before.Goals as goal

pub loop-index-preserved : goal.loop-index-preserved
loop-index-preserved c =
    let fs = c.args.filters.now in
    let ks = c.loop-index.made.parameters in
    let q = c.args.position + c.loop-index.index in
    let r = c.args.position + (c.loop-index.index + 1) in
    let rest = drop (c.loop-index.index + 1) fs in
    let inside : q < length ks = omega (arith, c.loop-index.invariant.count, c.requires.inside) in
    elim c.match-filter.branch [
      | in-Some w ↦
          let here = rw w.in-Some.is at c.index-filters-index.is in
          let left = found_at fs c.loop-index.index (Some w.in-Some.filter) (omega arith) here in
          let unary = unary_at fs c.loop-index.index w.in-Some.filter c.requires.unary (omega arith) here in
          let kind = first_kind w.in-Some.filter.signature.parameters w.parameter-kind.result unary (rw w.method_type.ensures.value at w.parameter-kind.ensures.value) in
          let made : c.match-filter.made ≡ record { ret = c.loop-index.made.ret; parameters = slice_set ks q w.parameter-kind.result } =
          w.made-is ∙ w.with_parameter-made.ensures.value in
          record {
            ret = ap (λ (s : Signature). s.ret) made ∙ c.loop-index.invariant.ret;
            same = (λ j. take r (made j).parameters ++ taken_kinds rest (drop r (made j).parameters))
                ∙ (λ j. take r (slice_set ks q (kind j)) ++ taken_kinds rest (drop r (slice_set ks q (kind j))))
                ∙ taken_some w.in-Some.filter rest q r ks (omega arith) inside
                ∙ (λ j. take q ks ++ taken_kinds (sym left j) (drop q ks))
                ∙ c.loop-index.invariant.same;
            sound = All-more SoundFilter fs c.loop-index.index (Some w.in-Some.filter) (omega arith) c.loop-index.invariant.sound (subst SoundFilter here w.method_type.ensures.sound);
            count = omega (arith, ap (λ (s : Signature). length s.parameters) made, length-set {A = Kind}, c.loop-index.invariant.count);
          }
      | in_default w ↦
          let here = rw w.in_default.is at c.index-filters-index.is in
          let left = found_at fs c.loop-index.index None (omega arith) here in
          let made : c.match-filter.made ≡ c.loop-index.made = w.made-is in
          record {
            ret = ap (λ (s : Signature). s.ret) made ∙ c.loop-index.invariant.ret;
            same = (λ j. take r (made j).parameters ++ taken_kinds rest (drop r (made j).parameters))
                ∙ taken_none rest q r ks (omega arith) inside
                ∙ (λ j. take q ks ++ taken_kinds (sym left j) (drop q ks))
                ∙ c.loop-index.invariant.same;
            sound = All-more SoundFilter fs c.loop-index.index None (omega arith) c.loop-index.invariant.sound (subst SoundFilter here tt);
            count = omega (arith, ap (λ (s : Signature). length s.parameters) made, c.loop-index.invariant.count);
          }
    ]

pub returns-clause-sound : goal.returns-clause-sound
returns-clause-sound c =
    subst (All SoundFilter) (take_all c.loop-index.index c.args.filters.now (omega arith)) c.loop-index.invariant.sound
