use Rattle.std.proofs.Common.{sym, subst}
use Rattle.std.specs.Prelude.{pos}
use Rattle.mh_type.specs.declared.kind.Kind.TheVariants as kind
use Rattle.mh_type.specs.declared.operation.Op.TheVariants as op
use Rattle.mh_words.specs.Operations.{result}
use Rattle.mh_words.specs.inner.Lowered.{Computes}
use Rattle.mh_words.specs.declared.operation.WordOperation.TheVariants as word
use Rattle.mh_words.proofs.Computes.{computes_one}
use Rattle.mh_words.proofs.Forms.{int_negated, narrowed}
use Rattle.mh_words.proofs.sources.one.Goals as goal

pub returns-in_ok-source-in-Ineg : goal.returns-in_ok-source-in-Ineg
returns-in_ok-source-in-Ineg c =
    record {
      value = λ k. subst (λ o. Computes o c.args.first k (record { kind = kind.Int; source = c.in_ok-source-in-Ineg.source })) (sym c.in-Ineg.is)
          (computes_one op.Ineg kind.Int kind.Int c.args.first c.in_ok-source-in-Ineg.source (result word.IntSubtract (pos 0)) c.in_ok-demand-in-Ineg.ensures.same c.in_ok-source-in-Ineg.ensures.value (λ w z h. int_negated w h.1) k);
    }

pub returns-in_ok-source-in-L2i : goal.returns-in_ok-source-in-L2i
returns-in_ok-source-in-L2i c =
    record {
      value = λ k. subst (λ o. Computes o c.args.first k (record { kind = kind.Int; source = c.in_ok-source-in-L2i.source })) (sym c.in-L2i.is)
          (computes_one op.L2i kind.Long kind.Int c.args.first c.in_ok-source-in-L2i.source (λ w. result word.LongToInt w w) c.in_ok-demand-in-L2i.ensures.same c.in_ok-source-in-L2i.ensures.value (λ w z h. narrowed w) k);
    }
