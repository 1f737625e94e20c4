use Rattle.std.proofs.Common.{◌∙◌, ℕ, List, ap, inl, nat_abs, refl, subst, sym, take, w64}
use Rattle.std.specs.Str.{IsUtf8}
use Rattle.std.proofs.lemmas.Int.{to_z-of_z}
use Rattle.mhlink_c.proofs.Ascii.{text_is_utf8}
use Rattle.mhlink_c.proofs.value.text.Goals as goal

pub returns-in_default-clause-refused : goal.returns-in_default-clause-refused
returns-in_default-clause-refused c =
    inl (
      refl,
      λ t long begins is.
          let count = ap nat_abs (to_z-of_z w64 c.args.count c.ranges.count ∙ long) in
          c.in_default.ensures.cases.0
          (subst (λ (n : ℕ). IsUtf8 (take n c.args.texts.now)) (sym count) (subst (λ (bytes : List ℕ). IsUtf8 bytes) (sym begins) (text_is_utf8 t is))),
    )
