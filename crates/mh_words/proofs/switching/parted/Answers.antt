use Rattle.std.proofs.Common.{◌≡◌, true, false, List, [], ◌∷◌, ◌++◌, ap, ◌∙◌, arith, rules}
use Rattle.std.specs.Prelude.{int_lt}
use Rattle.std.specs.Int.{cast_signed, cast_unsigned, w64}
use Rattle.std.proofs.lemmas.Int.{ints, to_z-of_z}
use Rattle.mh_words.specs.declared.keyed.Keyed.{Keyed}
use Rattle.mh_words.proofs.Entries.{kept_below, kept_from, passed_below, passed_from}
use Rattle.mh_words.proofs.switching.parted.Goals as goal

pub loop-one-preserved-in-Continue-1 : goal.loop-one-preserved-in-Continue-1
loop-one-preserved-in-Continue-1 c =
    let one : Keyed = c.in-Some.one in
    let pivot = cast_signed w64 (cast_unsigned w64 c.args.pivot) in
    let is : pivot ≡ c.args.pivot = to_z-of_z w64 c.args.pivot c.ranges.pivot in
    let less : int_lt one.key c.args.pivot ≡ true = grind (arith, ints, c.if-one-pivot.true) in
    let test : int_lt one.key pivot ≡ true = ap (λ n. int_lt one.key n) is ∙ less in
    let items : c.push.new.self.items ≡ c.loop-one.below.items ++ one ∷ [] = search rules in (
      items ∙ ap (λ (xs : List Keyed). xs ++ one ∷ []) c.loop-one.invariant.0 ∙ kept_below pivot c.loop-one.yielded one test,
      c.loop-one.invariant.1 ∙ passed_from pivot c.loop-one.yielded one test,
    )

pub loop-one-preserved : goal.loop-one-preserved
loop-one-preserved c =
    let one : Keyed = c.in-Some.one in
    let pivot = cast_signed w64 (cast_unsigned w64 c.args.pivot) in
    let is : pivot ≡ c.args.pivot = to_z-of_z w64 c.args.pivot c.ranges.pivot in
    let less : int_lt one.key c.args.pivot ≡ false = grind (arith, ints, c.if-one-pivot.false) in
    let test : int_lt one.key pivot ≡ false = ap (λ n. int_lt one.key n) is ∙ less in
    let items : c.push-else-one-pivot.new.self.items ≡ c.loop-one.above.items ++ one ∷ [] = search rules in (
      c.loop-one.invariant.0 ∙ passed_below pivot c.loop-one.yielded one test,
      items ∙ ap (λ (xs : List Keyed). xs ++ one ∷ []) c.loop-one.invariant.1 ∙ kept_from pivot c.loop-one.yielded one test,
    )
