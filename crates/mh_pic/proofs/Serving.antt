-- A specialised tree is sound where its tree is, and serves for it.
use Rattle.std.proofs.Common.{◌≡◌, ℕ, ◌<◌, ◌∙◌, ap, arith, List, take, length, length-take}
use Rattle.std.proofs.lemmas.List.{length-map}
use Rattle.mh_type.specs.declared.kind.Kind.{Kind}
use Rattle.mh_type.specs.declared.value.Value.{Value}
use Rattle.mh_type.specs.Fits.{Fits}
use Rattle.mh_type.specs.Kinds.{kind_of}
use Rattle.mh_type.specs.Signature.{Signature}
use Rattle.mh_tree.specs.Handle.{IsSound}
use Rattle.mh_tree.specs.Meaning.{argument}
use Rattle.mh_tree.specs.Tree.{Tree}
use Rattle.mh_tree.specs.Typing.{IsTyped}
use Rattle.mh_pic.specs.Specialised.{Serves, specialised}
use Rattle.mh_pic.specs.Laws.Bounds.{specialised_depth, specialised_size}
use Rattle.mh_pic.specs.Laws.Kept.{specialised_typed, specialised_names}
use Rattle.mh_pic.specs.Laws.SpecialisedTrees.{specialised_mean, specialised_steps}

pub specialised_sound : (needs : List ℕ) (kinds : List Kind) (key : Value) (t : Tree) (m : Signature) → IsSound t m → IsSound (specialised needs kinds key t) m
specialised_sound needs kinds key t m sound = record {
  typed = specialised_typed needs kinds key t m sound.typed;
  shallow = omega (arith, specialised_depth needs kinds key t, sound.shallow);
  small = omega (arith, specialised_size needs kinds key t, sound.small);
}

module _ (needs : List ℕ) (q : ℕ) (key : Value) (t : Tree) (m : Signature) (inside : q < length m.parameters) where
  abbrev before : List Kind
  before = take q m.parameters

  place : length before ≡ q
  place = omega (arith, length-take q m.parameters, inside)

  within : (a : List Value) → Fits m a → length before < length a
  within a fits = omega (arith, place, inside, length-map a kind_of, ap (λ (ks : List Kind). length ks) fits)

  here : (a : List Value) → argument a q ≡ key → argument a (length before) ≡ key
  here a is = ap (argument a) place ∙ is

  pub specialised_serves : IsTyped t m → Serves needs q key (specialised needs before key t) t m
  specialised_serves typed = record {
    typed = specialised_typed needs before key t m typed;
    unnamed = specialised_names needs before key t;
    same = λ v valid a fits is. specialised_mean needs before key v valid a (within a fits) (here a is) t;
    quick = λ v valid a fits is. specialised_steps needs before key v valid a (within a fits) (here a is) t;
  }
