-- A chain has the type of its base and does what it does, whichever points are valid.
use Rattle.std.proofs.Common.{◌≡◌, ℕ, zero, suc, ◌<◌, ◌≤◌, refl, ap, sym, ◌∙◌, List, [], ◌∷◌, ◌++◌, map, take, length, arith, Bool, true, false, ◌||◌, length-append, length-take, if◌then◌else◌}
use Rattle.std.specs.Prelude.{◌==◌, slice_index_or}
use Rattle.std.proofs.lemmas.Bool.Decides.{Decides-eqb}
use Rattle.std.proofs.lemmas.List.{length-map}
use Rattle.mh_type.specs.declared.kind.Kind.{Kind}
use Rattle.mh_type.specs.declared.kind.Kind.TheVariants as kind
use Rattle.mh_type.specs.declared.value.Value.{Value}
use Rattle.mh_type.specs.declared.value.Value.TheVariants.{Int, Long, Boolean, Text}
use Rattle.mh_type.specs.Fits.{Fits}
use Rattle.mh_type.specs.Kinds.{kind_of}
use Rattle.mh_type.specs.Signature.{Signature}
use Rattle.mh_tree.specs.Meaning.{mean, argument, is_valid}
use Rattle.mh_tree.specs.Tree.{Tree}
use Rattle.mh_tree.specs.Typing.{IsTyped, BeginsWith, kind_at}
use Rattle.mh_type.specs.Laws.{values_decide}
use Rattle.mh_type.specs.Values.{same_value}
use Rattle.mh_pic.specs.Keys.{first_test, key_test}
use Rattle.mh_pic.specs.Specialised.{AreValid, is_among, specialised}
use Rattle.mh_pic.specs.Chains.{PlainEntry, points, chain, IsFaithful, HaveKind}
use Rattle.mh_pic.specs.Laws.KeyTests.{key_test_mean}
use Rattle.mh_pic.specs.Laws.Kept.{specialised_typed}
use Rattle.mh_pic.specs.Laws.SpecialisedTrees.{specialised_mean}
use Rattle.mh_tree.specs.Environment.{Environment}

-- one more valid need
one_more : (v : Environment) (p : ℕ) (rest : List ℕ) → is_valid v p ≡ true → AreValid v rest → AreValid v (p ∷ rest)
one_more v p rest here valid q h = by_test (p == q) refl h
  where
    by_test : (b : Bool) → (p == q) ≡ b → (b || is_among rest q) ≡ true → is_valid v q ≡ true
    by_test true e g = rw (sym ((Decides-eqb p q).0 e)) here
    by_test false e g = valid q g

none_needed : (v : Environment) → AreValid v []
none_needed v p h = cc

-- if one need is not valid, the base runs
pub points_mean : (v : Environment) (ps : List ℕ) (x base : Tree) (a : List Value)
    → (AreValid v ps → mean v x a ≡ mean v base a) → mean v (points ps x base) a ≡ mean v base a
points_mean v [] x base a h = h (none_needed v)
points_mean v (p ∷ rest) x base a h =
    by_test (is_valid v p) refl (λ (e : is_valid v p ≡ true). points_mean v rest x base a (λ valid. h (one_more v p rest e valid)))
  where
    by_test : (b : Bool) → is_valid v p ≡ b → (is_valid v p ≡ true → mean v (points rest x base) a ≡ mean v base a)
        → (if b then mean v (points rest x base) a else mean v base a) ≡ mean v base a
    by_test true e inner = inner e
    by_test false e inner = refl

points_typed : (ps : List ℕ) (x base : Tree) (m : Signature) → IsTyped x m → IsTyped base m → IsTyped (points ps x base) m
points_typed [] x base m hx hb = hx
points_typed (p ∷ rest) x base m hx hb = (points_typed rest x base m hx hb, hb)

-- the kind of an argument that fits
kind_of_argument : (a : List Value) (q : ℕ) → q < length a → kind_of (argument a q) ≡ kind_at (map kind_of a) q
kind_of_argument [] q h = absurd (omega arith)
kind_of_argument (x ∷ rest) zero h = refl
kind_of_argument (x ∷ rest) (suc q) h = kind_of_argument rest q (omega arith)

-- an existing parameter is the kind at its position
pub kind_there : (ks : List Kind) (q : ℕ) (k : Kind) → q < length ks → k ≡ slice_index_or ks q k → k ≡ kind_at ks q
kind_there [] q k below is = absurd (omega arith)
kind_there (j ∷ ks) zero k below is = is
kind_there (j ∷ ks) (suc q) k below is = kind_there ks q k (omega arith) is

-- the kinds up to a position
first_kinds : (ks : List Kind) (q : ℕ) → q < length ks → take q ks ++ (kind_at ks q ∷ []) ≡ take (suc q) ks
first_kinds [] q h = absurd (omega arith)
first_kinds (k ∷ ks) zero h = refl
first_kinds (k ∷ ks) (suc q) h = ap (λ js. k ∷ js) (first_kinds ks q (omega arith))

-- the type of a key test
first_typed : (key : Value) → IsTyped (first_test key) (record { ret = kind.Boolean; parameters = kind_of key ∷ [] })
first_typed (Int n) = (record { ret = kind.Boolean; parameters = kind.Int ∷ kind.Int ∷ [] }, refl, record { inside = omega arith; kinds = refl; made = refl })
first_typed (Long n) = (record { ret = kind.Boolean; parameters = kind.Long ∷ kind.Long ∷ [] }, refl, record { inside = omega arith; kinds = refl; made = refl })
first_typed (Boolean b) = (record { ret = kind.Boolean; parameters = kind.Boolean ∷ kind.Boolean ∷ [] }, refl, record { inside = omega arith; kinds = refl; made = refl })
first_typed (Text t) = (record { ret = kind.Boolean; parameters = kind.Text ∷ kind.Text ∷ [] }, refl, record { inside = omega arith; kinds = refl; made = refl })

pub key_test_typed : (kinds : List Kind) (key : Value) → length kinds < 16
    → IsTyped (key_test kinds key) (record { ret = kind.Boolean; parameters = kinds ++ (kind_of key ∷ []) })
key_test_typed [] key few = first_typed key
key_test_typed (k ∷ kinds) key few =
    (record { ret = kind.Boolean; parameters = kind_of key ∷ [] }, first_typed key, record { inside = omega arith; few = omega arith; made = refl })

module _ (m : Signature) (q : ℕ) (inside : q < length m.parameters) (few : length m.parameters ≤ 16) (base : Tree) (typed : IsTyped base m) where
  abbrev pub before : List Kind
  before = take q m.parameters

  place : length before ≡ q
  place = omega (arith, length-take q m.parameters)

  pub begins : (key : Value) → kind_of key ≡ kind_at m.parameters q → BeginsWith m.parameters (before ++ (kind_of key ∷ []))
  begins key same =
      let whole : before ++ (kind_of key ∷ []) ≡ take (suc q) m.parameters = (λ i. before ++ (same i ∷ [])) ∙ first_kinds m.parameters q inside in
      let count : length (before ++ (kind_of key ∷ [])) ≡ suc q = omega (arith, place, length-append before (kind_of key ∷ [])) in
      rw count whole

  pub chain_typed : (entries : List PlainEntry) → HaveKind (kind_at m.parameters q) entries → IsTyped (chain before base entries) m
  chain_typed [] kinds = typed
  chain_typed (e ∷ rest) kinds =
      let here : kind_of e.key ≡ kind_at m.parameters q = kinds 0 e (omega arith) in (
        before ++ (kind_of e.key ∷ []),
        key_test_typed before e.key (omega (arith, place)),
        begins e.key here,
        points_typed e.needs _ base m (specialised_typed e.needs before e.key base m typed) typed,
        chain_typed rest (λ k d below. kinds (suc k) d (omega arith)),
      )

  module _ (v : Environment) (a : List Value) (fits : Fits m a) where
    many : length a ≡ length m.parameters
    many = sym (length-map a kind_of) ∙ ap (λ (ks : List Kind). length ks) fits

    kind_here : kind_of (argument a (length before)) ≡ kind_at m.parameters q
    kind_here = rw place (kind_of_argument a q (omega (arith, many)) ∙ ap (λ ks. kind_at ks q) fits)

    pub chain_mean : (entries : List PlainEntry) → HaveKind (kind_at m.parameters q) entries → mean v (chain before base entries) a ≡ mean v base a
    chain_mean [] kinds = refl
    chain_mean (e ∷ rest) kinds =
        let here : kind_of e.key ≡ kind_at m.parameters q = kinds 0 e (omega arith) in
        rw (key_test_mean v before e.key a within (kind_here ∙ sym here))
        (by_answer (same_value (argument a (length before)) e.key) refl (chain_mean rest (λ k d below. kinds (suc k) d (omega arith))))
      where
        within : length before < length a
        within = omega (arith, place, many)

        by_answer : (r : Bool) → same_value (argument a (length before)) e.key ≡ r → mean v (chain before base rest) a ≡ mean v base a
            → (if r then mean v (points e.needs (specialised e.needs before e.key base) base) a else mean v (chain before base rest) a) ≡ mean v base a
        by_answer true same others =
            points_mean v e.needs (specialised e.needs before e.key base) base a
            (λ valid. specialised_mean e.needs before e.key v valid a within ((values_decide (argument a (length before)) e.key).0 same) base)
        by_answer false same others = others

  -- a chain is faithful to its base
  pub chain_faithful : (entries : List PlainEntry) → HaveKind (kind_at m.parameters q) entries → IsFaithful (chain before base entries) base m
  chain_faithful entries kinds = record { typed = chain_typed entries kinds; same = λ v a fits. chain_mean v a fits entries kinds }
