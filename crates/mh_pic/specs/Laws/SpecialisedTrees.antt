-- `specialised` does what its tree does, in at most as many steps, if all needs are valid and the argument at the key position is the key.
use Rattle.std.proofs.Common.{◌≡◌, ℕ, ◌<◌, ◌≤◌, refl, ap, sym, ◌∙◌, List, take, length, arith, Bool, true, false, Option, Some, None, if◌then◌else◌}
use Rattle.mh_type.specs.Laws.{kind_eq_decides}
use Rattle.mh_type.specs.declared.kind.Kind.{Kind}
use Rattle.mh_type.specs.declared.value.Value.{Value}
use Rattle.mh_type.specs.declared.value.Value.TheVariants.{Boolean}
use Rattle.mh_type.specs.declared.outcome.Outcome.TheVariants.{Value as Value'}
use Rattle.mh_type.specs.Kinds.{kind_of, kind_eq}
use Rattle.mh_tree.specs.Arity.{arity}
use Rattle.mh_tree.specs.Meaning.{◌>>=◌, mean, steps, argument, choose, choose_steps}
use Rattle.mh_tree.specs.Tree.{Tree, constant, identity, operation, insert, discard, permute, filter, filter_return, fold, guard, point, invoke}
use Rattle.mh_type.specs.Values.{same_value}
use Rattle.mh_pic.specs.Keys.{key_test, key_in, decided}
use Rattle.mh_pic.specs.Specialised.{AreValid, is_among, stripped, branch, specialised}
use Rattle.mh_pic.specs.Laws.KeyTests.{key_test_mean, key_found}
use Rattle.mh_pic.specs.Laws.ResolvedTrees.{stripped_arity, stripped_mean, stripped_steps, mean_point, steps_point, after_less, choose_less}
use Rattle.mh_tree.specs.Environment.{Environment}

-- a known answer is that of the test
known_answer : (v : Environment) (kinds : List Kind) (key : Value) (a : List Value)
    → length kinds < length a → argument a (length kinds) ≡ key → (c : Tree) (b : Bool) → decided key (key_in kinds c) ≡ Some b
    → mean v c (take (arity c) a) ≡ Value' (Boolean b)
known_answer v kinds key a inside is_key c b h = by_key (key_in kinds c) refl h
  where
    by_kind : (x : Value) (e : Bool) → c ≡ key_test kinds x → kind_eq (kind_of x) (kind_of key) ≡ e → (if e then Some (same_value key x) else None) ≡ Some b
        → mean v c (take (arity c) a) ≡ Value' (Boolean b)
    by_kind x true is_test kinds_same g =
        let same : kind_of (argument a (length kinds)) ≡ kind_of x = ap kind_of is_key ∙ sym ((kind_eq_decides (kind_of x) (kind_of key)).0 kinds_same) in
        let answer : same_value key x ≡ b = cc in
        rw is_test (key_test_mean v kinds x a inside same ∙ (λ i. Value' (Boolean (same_value (is_key i) x))) ∙ ap (λ r. Value' (Boolean r)) answer)
    by_kind x false is_test kinds_same g = cc

    by_key : (o : Option Value) → key_in kinds c ≡ o → decided key o ≡ Some b → mean v c (take (arity c) a) ≡ Value' (Boolean b)
    by_key (Some x) found g = by_kind x (kind_eq (kind_of x) (kind_of key)) (key_found kinds c x found) refl g
    by_key None found g = cc

mean_branch : (v : Environment) (o : Option Bool) (c x y c' x' y' : Tree) (a : List Value)
    → ((b : Bool) → o ≡ Some b → mean v c (take (arity c) a) ≡ Value' (Boolean b))
    → arity c' ≡ arity c → mean v c' (take (arity c) a) ≡ mean v c (take (arity c) a)
    → mean v x' a ≡ mean v x a → mean v y' a ≡ mean v y a
    → mean v (branch o c' x' y') a ≡ mean v (guard c x y) a
mean_branch v (Some true) c x y c' x' y' a answer same hc hx hy = rw (answer true refl) hx
mean_branch v (Some false) c x y c' x' y' a answer same hc hx hy = rw (answer false refl) hy
mean_branch v None c x y c' x' y' a answer same hc hx hy = rw same (λ i. hc i >>= (λ b. choose b (hx i) (hy i)))

steps_branch : (v : Environment) (o : Option Bool) (c x y c' x' y' : Tree) (a : List Value)
    → ((b : Bool) → o ≡ Some b → mean v c (take (arity c) a) ≡ Value' (Boolean b))
    → arity c' ≡ arity c → mean v c' (take (arity c) a) ≡ mean v c (take (arity c) a)
    → steps v c' (take (arity c) a) ≤ steps v c (take (arity c) a)
    → steps v x' a ≤ steps v x a → steps v y' a ≤ steps v y a
    → steps v (branch o c' x' y') a ≤ steps v (guard c x y) a
steps_branch v (Some true) c x y c' x' y' a answer same hc before hx hy = rw (answer true refl) (omega (arith, hx))
steps_branch v (Some false) c x y c' x' y' a answer same hc before hx hy = rw (answer false refl) (omega (arith, hy))
steps_branch v None c x y c' x' y' a answer same hc before hx hy =
    let rest = after_less _ _ (λ b. choose_steps b (steps v x' a) (steps v y' a)) (λ b. choose_steps b (steps v x a) (steps v y a)) hc (λ b. choose_less b _ _ _ _ hx hy) in
    rw same (omega (arith, before, rest))

module _ (needs : List ℕ) (kinds : List Kind) (key : Value) (v : Environment) (valid : AreValid v needs) (a : List Value)
    (inside : length kinds < length a) (is_key : argument a (length kinds) ≡ key) where
  pub specialised_mean : (t : Tree) → mean v (specialised needs kinds key t) a ≡ mean v t a
  specialised_mean (guard c x y) =
      mean_branch v (decided key (key_in kinds c)) c x y (stripped needs c) _ _ a (known_answer v kinds key a inside is_key c)
      (stripped_arity needs c) (stripped_mean needs v valid c (take (arity c) a)) (specialised_mean x) (specialised_mean y)
  specialised_mean (point p x y) = mean_point v v (is_among needs p) true p x y _ _ a (valid p) (λ e. refl) (specialised_mean x) (specialised_mean y)
  specialised_mean (constant x) = stripped_mean needs v valid (constant x) a
  specialised_mean (identity k) = stripped_mean needs v valid (identity k) a
  specialised_mean (operation o) = stripped_mean needs v valid (operation o) a
  specialised_mean (insert t p xs) = stripped_mean needs v valid (insert t p xs) a
  specialised_mean (discard t p ks) = stripped_mean needs v valid (discard t p ks) a
  specialised_mean (permute t n r) = stripped_mean needs v valid (permute t n r) a
  specialised_mean (filter t p fs) = stripped_mean needs v valid (filter t p fs) a
  specialised_mean (filter_return t f) = stripped_mean needs v valid (filter_return t f) a
  specialised_mean (fold t c) = stripped_mean needs v valid (fold t c) a
  specialised_mean (invoke s n) = stripped_mean needs v valid (invoke s n) a

  pub specialised_steps : (t : Tree) → steps v (specialised needs kinds key t) a ≤ steps v t a
  specialised_steps (guard c x y) =
      steps_branch v (decided key (key_in kinds c)) c x y (stripped needs c) _ _ a (known_answer v kinds key a inside is_key c)
      (stripped_arity needs c) (stripped_mean needs v valid c (take (arity c) a)) (stripped_steps needs v valid c (take (arity c) a)) (specialised_steps x) (specialised_steps y)
  specialised_steps (point p x y) = steps_point v v (is_among needs p) true p x y _ _ a (valid p) (λ e. refl) (specialised_steps x) (specialised_steps y)
  specialised_steps (constant x) = stripped_steps needs v valid (constant x) a
  specialised_steps (identity k) = stripped_steps needs v valid (identity k) a
  specialised_steps (operation o) = stripped_steps needs v valid (operation o) a
  specialised_steps (insert t p xs) = stripped_steps needs v valid (insert t p xs) a
  specialised_steps (discard t p ks) = stripped_steps needs v valid (discard t p ks) a
  specialised_steps (permute t n r) = stripped_steps needs v valid (permute t n r) a
  specialised_steps (filter t p fs) = stripped_steps needs v valid (filter t p fs) a
  specialised_steps (filter_return t f) = stripped_steps needs v valid (filter_return t f) a
  specialised_steps (fold t c) = stripped_steps needs v valid (fold t c) a
  specialised_steps (invoke s n) = stripped_steps needs v valid (invoke s n) a
