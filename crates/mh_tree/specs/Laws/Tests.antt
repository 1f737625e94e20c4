-- The result of a constructor, by the test that decides it.
use Rattle.std.proofs.Common.{◌≡◌, ℕ, ◌+◌, ◌≤◌, ◌<◌, [], ◌∷◌, true, false, Bool, cond, ap, sym, ◌∙◌, Option, Some, List, length, take, drop, map, Result, Ok, Err}
use Rattle.std.specs.Prelude.{nat_eq, nat_lt, nat_le, IfOk, MatchResult}
use Rattle.std.specs.List.{list_all}
use Rattle.std.specs.Bool.{Decides}
use Rattle.std.proofs.lemmas.Bool.{le-leb, lt-leb, eq-eqb}
use Rattle.mh_base.specs.Laws as laws
use Rattle.mh_base.specs.Listed.{made_unless}
use Rattle.mh_type.specs.declared.kind.Kind.{Kind}
use Rattle.mh_type.specs.Kinds.{kind_of, kind_eq, kinds_eq}
use Rattle.mh_type.specs.Signature.{Signature, signature_eq}
use Rattle.mh_type.specs.Laws.{kind_eq_decides, kinds_eq_decides, signature_eq_decides}
use Rattle.mh_type.specs.declared.kind.Kind.TheVariants as kind
use Rattle.mh_type.specs.declared.value.Value.{Value}
use Rattle.mh_tree.specs.Constructors.{within_limits, inserted, insert_made, dropped, drop_made, permuted, permute_made, is_unary, return_kinds, arguments_filtered, filter_made, return_filtered, filter_return_made, folded, fold_made, guarded, guard_made, pointed, point_made}
use Rattle.mh_tree.specs.Handle.{TypedTree}
use Rattle.mh_tree.specs.Tree.{Tree}
use Rattle.mh_tree.specs.Typing.{kind_at}
use Rattle.mh_tree.specs.Limits.{depth, size}
use Rattle.mh_tree.specs.declared.fault.TreeFault.{TreeFault}
use Rattle.mh_tree.specs.declared.fault.TreeFault.TheVariants.{TypeMismatch, TooManyParameters, TooDeep, TooLarge}

-- a test that does not hold is false
not_true : {P : Type 0} (b : Bool) → Decides b P → (P → ⊥) → b ≡ false
not_true true decides never = absurd (never (decides.0 (λ i. true)))
not_true false decides never = λ i. false

module _ (fault : TreeFault) (h : TypedTree) (later : Option TreeFault) where
  pub passes : (b : Bool) → b ≡ true → made_unless h (cond b later (Some fault)) ≡ made_unless h later
  passes b holds = laws.passes h fault later b holds

  pub fails : (b : Bool) → b ≡ false → made_unless h (cond b later (Some fault)) ≡ Err fault
  fails b wrong = laws.fails h fault later b wrong

  pub at_most : (m n : ℕ) → m ≤ n → made_unless h (cond (nat_le m n) later (Some fault)) ≡ made_unless h later
  at_most m n is = passes _ (le-leb m n is)

  pub above : (m n : ℕ) → n < m → made_unless h (cond (nat_le m n) later (Some fault)) ≡ Err fault
  above m n is = fails _ (lt-leb m n is)

  pub same_number : (m n : ℕ) → m ≡ n → made_unless h (cond (nat_eq m n) later (Some fault)) ≡ made_unless h later
  same_number m n is = passes _ (eq-eqb m n is)

  pub same_kind : (k j : Kind) → k ≡ j → made_unless h (cond (kind_eq k j) later (Some fault)) ≡ made_unless h later
  same_kind k j is = passes _ ((kind_eq_decides k j).1 is)

  pub other_kind : (k j : Kind) → (k ≡ j → ⊥) → made_unless h (cond (kind_eq k j) later (Some fault)) ≡ Err fault
  other_kind k j is = fails _ (not_true _ (kind_eq_decides k j) is)

  pub same_kinds : (ks js : List Kind) → ks ≡ js → made_unless h (cond (kinds_eq ks js) later (Some fault)) ≡ made_unless h later
  same_kinds ks js is = passes _ ((kinds_eq_decides ks js).1 is)

  pub other_kinds : (ks js : List Kind) → (ks ≡ js → ⊥) → made_unless h (cond (kinds_eq ks js) later (Some fault)) ≡ Err fault
  other_kinds ks js is = fails _ (not_true _ (kinds_eq_decides ks js) is)

  pub same_type : (m n : Signature) → m ≡ n → made_unless h (cond (signature_eq m n) later (Some fault)) ≡ made_unless h later
  same_type m n is = passes _ ((signature_eq_decides m n).1 is)

  pub other_type : (m n : Signature) → (m ≡ n → ⊥) → made_unless h (cond (signature_eq m n) later (Some fault)) ≡ Err fault
  other_type m n is = fails _ (not_true _ (signature_eq_decides m n) is)

-- the limits of a tree
pub limits_pass : (h : TypedTree) → length h.signature.parameters ≤ 16 → depth h.tree ≤ 96 → size h.tree ≤ 262144 → within_limits h ≡ Ok h
limits_pass h few shallow small = at_most _ _ _ _ _ few ∙ at_most _ _ _ _ _ shallow ∙ at_most _ _ _ _ _ small

pub too_many : (h : TypedTree) → 16 < length h.signature.parameters → within_limits h ≡ Err TooManyParameters
too_many h many = above _ _ _ _ _ many

pub too_deep : (h : TypedTree) → length h.signature.parameters ≤ 16 → 96 < depth h.tree → within_limits h ≡ Err TooDeep
too_deep h few deep = at_most _ _ _ _ _ few ∙ above _ _ _ _ _ deep

pub too_large : (h : TypedTree) → length h.signature.parameters ≤ 16 → depth h.tree ≤ 96 → 262144 < size h.tree → within_limits h ≡ Err TooLarge
too_large h few shallow large = at_most _ _ _ _ _ few ∙ at_most _ _ _ _ _ shallow ∙ above _ _ _ _ _ large

-- each constructor, if its own tests pass
pub insert_passes : (h : TypedTree) (p : ℕ) (xs : List Value)
    → p + length xs ≤ length h.signature.parameters → map kind_of xs ≡ take (length xs) (drop p h.signature.parameters)
    → insert_made h p xs ≡ within_limits (inserted h p xs)
insert_passes h p xs inside kinds = at_most _ _ _ _ _ inside ∙ same_kinds _ _ _ _ _ kinds

pub insert_misfits : (h : TypedTree) (p : ℕ) (xs : List Value)
    → p + length xs ≤ length h.signature.parameters → (map kind_of xs ≡ take (length xs) (drop p h.signature.parameters) → ⊥)
    → insert_made h p xs ≡ Err TypeMismatch
insert_misfits h p xs inside kinds = at_most _ _ _ _ _ inside ∙ other_kinds _ _ _ _ _ kinds

pub drop_passes : (h : TypedTree) (p : ℕ) (ks : List Kind)
    → p ≤ length h.signature.parameters → drop_made h p ks ≡ within_limits (dropped h p ks)
drop_passes h p ks inside = at_most _ _ _ _ _ inside

pub permute_passes : (h : TypedTree) (m : Signature) (r : List ℕ)
    → length r ≡ length h.signature.parameters → list_all (λ i. nat_lt i (length m.parameters)) r ≡ true
    → h.signature.ret ≡ m.ret → h.signature.parameters ≡ map (λ i. kind_at m.parameters i) r
    → permute_made h m r ≡ within_limits (permuted h m r)
permute_passes h m r whole inside returns fits =
    same_number _ _ _ _ _ whole ∙ passes _ _ _ _ inside ∙ same_kind _ _ _ _ _ returns ∙ same_kinds _ _ _ _ _ fits

pub permute_misfits : (h : TypedTree) (m : Signature) (r : List ℕ)
    → length r ≡ length h.signature.parameters → list_all (λ i. nat_lt i (length m.parameters)) r ≡ true
    → h.signature.ret ≡ m.ret → (h.signature.parameters ≡ map (λ i. kind_at m.parameters i) r → ⊥)
    → permute_made h m r ≡ Err TypeMismatch
permute_misfits h m r whole inside returns fits =
    same_number _ _ _ _ _ whole ∙ passes _ _ _ _ inside ∙ same_kind _ _ _ _ _ returns ∙ other_kinds _ _ _ _ _ fits

pub filter_passes : (h : TypedTree) (p : ℕ) (fs : List (Option TypedTree))
    → p + length fs ≤ length h.signature.parameters → list_all is_unary fs ≡ true
    → return_kinds fs (drop p h.signature.parameters) ≡ true
    → filter_made h p fs ≡ within_limits (arguments_filtered h p fs)
filter_passes h p fs inside unary returns = at_most _ _ _ _ _ inside ∙ passes _ _ _ _ unary ∙ passes _ _ _ _ returns

pub filter_return_passes : (h f : TypedTree)
    → length f.signature.parameters ≡ 1 → f.signature.parameters ≡ h.signature.ret ∷ []
    → filter_return_made h f ≡ within_limits (return_filtered h f)
filter_return_passes h f unary fits = same_number _ _ _ _ _ unary ∙ same_kinds _ _ _ _ _ fits

pub fold_passes : (h c : TypedTree)
    → c.signature.ret ∷ [] ≡ take 1 h.signature.parameters
    → c.signature.parameters ≡ take (length c.signature.parameters) (drop 1 h.signature.parameters)
    → fold_made h c ≡ within_limits (folded h c)
fold_passes h c first begins = same_kinds _ _ _ _ _ first ∙ same_kinds _ _ _ _ _ begins

pub guard_passes : (c x y : TypedTree)
    → c.signature.ret ≡ kind.Boolean → x.signature ≡ y.signature
    → c.signature.parameters ≡ take (length c.signature.parameters) x.signature.parameters
    → guard_made c x y ≡ within_limits (guarded c x y)
guard_passes c x y boolean same begins = same_kind _ _ _ _ _ boolean ∙ same_type _ _ _ _ _ same ∙ same_kinds _ _ _ _ _ begins

pub point_passes : (p : ℕ) (x y : TypedTree) → x.signature ≡ y.signature → point_made p x y ≡ within_limits (pointed p x y)
point_passes p x y same = same_type _ _ _ _ _ same

-- the result of the limits is the constructor's
pub limits_decide : (made : Result TypedTree TreeFault) (t : Tree) (m n : Signature) (r : Result Signature TreeFault)
    → made ≡ within_limits (record { tree = t; signature = m })
    → n ≡ m
    → MatchResult r (λ k. within_limits (record { tree = t; signature = n }) ≡ Ok (record { tree = t; signature = k })) (λ e. within_limits (record { tree = t; signature = n }) ≡ Err e)
    → MatchResult r (λ k. made ≡ Ok (record { tree = t; signature = k })) (λ e. made ≡ Err e)
limits_decide made t m n (Ok k) passes same h = passes ∙ (λ i. within_limits (record { tree = t; signature = sym same i })) ∙ h
limits_decide made t m n (Err e) passes same h = passes ∙ (λ i. within_limits (record { tree = t; signature = sym same i })) ∙ h

-- a handle of the tree that may be made is the result
pub made_by : (made r : Result TypedTree TreeFault) (t u : Tree) (m : Signature)
    → u ≡ t → made ≡ Ok (record { tree = t; signature = m })
    → IfOk r (λ h. h ≡ record { tree = u; signature = m }) → IfOk r (λ h. made ≡ Ok h)
made_by made (Ok h) t u m same allowed is = allowed ∙ (λ i. Ok (record { tree = sym same i; signature = m })) ∙ ap Ok (sym is)
made_by made (Err e) t u m same allowed is = tt
