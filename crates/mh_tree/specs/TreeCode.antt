-- A code of trees, by which a proof tells two of them apart.
use Rattle.std.specs.Prelude.{◌≡◌, ℕ, refl}
use Rattle.std.specs.Coded.{Coded, coded_ℕ, coded_list, coded×, code_by}
use Rattle.std.proofs.Common.{ap, arith}
use base.Stored.{Gv, gnil, gnum, gcons}
use Rattle.mh_type.specs.contracts.kind.Kind as kind
use Rattle.mh_type.specs.contracts.operation.Op as op
use Rattle.mh_type.specs.contracts.value.Value as value
use Rattle.mh_type.specs.contracts.method_type.MethodType as method_type
use Rattle.mh_type.specs.Signature.{Signature}
use Rattle.mh_tree.specs.Handle.{TypedTree}
use Rattle.mh_tree.specs.Tree.{Tree, Filters, constant, identity, operation, insert, discard, permute, filter, filter_return, fold, guard, point, invoke, no_more, absent, present}

abbrev left : Gv → Gv
left gnil = gnil
left (gnum n) = gnil
left (gcons a b) = a

abbrev right : Gv → Gv
right gnil = gnil
right (gnum n) = gnil
right (gcons a b) = b

abbrev number : Gv → ℕ
number gnil = 0
number (gnum n) = n
number (gcons a b) = 0

abbrev mutual
  pub tree_code : Tree → Gv
  tree_code (constant x) = gcons (gnum 0) (value.the_row.coded.code x)
  tree_code (identity k) = gcons (gnum 1) (kind.the_row.coded.code k)
  tree_code (operation o) = gcons (gnum 2) (op.the_row.coded.code o)
  tree_code (insert t p xs) = gcons (gnum 3) (gcons (tree_code t) (gcons (gnum p) ((coded_list value.the_row.coded).code xs)))
  tree_code (discard t p ks) = gcons (gnum 4) (gcons (tree_code t) (gcons (gnum p) ((coded_list kind.the_row.coded).code ks)))
  tree_code (permute t m r) = gcons (gnum 5) (gcons (tree_code t) (gcons (method_type.the_row.coded.code m) ((coded_list coded_ℕ).code r)))
  tree_code (filter t p fs) = gcons (gnum 6) (gcons (tree_code t) (gcons (gnum p) (filters_code fs)))
  tree_code (filter_return t f) = gcons (gnum 7) (gcons (tree_code t) (tree_code f))
  tree_code (fold t c) = gcons (gnum 8) (gcons (tree_code t) (tree_code c))
  tree_code (guard c x y) = gcons (gnum 9) (gcons (tree_code c) (gcons (tree_code x) (tree_code y)))
  tree_code (point p x y) = gcons (gnum 10) (gcons (gnum p) (gcons (tree_code x) (tree_code y)))
  tree_code (invoke s m) = gcons (gnum 11) (gcons (gnum s) (method_type.the_row.coded.code m))

  pub filters_code : Filters → Gv
  filters_code no_more = gcons (gnum 0) gnil
  filters_code (absent fs) = gcons (gnum 1) (filters_code fs)
  filters_code (present f fs) = gcons (gnum 2) (gcons (tree_code f) (filters_code fs))

-- two codes of other combinators differ
other : {A : Type 0} (x y : Gv) → x ≡ y → (number (left x) ≡ number (left y) → ⊥) → A
other x y p h = absurd (h (ap (λ g. number (left g)) p))

abbrev second : Gv → Gv
second g = left (right g)

abbrev third : Gv → Gv
third g = left (right (right g))

abbrev rest : Gv → Gv
rest g = right (right (right g))

mutual
  pub tree_inj : (x y : Tree) → tree_code x ≡ tree_code y → x ≡ y
  tree_inj (constant x) (constant y) p = λ i. constant (value.the_row.coded.inj x y (ap right p) i)
  tree_inj (identity x) (identity y) p = λ i. identity (kind.the_row.coded.inj x y (ap right p) i)
  tree_inj (operation x) (operation y) p = λ i. operation (op.the_row.coded.inj x y (ap right p) i)
  tree_inj (insert t m xs) (insert u n ys) p =
      λ i. insert (tree_inj t u (ap second p) i) (ap (λ g. number (third g)) p i) ((coded_list value.the_row.coded).inj xs ys (ap rest p) i)
  tree_inj (discard t m xs) (discard u n ys) p =
      λ i. discard (tree_inj t u (ap second p) i) (ap (λ g. number (third g)) p i) ((coded_list kind.the_row.coded).inj xs ys (ap rest p) i)
  tree_inj (permute t m r) (permute u n s) p =
      λ i. permute (tree_inj t u (ap second p) i) (method_type.the_row.coded.inj m n (ap third p) i) ((coded_list coded_ℕ).inj r s (ap rest p) i)
  tree_inj (filter t m fs) (filter u n gs) p =
      λ i. filter (tree_inj t u (ap second p) i) (ap (λ g. number (third g)) p i) (filters_inj fs gs (ap rest p) i)
  tree_inj (filter_return t f) (filter_return u g) p = λ i. filter_return (tree_inj t u (ap second p) i) (tree_inj f g (ap (λ g. right (right g)) p) i)
  tree_inj (fold t f) (fold u g) p = λ i. fold (tree_inj t u (ap second p) i) (tree_inj f g (ap (λ g. right (right g)) p) i)
  tree_inj (guard c x y) (guard d z w) p =
      λ i. guard (tree_inj c d (ap second p) i) (tree_inj x z (ap third p) i) (tree_inj y w (ap rest p) i)
  tree_inj (point m x y) (point n z w) p =
      λ i. point (ap (λ g. number (second g)) p i) (tree_inj x z (ap third p) i) (tree_inj y w (ap rest p) i)
  tree_inj (invoke s m) (invoke r n) p = λ i. invoke (ap (λ g. number (second g)) p i) (method_type.the_row.coded.inj m n (ap (λ g. right (right g)) p) i)
  tree_inj x y p = other _ _ p (λ h. omega arith)

  pub filters_inj : (x y : Filters) → filters_code x ≡ filters_code y → x ≡ y
  filters_inj no_more no_more p = refl
  filters_inj (absent fs) (absent gs) p = λ i. absent (filters_inj fs gs (ap right p) i)
  filters_inj (present f fs) (present g gs) p = λ i. present (tree_inj f g (ap second p) i) (filters_inj fs gs (ap (λ g. right (right g)) p) i)
  filters_inj x y p = other _ _ p (λ h. omega arith)

abbrev pub coded_tree : Coded Tree
coded_tree = record { code = tree_code; inj = tree_inj }

abbrev pub coded_typed_tree : Coded TypedTree
coded_typed_tree =
    code_by (Tree × Signature) (coded× coded_tree method_type.the_row.coded) (λ h. (h.tree, h.signature)) (λ p. record { tree = p.0; signature = p.1 }) (λ _. refl)
