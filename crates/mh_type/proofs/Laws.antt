-- Reading and writing a type are inverse to each other.
use Rattle.std.proofs.Common.{◌≡◌, ℕ, ◌+◌, ◌≤◌, Bool, true, false, List, [], ◌∷◌, ◌++◌, length, take, drop, get_or, map, Option, Some, None, Ok, Err, ◌⊎◌, inl, inr, not, ◌<◌, lit<, refl, sym, ap, ◌∙◌, arith, eqb, leb, if◌then◌else◌, length-append}
use Rattle.std.proofs.lemmas.Bool.Decides.{leb_tells}
use Rattle.std.proofs.lemmas.Bool.{eqb-true}
use Rattle.std.proofs.lemmas.List.{append-nil}
use Rattle.std.proofs.lemmas.List.Elements.{All-append}
use Rattle.std.proofs.lemmas.List.Splits.{slice_split_none, slice_split_at, join_with_byte-slice_split}
use Rattle.std.proofs.lemmas.List.Sums.{split_at_first, passes_at_first, position_or_len_is, AllPass-from_list_all}
use Rattle.std.proofs.lemmas.Slice.Eq.{bytes_eq-Decides}
use Rattle.std.proofs.Math.ListN.{get_or-append, drop_of_length-le}
use Rattle.std.proofs.Math.Seq.{get_or-append_seam, take-append_seam, drop-append-add}
use Rattle.std.specs.List.{All, list_all, flat_map, join_with_byte, slice_split, before_first, after_first, position_or_len}
use Rattle.std.specs.Prelude.{codes}
use Rattle.mh_type.specs.declared.fault.TypeFault.TheVariants.{TooManyParameters, BadText}
use Rattle.mh_type.specs.declared.kind.Kind.{Kind}
use Rattle.mh_type.specs.declared.kind.Kind.TheVariants as kind
use Rattle.mh_type.specs.Kinds.{kind_name, kind_named}
use Rattle.mh_type.specs.Signature.{Signature}
use Rattle.mh_type.specs.Written.{◌>>=◌, listed, kinds_named, kinds_listed, signature_behind, signature_in, with_list, within_parameters, parameters_read, written, parsed}
use Rattle.mh_type.proofs.Reading.{is_comma, listed_joined}

abbrev is_close : ℕ → Bool
is_close b = eqb b 41

-- ---- what is read was written

-- a kind is read from its name alone
named_by : (name : List ℕ) (k : Kind) (a b c d : Bool)
    → (a ≡ true → name ≡ codes "int") → (b ≡ true → name ≡ codes "long") → (c ≡ true → name ≡ codes "boolean") → (d ≡ true → name ≡ codes "String")
    → (if a then Some kind.Int else (if b then Some kind.Long else (if c then Some kind.Boolean else (if d then Some kind.Text else None)))) ≡ Some k
    → name ≡ kind_name k
named_by name k true b c d p q r s h = let e : kind.Int ≡ k = cc in p refl ∙ ap kind_name e
named_by name k false true c d p q r s h = let e : kind.Long ≡ k = cc in q refl ∙ ap kind_name e
named_by name k false false true d p q r s h = let e : kind.Boolean ≡ k = cc in r refl ∙ ap kind_name e
named_by name k false false false true p q r s h = let e : kind.Text ≡ k = cc in s refl ∙ ap kind_name e
named_by name k false false false false p q r s h = cc

named_is : (name : List ℕ) (k : Kind) → kind_named name ≡ Some k → name ≡ kind_name k
named_is name k h = named_by name k _ _ _ _ (bytes_eq-Decides name (codes "int")).0 (bytes_eq-Decides name (codes "long")).0 (bytes_eq-Decides name (codes "boolean")).0 (bytes_eq-Decides name (codes "String")).0 h

-- what came before an answer that is there
bind_some : {A B : Type 0} (o : Option A) (go : A → Option B) (y : B) → (o >>= go) ≡ Some y → (x : A) × (o ≡ Some x) × (go x ≡ Some y)
bind_some None go y h = cc
bind_some (Some x) go y h = (x, refl, h)

names_are : (names : List (List ℕ)) (ks : List Kind) → kinds_named names ≡ Some ks → names ≡ map kind_name ks
names_are [] ks h = let e : [] ≡ ks = cc in ap (map kind_name) e
names_are (name ∷ names) ks h =
    let (k, named, next) = bind_some (kind_named name) _ ks h in
    let (js, others, last) = bind_some (kinds_named names) _ ks next in
    let e : k ∷ js ≡ ks = cc in
    (λ i. named_is name k named i ∷ names_are names js others i) ∙ ap (map kind_name) e

listed_is : (bs : List ℕ) (ks : List Kind) → kinds_listed bs ≡ Some ks → bs ≡ listed ks
listed_is [] ks h = let e : [] ≡ ks = cc in ap listed e
listed_is (b ∷ bs) ks h =
    sym (join_with_byte-slice_split 44 (b ∷ bs)) ∙ ap (join_with_byte 44) (names_are (slice_split is_comma (b ∷ bs)) ks h) ∙ sym (listed_joined ks)

some_name : (k : Kind) → 0 < length (kind_name k)
some_name kind.Int = lit< tt
some_name kind.Long = lit< tt
some_name kind.Boolean = lit< tt
some_name kind.Text = lit< tt

-- what is read behind `(`
behind_is : (bs : List ℕ) (m : Signature) → signature_behind bs ≡ Some m → bs ≡ listed m.parameters ++ (41 ∷ kind_name m.ret)
behind_is bs m h =
    let (ret, named, next) = bind_some (kind_named (after_first is_close bs)) _ m h in
    let (ks, read, last) = bind_some (kinds_listed (before_first is_close bs)) _ m next in
    let after = named_is (after_first is_close bs) ret named in
    let before = listed_is (before_first is_close bs) ks read in
    let inside = closes bs ret after (leb_tells (position_or_len is_close bs + 1) (length bs)) in
    let here = eqb-true _ 41 (passes_at_first is_close bs 0 inside) in
    let whole = split_at_first is_close bs 0 inside in
    let e : record { ret = ret; parameters = ks } ≡ m = cc in
    whole ∙ (λ i. before i ++ (here i ∷ after i)) ∙ ap (λ (n : Signature). listed n.parameters ++ (41 ∷ kind_name n.ret)) e
  where
    closes : (bs : List ℕ) (ret : Kind) → after_first is_close bs ≡ kind_name ret
        → ((leb (position_or_len is_close bs + 1) (length bs) ≡ true) × (position_or_len is_close bs + 1 ≤ length bs)) ⊎ ((leb (position_or_len is_close bs + 1) (length bs) ≡ false) × (length bs < position_or_len is_close bs + 1))
        → position_or_len is_close bs < length bs
    closes bs ret after (inl inside) = omega (arith, inside.1)
    closes bs ret after (inr past) =
        let none : drop (position_or_len is_close bs + 1) bs ≡ [] = drop_of_length-le bs (omega (arith, past.1)) in
        let e : length (kind_name ret) ≡ 0 = ap (λ (xs : List ℕ). length xs) (sym after ∙ none) in
        absurd (omega (arith, e, some_name ret))

in_is : (text : List ℕ) (m : Signature) → signature_in text ≡ Some m → text ≡ written m
in_is [] m h = cc
in_is (b ∷ bs) m h = by (eqb b 40) refl h
  where
    by : (t : Bool) → eqb b 40 ≡ t → (if t then signature_behind bs else None) ≡ Some m → b ∷ bs ≡ written m
    by true e h = λ i. eqb-true b 40 e i ∷ behind_is bs m h i
    by false e h = cc

-- ---- what is written is read

name_read : (k : Kind) → kind_named (kind_name k) ≡ Some k
name_read kind.Int = refl
name_read kind.Long = refl
name_read kind.Boolean = refl
name_read kind.Text = refl

names_read : (ks : List Kind) → kinds_named (map kind_name ks) ≡ Some ks
names_read [] = refl
names_read (k ∷ ks) = rw (name_read k, names_read ks) refl

abbrev lacks : (ℕ → Bool) → List ℕ → Type 0
lacks p xs = All (λ b. p b ≡ false) xs

abbrev tested : (ℕ → Bool) → List ℕ → Bool
tested p xs = list_all (λ b. not (p b)) xs

lacks-from : (p : ℕ → Bool) (xs : List ℕ) → tested p xs ≡ true → lacks p xs
lacks-from p xs h = λ k d lt. by (p (get_or xs k d)) (AllPass-from_list_all (λ b. not (p b)) xs h k d lt)
  where
    by : (b : Bool) → not b ≡ true → b ≡ false
    by true h = cc
    by false h = refl

-- no name holds a comma or a parenthesis
name_lacks_comma : (k : Kind) → lacks is_comma (kind_name k)
name_lacks_comma kind.Int = lacks-from is_comma (codes "int") refl
name_lacks_comma kind.Long = lacks-from is_comma (codes "long") refl
name_lacks_comma kind.Boolean = lacks-from is_comma (codes "boolean") refl
name_lacks_comma kind.Text = lacks-from is_comma (codes "String") refl

name_lacks_close : (k : Kind) → lacks is_close (kind_name k)
name_lacks_close kind.Int = lacks-from is_close (codes "int") refl
name_lacks_close kind.Long = lacks-from is_close (codes "long") refl
name_lacks_close kind.Boolean = lacks-from is_close (codes "boolean") refl
name_lacks_close kind.Text = lacks-from is_close (codes "String") refl

comma_lacks_close : lacks is_close (44 ∷ [])
comma_lacks_close = lacks-from is_close (44 ∷ []) refl

-- names with commas between them are cut at the commas
split_names : (k : Kind) (ks : List Kind) → slice_split is_comma (kind_name k ++ flat_map (λ j. 44 ∷ kind_name j) ks) ≡ kind_name k ∷ map kind_name ks
split_names k [] = ap (slice_split is_comma) (append-nil (kind_name k)) ∙ slice_split_none is_comma (kind_name k) (name_lacks_comma k)
split_names k (j ∷ js) =
    slice_split_at is_comma (kind_name k) 44 (kind_name j ++ flat_map (λ i. 44 ∷ kind_name i) js) (name_lacks_comma k) refl
    ∙ ap (λ (names : List (List ℕ)). kind_name k ∷ names) (split_names j js)

others_lack_close : (ks : List Kind) → lacks is_close (flat_map (λ j. 44 ∷ kind_name j) ks)
others_lack_close [] = λ k d lt. absurd (omega arith)
others_lack_close (j ∷ js) =
    All-append (λ b. is_close b ≡ false) (44 ∷ kind_name j) _ (All-append (λ b. is_close b ≡ false) (44 ∷ []) (kind_name j) comma_lacks_close (name_lacks_close j)) (others_lack_close js)

listed_lacks_close : (ks : List Kind) → lacks is_close (listed ks)
listed_lacks_close [] = λ k d lt. absurd (omega arith)
listed_lacks_close (j ∷ js) = All-append (λ b. is_close b ≡ false) (kind_name j) _ (name_lacks_close j) (others_lack_close js)

-- a list is cut at the first byte that passes
cut_at : (p : ℕ → Bool) (xs : List ℕ) (y : ℕ) (ys : List ℕ) → lacks p xs → p y ≡ true → (before_first p (xs ++ y ∷ ys) ≡ xs) × (after_first p (xs ++ y ∷ ys) ≡ ys)
cut_at p xs y ys none here =
    let long : length xs ≤ length (xs ++ y ∷ ys) = omega (arith, length-append xs (y ∷ ys)) in
    let before : (k : ℕ) → k < length xs → p (get_or (xs ++ y ∷ ys) k 0) ≡ false = λ k lt. ap p (get_or-append xs (y ∷ ys) 0 k lt) ∙ none k 0 lt in
    let at : p (get_or (xs ++ y ∷ ys) (length xs) 0) ≡ true = ap p (get_or-append_seam xs y ys 0) ∙ here in
    let place : position_or_len p (xs ++ y ∷ ys) ≡ length xs = position_or_len_is p (xs ++ y ∷ ys) (length xs) 0 long before (λ lt. at) in (
      ap (λ (n : ℕ). take n (xs ++ y ∷ ys)) place ∙ take-append_seam xs (y ∷ ys),
      ap (λ (n : ℕ). drop (n + 1) (xs ++ y ∷ ys)) place ∙ drop-append-add xs (y ∷ ys) 1,
    )

listed_cons : (bs : List ℕ) → 0 < length bs → kinds_listed bs ≡ kinds_named (slice_split is_comma bs)
listed_cons [] h = absurd (omega arith)
listed_cons (b ∷ bs) h = refl

listed_read : (ks : List Kind) → kinds_listed (listed ks) ≡ Some ks
listed_read [] = refl
listed_read (k ∷ ks) =
    listed_cons (listed (k ∷ ks)) (omega (arith, some_name k, length-append (kind_name k) (flat_map (λ j. 44 ∷ kind_name j) ks)))
    ∙ ap kinds_named (split_names k ks) ∙ names_read (k ∷ ks)

behind_read : (m : Signature) → signature_behind (listed m.parameters ++ (41 ∷ kind_name m.ret)) ≡ Some m
behind_read m =
    let cut = cut_at is_close (listed m.parameters) 41 (kind_name m.ret) (listed_lacks_close m.parameters) refl in
    let ret : kind_named (after_first is_close (listed m.parameters ++ (41 ∷ kind_name m.ret))) ≡ Some m.ret = ap kind_named cut.1 ∙ name_read m.ret in
    let list : kinds_listed (before_first is_close (listed m.parameters ++ (41 ∷ kind_name m.ret))) ≡ Some m.parameters = ap kinds_listed cut.0 ∙ listed_read m.parameters in
    (λ i. ret i >>= λ r. list i >>= λ ks. Some (record { ret = r; parameters = ks }))

-- ---- the laws

-- the text of a type is read as that type, with any number of parameters
pub in_written : (m : Signature) → signature_in (written m) ≡ Some m
in_written m = behind_read m

within_some : (o : Option Signature) (m : Signature) → within_parameters o ≡ Ok m → o ≡ Some m
within_some None m h = cc
within_some (Some n) m h = by (leb (length n.parameters) 16) h
  where
    by : (b : Bool) → (if b then Ok n else Err TooManyParameters) ≡ Ok m → Some n ≡ Some m
    by true h = cc
    by false h = cc

-- what was read was written
pub parsed_ok : (text : List ℕ) (m : Signature) → parsed text ≡ Ok m → text ≡ written m
parsed_ok text m h = in_is text m (within_some (signature_in text) m h)

-- a text with too many parameters
pub parsed_many : (text : List ℕ) → parsed text ≡ Err TooManyParameters → (m : Signature) × (text ≡ written m) × (16 < length m.parameters)
parsed_many text h = by (signature_in text) refl h
  where
    by_many : (m : Signature) → (if leb (length m.parameters) 16 then Ok m else Err TooManyParameters) ≡ Err TooManyParameters → 16 < length m.parameters
    by_many m h = cases (leb_tells (length m.parameters) 16)
      where
        cases : ((leb (length m.parameters) 16 ≡ true) × (length m.parameters ≤ 16)) ⊎ ((leb (length m.parameters) 16 ≡ false) × (16 < length m.parameters)) → 16 < length m.parameters
        cases (inl few) = let e : Ok m ≡ Err TooManyParameters = ap (λ (b : Bool). if b then Ok m else Err TooManyParameters) (sym few.0) ∙ h in cc
        cases (inr many) = many.1

    by : (o : Option Signature) → signature_in text ≡ o → within_parameters o ≡ Err TooManyParameters → (m : Signature) × (text ≡ written m) × (16 < length m.parameters)
    by None e h = cc
    by (Some m) e h = (m, in_is text m e, by_many m h)

-- a text that is none was not written
pub parsed_bad : (text : List ℕ) → parsed text ≡ Err BadText → (m : Signature) → text ≡ written m → ⊥
parsed_bad text h m is = by (leb (length m.parameters) 16) (sym (ap parsed is ∙ ap within_parameters (in_written m)) ∙ h)
  where
    by : (b : Bool) → (if b then Ok m else Err TooManyParameters) ≡ Err BadText → ⊥
    by true e = cc
    by false e = cc

-- ---- reading by its rule

none_closed : (bs : List ℕ) → position_or_len is_close bs ≡ length bs → signature_behind bs ≡ None
none_closed bs h =
    let none : after_first is_close bs ≡ [] = drop_of_length-le bs (omega arith) in
    ap (λ (name : List ℕ). kind_named name >>= λ r. with_list r (before_first is_close bs)) none

pub unopened : (text : List ℕ) → ((rest : List ℕ) → text ≡ 40 ∷ rest → ⊥) → parsed text ≡ Err BadText
unopened [] h = refl
unopened (b ∷ bs) h = by (eqb b 40) refl
  where
    by : (t : Bool) → eqb b 40 ≡ t → within_parameters (if t then signature_behind bs else None) ≡ Err BadText
    by true e = absurd (h bs (λ i. eqb-true b 40 e i ∷ bs))
    by false e = refl

pub unclosed : (text behind : List ℕ) → text ≡ 40 ∷ behind → position_or_len is_close behind ≡ length behind → parsed text ≡ Err BadText
unclosed text behind is none = ap parsed is ∙ ap within_parameters (none_closed behind none)

pub nameless : (text behind : List ℕ) → text ≡ 40 ∷ behind → kind_named (after_first is_close behind) ≡ None → parsed text ≡ Err BadText
nameless text behind is none = ap parsed is ∙ ap (λ (o : Option Kind). within_parameters (o >>= λ r. with_list r (before_first is_close behind))) none

pub rest_read : (text behind : List ℕ) (ret : Kind) → text ≡ 40 ∷ behind → kind_named (after_first is_close behind) ≡ Some ret → parsed text ≡ parameters_read ret (before_first is_close behind)
rest_read text behind ret is named = ap parsed is ∙ ap (λ (o : Option Kind). within_parameters (o >>= λ r. with_list r (before_first is_close behind))) named
