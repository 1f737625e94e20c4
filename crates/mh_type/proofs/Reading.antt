-- The text of a type, and what is read from it.
use Rattle.std.proofs.Common.{◌≡◌, ℕ, ◌+◌, ◌<◌, ◌≤◌, ◌&&◌, Bool, true, false, List, [], ◌∷◌, ◌++◌, length, take, drop, get_or, map, Option, Some, None, Ok, Err, refl, sym, ap, ◌∙◌, arith, eqb, leb, ltb, append_assoc, min, inl, inr, ◌⊎◌, length-append, if◌then◌else◌}
use Rattle.std.proofs.lemmas.Bool.{leb-true}
use Rattle.std.proofs.lemmas.Bool.Decides.{leb_tells, nat_tests}
use Rattle.std.proofs.lemmas.List.{append-nil, length-take, take-append-le, take_all, at_drop_more, at_drop_all}
use Rattle.std.specs.List.{flat_map, join_with_byte, slice_split}
use Rattle.mh_type.specs.declared.kind.Kind.{Kind}
use Rattle.mh_type.specs.declared.fault.TypeFault.TheVariants.{TooManyParameters, BadText}
use Rattle.mh_type.specs.Kinds.{kind_name, kind_named}
use Rattle.mh_type.specs.Signature.{Signature}
use Rattle.mh_type.specs.Written.{◌>>=◌, listed, kinds_named, with_list, within_parameters, parameters_read}

-- ---- writing

-- the pieces in a row are the first, and each other with a comma before it
pub join-first : (x : List ℕ) (xs : List (List ℕ)) → join_with_byte 44 (x ∷ xs) ≡ x ++ flat_map (λ y. 44 ∷ y) xs
join-first x [] = sym (append-nil x)
join-first x (y ∷ ys) = ap (λ l. x ++ (44 ∷ l)) (join-first y ys)

pub flat_map-of_map : {A B C : Type 0} (f : B → List C) (g : A → B) (xs : List A) → flat_map f (map g xs) ≡ flat_map (λ x. f (g x)) xs
flat_map-of_map f g [] = refl
flat_map-of_map f g (x ∷ xs) = ap (λ l. f (g x) ++ l) (flat_map-of_map f g xs)

-- the names of kinds in a row
pub listed_joined : (ks : List Kind) → listed ks ≡ join_with_byte 44 (map kind_name ks)
listed_joined [] = refl
listed_joined (k ∷ ks) = sym (join-first (kind_name k) (map kind_name ks) ∙ ap (λ l. kind_name k ++ l) (flat_map-of_map (λ y. 44 ∷ y) kind_name ks))

-- ---- reading the list of parameters, one name after another

abbrev pub is_comma : ℕ → Bool
is_comma b = eqb b 44

-- the kinds that were read, and those that are still read
abbrev pub then_kinds : List Kind → Option (List Kind) → Option (List Kind)
then_kinds seen read = read >>= λ ks. Some (seen ++ ks)

abbrev pub kinds_between : List ℕ → Option (List Kind)
kinds_between bytes = kinds_named (slice_split is_comma bytes)

-- where the reading of a list stands after n names: the kinds so far; the type has the first 16 of them
pub record ReadSoFar (ret : Kind) (list : List ℕ) (made : Signature) (fits : Bool) (n : ℕ) : Type 0 where
  pub seen : List Kind
  pub made_is : made ≡ record { ret = ret; parameters = take 16 seen }
  pub fits_is : fits ≡ leb (length seen) 16
  pub same : then_kinds seen (kinds_named (drop n (slice_split is_comma list))) ≡ kinds_between list

then_none : (read : Option (List Kind)) → then_kinds [] read ≡ read
then_none None = refl
then_none (Some ks) = refl

pub read_none : (ret : Kind) (list : List ℕ) → ReadSoFar ret list (record { ret = ret; parameters = [] }) true 0
read_none ret list = record { seen = []; made_is = refl; fits_is = refl; same = then_none (kinds_between list) }

regroup : (seen : List Kind) (k : Kind) (read : Option (List Kind)) → then_kinds seen (read >>= λ ks. Some (k ∷ ks)) ≡ then_kinds (seen ++ k ∷ []) read
regroup seen k None = refl
regroup seen k (Some ks) = ap Some (simp append_assoc)

-- with one more parameter, the first 16 stay
take-push : (seen : List Kind) (k : Kind) → take 16 (take 16 seen ++ k ∷ []) ≡ take 16 (seen ++ k ∷ [])
take-push seen k = by (leb_tells (length seen) 16)
  where
    by : ((leb (length seen) 16 ≡ true) × (length seen ≤ 16)) ⊎ ((leb (length seen) 16 ≡ false) × (16 < length seen)) → take 16 (take 16 seen ++ k ∷ []) ≡ take 16 (seen ++ k ∷ [])
    by (inl few) = ap (λ (ks : List Kind). take 16 (ks ++ k ∷ [])) (take_all 16 seen few.1)
    by (inr many) =
        let full : 16 ≤ length (take 16 seen) = omega (arith, many.1, length-take 16 seen) in
        let small : length (take 16 seen) ≤ 16 = omega (arith, length-take 16 seen) in
        let wide : 16 ≤ length seen = omega (arith, many.1) in
        take-append-le 16 (take 16 seen) (k ∷ []) full ∙ take_all 16 (take 16 seen) small ∙ sym (take-append-le 16 seen (k ∷ []) wide)

counts : (s t u : ℕ) → t ≡ min 16 s → u ≡ s + 1 → leb s 16 && ltb t 16 ≡ leb u 16
counts s t u e h = grind (arith, nat_tests)

fits-push : (seen : List Kind) (k : Kind) → leb (length seen) 16 && ltb (length (take 16 seen)) 16 ≡ leb (length (seen ++ k ∷ [])) 16
fits-push seen k = counts _ _ _ (length-take 16 seen) (length-append seen (k ∷ []))

-- the type with one more parameter, and with the first 16 of all
abbrev pub last_put : Signature → Kind → Signature
last_put m k = record { ret = m.ret; parameters = take 16 (m.parameters ++ k ∷ []) }

-- one more name
pub read_more : (ret : Kind) (list : List ℕ) (made : Signature) (fits : Bool) (n : ℕ) (name : List ℕ) (k : Kind) (made' : Signature) (fits' : Bool)
    → ReadSoFar ret list made fits n
    → (n < length (slice_split is_comma list)) × (name ≡ get_or (slice_split is_comma list) n name)
    → kind_named name ≡ Some k
    → made' ≡ last_put made k
    → fits' ≡ (fits && ltb (length made.parameters) 16)
    → ReadSoFar ret list made' fits' (n + 1)
read_more ret list made fits n name k made' fits' so_far at named put room =
    let names = slice_split is_comma list in
    let next = at_drop_more (λ ns. then_kinds so_far.seen (kinds_named ns)) names n name at.0 in
    let read : then_kinds so_far.seen (kinds_named (name ∷ drop (n + 1) names)) ≡ then_kinds (so_far.seen ++ k ∷ []) (kinds_named (drop (n + 1) names)) =
    rw named (regroup so_far.seen k _) in
    let params : made.parameters ≡ take 16 so_far.seen = ap (λ (m : Signature). m.parameters) so_far.made_is in
    let kept : made.ret ≡ ret = ap (λ (m : Signature). m.ret) so_far.made_is in
    record {
      seen = so_far.seen ++ k ∷ [];
      made_is = put ∙ (λ i. record { ret = kept i; parameters = take 16 (params i ++ k ∷ []) }) ∙ ap (λ (ks : List Kind). record { ret = ret; parameters = ks }) (take-push so_far.seen k);
      fits_is = room ∙ (λ i. so_far.fits_is i && ltb (length (params i)) 16) ∙ fits-push so_far.seen k;
      same = sym read ∙ ap (λ (w : List ℕ). then_kinds so_far.seen (kinds_named (w ∷ drop (n + 1) names))) at.1 ∙ sym next ∙ so_far.same;
    }

-- a name that names no kind
pub read_stops : (ret : Kind) (list : List ℕ) (made : Signature) (fits : Bool) (n : ℕ) (name : List ℕ)
    → ReadSoFar ret list made fits n
    → (n < length (slice_split is_comma list)) × (name ≡ get_or (slice_split is_comma list) n name)
    → kind_named name ≡ None
    → kinds_between list ≡ None
read_stops ret list made fits n name so_far at named =
    let names = slice_split is_comma list in
    let next = at_drop_more (λ ns. then_kinds so_far.seen (kinds_named ns)) names n name at.0 in
    let read : then_kinds so_far.seen (kinds_named (name ∷ drop (n + 1) names)) ≡ None = rw named refl in
    sym so_far.same ∙ next ∙ ap (λ (w : List ℕ). then_kinds so_far.seen (kinds_named (w ∷ drop (n + 1) names))) (sym at.1) ∙ read

-- all names
pub read_all : (ret : Kind) (list : List ℕ) (made : Signature) (fits : Bool) (n : ℕ)
    → (so_far : ReadSoFar ret list made fits n)
    → length (slice_split is_comma list) ≤ n
    → kinds_between list ≡ Some so_far.seen
read_all ret list made fits n so_far done =
    sym so_far.same ∙ at_drop_all (λ ns. then_kinds so_far.seen (kinds_named ns)) (slice_split is_comma list) n done ∙ ap Some (append-nil so_far.seen)

-- a list that is not empty is read between its commas
pub listed_between : (ret : Kind) (list : List ℕ) → 0 < length list → with_list ret list ≡ (kinds_between list >>= λ ks. Some (record { ret = ret; parameters = ks }))
listed_between ret [] h = absurd (omega arith)
listed_between ret (b ∷ bs) h = refl

-- the answer of a reading, by what was read
pub answers_some : (ret : Kind) (list : List ℕ) (seen : List Kind) → 0 < length list → kinds_between list ≡ Some seen → parameters_read ret list ≡ (if leb (length seen) 16 then Ok (record { ret = ret; parameters = seen }) else Err TooManyParameters)
answers_some ret list seen some read = ap within_parameters (listed_between ret list some ∙ ap (λ o. o >>= λ ks. Some (record { ret = ret; parameters = ks })) read)

pub answers_none : (ret : Kind) (list : List ℕ) → 0 < length list → kinds_between list ≡ None → parameters_read ret list ≡ Err BadText
answers_none ret list some read = ap within_parameters (listed_between ret list some ∙ ap (λ o. o >>= λ ks. Some (record { ret = ret; parameters = ks })) read)

-- the answers after all names
pub answers_fit : (ret : Kind) (list : List ℕ) (made : Signature) (fits : Bool) (n : ℕ)
    → ReadSoFar ret list made fits n → length (slice_split is_comma list) ≤ n → 0 < length list
    → fits ≡ true
    → parameters_read ret list ≡ Ok made
answers_fit ret list made fits n so_far done some room =
    let few : leb (length so_far.seen) 16 ≡ true = sym so_far.fits_is ∙ room in
    let all : take 16 so_far.seen ≡ so_far.seen = take_all 16 so_far.seen (leb-true _ _ few) in
    answers_some ret list so_far.seen some (read_all ret list made fits n so_far done)
    ∙ ap (λ (b : Bool). if b then Ok (record { ret = ret; parameters = so_far.seen }) else Err TooManyParameters) few
    ∙ ap (λ (ks : List Kind). Ok (record { ret = ret; parameters = ks })) (sym all)
    ∙ ap Ok (sym so_far.made_is)

pub answers_many : (ret : Kind) (list : List ℕ) (made : Signature) (fits : Bool) (n : ℕ)
    → ReadSoFar ret list made fits n → length (slice_split is_comma list) ≤ n → 0 < length list
    → fits ≡ false
    → parameters_read ret list ≡ Err TooManyParameters
answers_many ret list made fits n so_far done some room =
    answers_some ret list so_far.seen some (read_all ret list made fits n so_far done)
    ∙ ap (λ (b : Bool). if b then Ok (record { ret = ret; parameters = so_far.seen }) else Err TooManyParameters) (sym so_far.fits_is ∙ room)

-- a text with a byte
pub some_bytes : (bs : List ℕ) (b : Bool) → b ≡ eqb (length bs) 0 → b ≡ false → 0 < length bs
some_bytes [] b e h = cc
some_bytes (x ∷ bs) b e h = omega arith
