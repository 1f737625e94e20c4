use Rattle.std.proofs.Common.{◌≡◌, ℕ, ◌+◌, ◌-◌, ◌≤◌, ◌<◌, List, [], ◌∷◌, Bool, true, false, cond, refl, arith, sym, ◌∙◌, ap, inl, inr, length, get_or, get_or-set_same, get_or-set_other, subst, drop, take}
use Rattle.std.specs.Prelude.{◌==◌, map, min, slice_set}
use Rattle.std.proofs.lemmas.Bool.{cases_eq, eq-eqb}
use Rattle.std.proofs.Math.Seq.{take-length}
use Rattle.std.proofs.lemmas.List.Sums.{sum_by-cons, sum_by-set, get_or-le-sum_by}
use Rattle.mh_network.specs.Sums.{amount_at}
use Rattle.mh_flow.specs.declared.need_row.NeedRow.{NeedRow}
use Rattle.mh_flow.specs.declared.path.Turn.{Turn}
use Rattle.mh_flow.specs.Carried.{row_at, no_row, number_at}
use Rattle.mh_flow.specs.Paths.{IsPath, IsPushed, IsSent, IsMoved, IsSameRow, IsTurn, least_of, room, times}

-- a row with another amount
abbrev pub with_amount : NeedRow → ℕ → NeedRow
with_amount r a = record { link = r.link; point = r.point; amount = a }

pub with_amount-set : (rows : List NeedRow) (i a : ℕ) → i < length rows → (k : ℕ) → IsSameRow (row_at (slice_set rows i (with_amount (row_at rows i) a)) k) (row_at rows k)
with_amount-set rows i a l k =
    elim (cases_eq k i) [
      | inl e ↦ rw (e, get_or-set_same) record { link = refl; point = refl }
      | inr ne ↦ rw get_or-set_other record { link = refl; point = refl }
    ]

-- what a key adds up to after the amount of a row has changed
pub amount_at-set : (key : NeedRow → ℕ) (rows : List NeedRow) (i a : ℕ) → i < length rows → ((r : NeedRow) (b : ℕ) → key (with_amount r b) ≡ key r) → (q : ℕ) →
    amount_at key (λ r. r.amount) (slice_set rows i (with_amount (row_at rows i) a)) q + cond (key (row_at rows i) == q) (row_at rows i).amount 0
    ≡ amount_at key (λ r. r.amount) rows q + cond (key (row_at rows i) == q) a 0
amount_at-set key rows i a l same q =
    let r = row_at rows i in
    let e = sum_by-set (λ x. cond (key x == q) x.amount 0) rows i (with_amount r a) no_row l in
    e ∙ ap (λ v. amount_at key (λ x. x.amount) rows q + cond (v == q) a 0) (same r a)

pub row-le-amount_at : (key : NeedRow → ℕ) (rows : List NeedRow) (i : ℕ) → i < length rows → (row_at rows i).amount ≤ amount_at key (λ r. r.amount) rows (key (row_at rows i))
row-le-amount_at key rows i l =
    let e = get_or-le-sum_by (λ x. cond (key x == key (row_at rows i)) x.amount 0) rows i no_row l in
    let same : (key (row_at rows i) == key (row_at rows i)) ≡ true = eq-eqb _ _ refl in
    rw same at e

cond-sum : (b : Bool) (x y d : ℕ) → x ≡ y + d → cond b x 0 ≡ cond b y 0 + cond b d 0
cond-sum true x y d e = e
cond-sum false x y d e = refl

pub path_turn : (rows : List NeedRow) (left : List ℕ) (links points : ℕ → ℕ) (p first : ℕ) (turns : List Turn) (d : Turn) → 1 ≤ length turns → IsPath rows left links points p turns first →
    IsTurn rows links points p (get_or turns 0 d).forth (get_or turns 0 d).back
path_turn rows left links points p first [] d l h = absurd (omega arith)
path_turn rows left links points p first (turn ∷ rest) d l h = h.0

pub path_rest : (rows : List NeedRow) (left : List ℕ) (links points : ℕ → ℕ) (p first : ℕ) (turns : List Turn) (d : Turn) → 1 ≤ length turns → IsPath rows left links points p turns first →
    IsPath rows left links points (row_at rows (get_or turns 0 d).back).point (take (length turns - 1) (drop 1 turns)) first
path_rest rows left links points p first [] d l h = absurd (omega arith)
path_rest rows left links points p first (turn ∷ rest) d l h =
    let less : length (turn ∷ rest) - 1 ≡ length rest = omega arith in
    let whole : take (length (turn ∷ rest) - 1) rest ≡ rest = ap (λ n. take n rest) less ∙ take-length rest in
    let P : List Turn → Type 0 = λ r. IsPath rows left links points (row_at rows turn.back).point r first in
    subst P (sym whole) h.1

min_swap : (a b c : ℕ) → min (min a b) c ≡ min (min a c) b
min_swap a b c = omega arith

-- the limit after a turn leaves the rest of a path the room that the whole has
pub room_turn : (rows : List NeedRow) (left : List ℕ) (limit within first : ℕ) (turns : List Turn) (d : Turn) → 1 ≤ length turns →
    within ≡ min limit (row_at rows (get_or turns 0 d).back).amount →
    room rows left within (take (length turns - 1) (drop 1 turns)) first ≡ room rows left limit turns first
room_turn rows left limit within first [] d l e = absurd (omega arith)
room_turn rows left limit within first (turn ∷ rest) d l e =
    let less : length (turn ∷ rest) - 1 ≡ length rest = omega arith in
    let whole : take (length (turn ∷ rest) - 1) rest ≡ rest = ap (λ n. take n rest) less ∙ take-length rest in
    let gain : ℕ = number_at left (row_at rows first).link in
    let amounts : List ℕ = map (λ t. (row_at rows t.back).amount) rest in
    ap (λ (r : List Turn). room rows left within r first) whole
    ∙ (ap (λ (n : ℕ). least_of (min n gain) amounts) e
    ∙ ap (λ (n : ℕ). least_of n amounts) (min_swap limit (row_at rows turn.back).amount gain))

pub pushed_on : (old mid new : List NeedRow) (left0 left1 : List ℕ) (links points : ℕ → ℕ) (p forth back d : ℕ) →
    IsTurn old links points p forth back →
    IsPushed old mid left0 left1 links points (points (row_at old back).point) (row_at old back).point d →
    IsMoved mid new back forth d →
    IsPushed old new left0 left1 links points (points p) p d
pushed_on old mid new left0 left1 links points p forth back d turn pushed moved = record {
  length = moved.length ∙ pushed.length;
  places = λ k. record {
    link = (moved.places k).link ∙ (pushed.places k).link;
    point = (moved.places k).point ∙ (pushed.places k).point;
  };
  kept = λ k above.
      let level : links (row_at old back).link + 1 ≡ points p = ap (λ v. links v + 1) turn.same_link ∙ turn.link_level in
      let lower : points (row_at old back).point ≤ links (row_at old k).link = omega (arith, level, turn.point_level, above) in
      let other : (row_at mid k).link ≡ (row_at mid back).link → ⊥ = λ e.
      let same : (row_at old k).link ≡ (row_at old back).link = sym (pushed.places k).link ∙ e ∙ (pushed.places back).link in
      omega (arith, ap links same, level, above) in
      moved.others k other ∙ pushed.kept k lower;
  into = λ q.
      let from : cond ((row_at mid back).point == q) d 0 ≡ cond ((row_at old back).point == q) d 0 =
      ap (λ v. cond (v == q) d 0) (pushed.places back).point in
      let to : cond ((row_at mid forth).point == q) d 0 ≡ cond (p == q) d 0 =
      ap (λ v. cond (v == q) d 0) ((pushed.places forth).point ∙ turn.to_point) in
      omega (arith, moved.into q, pushed.into q, from, to);
  grown = λ k more. elim (cases_eq k forth) [
    | inl e ↦
        let level : links (row_at old forth).link + 1 ≡ points (row_at old forth).point = turn.link_level ∙ ap points (sym turn.to_point) in
        subst (λ (i : ℕ). links (row_at old i).link + 1 ≡ points (row_at old i).point) (sym e) level
    | inr other ↦ pushed.grown k (omega (arith, more, moved.grown k other))
  ];
  less = pushed.less;
  out = λ j. omega (arith, moved.out j, pushed.out j);
  value = moved.value ∙ pushed.value;
}

times_cons : (d k x : ℕ) (xs : List ℕ) → times d k (x ∷ xs) ≡ cond (x == k) d 0 + times d k xs
times_cons d k x xs = sum_by-cons (λ y. cond (y == k) d 0) x xs

-- what went along the rest of a path goes over its first turn too
pub sent_on : (old mid new : List NeedRow) (first d : ℕ) (turns : List Turn) (e : Turn) → 1 ≤ length turns → IsSent old mid (take (length turns - 1) (drop 1 turns)) first d →
    IsMoved mid new (get_or turns 0 e).back (get_or turns 0 e).forth d → IsSent old new turns first d
sent_on old mid new first d [] e l h moved = absurd (omega arith)
sent_on old mid new first d (turn ∷ rest) e l h moved =
    let less : length (turn ∷ rest) - 1 ≡ length rest = omega arith in
    let whole : take (length (turn ∷ rest) - 1) rest ≡ rest = ap (λ n. take n rest) less ∙ take-length rest in
    let before : IsSent old mid rest first d = subst (λ (r : List Turn). IsSent old mid r first d) whole h in
    let backs : List ℕ = map (λ (t : Turn). t.back) rest in
    let forths : List ℕ = map (λ (t : Turn). t.forth) rest in
    λ k. omega (arith, moved.moved k, before k, times_cons d k turn.back backs, times_cons d k first forths, times_cons d k first (turn.forth ∷ forths), times_cons d k turn.forth forths)
