-- The snapshots that a book stores, by number.
use Rattle.std.proofs.Common.{◌≡◌, inl, inr, ℕ, ◌+◌, ◌*◌, ◌<◌, ◌≤◌, Bool, false, cond, List, [], ◌∷◌, ◌++◌, length, map, slice_index_or, refl, sym, subst, ap, ◌∙◌, arith}
use Rattle.std.specs.Prelude.{reverse}
use Rattle.std.specs.List.{All, list_all, sum_by}
use Rattle.std.proofs.lemmas.Bool.{cases_lt, eq-eqb, ne_eqb}
use Rattle.std.proofs.lemmas.List.{get_or_append_left, get_or-append-add, length-reverse}
use Rattle.std.proofs.lemmas.List.Elements.{All-head, All-tail}
use Rattle.std.proofs.lemmas.List.FromFn.{get_or-map-range_with_len}
use Rattle.mh_network.specs.declared.link_row.LinkRow.{LinkRow}
use Rattle.mh_network.specs.Problems.{kept_gain, problem_of, sum_of_gains}
use Rattle.mh_network.specs.Laws.{kept_gains}
use Rattle.mh_site.specs.Defined.{DefinitionData}
use Rattle.mh_site.specs.Lawful.{IsDefinition}
use Rattle.mh_site.specs.Links.{links, link_at}
use Rattle.mh_core.specs.declared.record.Record.{Record}
use Rattle.mh_core.specs.declared.record.Record.TheVariants.{Flushed, Targeted, Invalidated, Snapped, Published, Installed}
use Rattle.mh_core.specs.Books.{Legal}
use Rattle.mh_core.specs.Limits.{LimitsData}
use Rattle.mh_network.specs.Limits.{greatest_sum}
use Rattle.mh_core.specs.Problems.{IsTaken, is_eligible, problem_after, row}
use Rattle.mh_core.specs.Records.{is_valid, numbers, past, snapshots, total, valid_points}
use Rattle.mh_core.specs.Snapshots.{SnapshotState, snapshot_of, snapshots_of}
use Rattle.mh_core.specs.inner.Tables.{are_valid, row_in}
use Rattle.mh_core.specs.Laws.LawfulLinks.{lawful_link}
use Rattle.mh_core.specs.Laws.Numbered.{same_numbers, at_number}
use Rattle.mh_core.specs.Laws.ProblemRows.{costs_of, rows_in}
use Rattle.mh_core.specs.Laws.Worlds.{oldest_push}

pub snapshots_count : (d : DefinitionData) (r : List Record) → length (snapshots_of d r) ≡ snapshots r
snapshots_count d [] = refl
snapshots_count d (Flushed w hits ∷ r) = snapshots_count d r
snapshots_count d (Targeted t tree ∷ r) = snapshots_count d r
snapshots_count d (Invalidated points ∷ r) = snapshots_count d r
snapshots_count d (Snapped ∷ r) = let h = snapshots_count d r in omega arith
snapshots_count d (Published n plan ∷ r) = snapshots_count d r
snapshots_count d (Installed m ∷ r) = snapshots_count d r

-- ---- the records before a snapshot
past_last : (r : List Record) (n : ℕ) → n ≡ snapshots r + 1 → past (Snapped ∷ r) n ≡ r
past_last r n e = ap (λ (b : Bool). cond b r (past r n)) (eq-eqb (snapshots r + 1) n (sym e))

past_earlier : (r : List Record) (n : ℕ) → n ≤ snapshots r → past (Snapped ∷ r) n ≡ past r n
past_earlier r n h = ap (λ (b : Bool). cond b r (past r n)) (ne_eqb (snapshots r + 1) n (λ e. absurd (omega arith)))

-- the snapshot with a number as it is stored, oldest first
pub kept_at : (d : DefinitionData) (r : List Record) (n : ℕ) (none : SnapshotState) → n < snapshots r → slice_index_or (reverse (snapshots_of d r)) n none ≡ snapshot_of d (past r (n + 1))
kept_at d [] n none h = absurd (omega arith)
kept_at d (Flushed w hits ∷ r) n none h = kept_at d r n none h
kept_at d (Targeted t tree ∷ r) n none h = kept_at d r n none h
kept_at d (Invalidated points ∷ r) n none h = kept_at d r n none h
kept_at d (Snapped ∷ r) n none h =
    let older = reverse (snapshots_of d r) in
    let count : length older ≡ snapshots r = length-reverse (snapshots_of d r) ∙ snapshots_count d r in
    let pushed : slice_index_or (reverse (snapshots_of d (Snapped ∷ r))) n none ≡ slice_index_or (older ++ snapshot_of d r ∷ []) n none =
    ap (λ (s : List SnapshotState). slice_index_or s n none) (oldest_push (snapshot_of d r) (snapshots_of d r)) in
    elim (cases_lt n (snapshots r)) [
      | inl earlier ↦
          pushed ∙ (get_or_append_left older (snapshot_of d r ∷ []) none n (omega arith)
          ∙ (kept_at d r n none earlier ∙ ap (snapshot_of d) (sym (past_earlier r (n + 1) (omega arith)))))
      | inr last ↦
          let same : n ≡ length older + 0 = omega arith in
          pushed ∙ (ap (λ (i : ℕ). slice_index_or (older ++ snapshot_of d r ∷ []) i none) same
          ∙ (get_or-append-add older (snapshot_of d r ∷ []) 0 none ∙ ap (snapshot_of d) (sym (past_last r (n + 1) (omega arith)))))
    ]
kept_at d (Published m plan ∷ r) n none h = kept_at d r n none h
kept_at d (Installed m ∷ r) n none h = kept_at d r n none h

-- ---- legal records
-- the records before a snapshot were legal, and its gains passed their test
pub record WasLegal (d : DefinitionData) (l : LimitsData) (g : List Record) : Type 0 where
  pub legal : Legal d l g
  pub gains : sum_of_gains (problem_after d g) ≤ greatest_sum

pub past_legal : (d : DefinitionData) (l : LimitsData) (r : List Record) (n : ℕ) → Legal d l r → IsTaken r n → WasLegal d l (past r n)
past_legal d l [] n legal taken = absurd (omega (arith, taken.0, taken.1))
past_legal d l (Flushed w hits ∷ r) n legal taken = past_legal d l r n legal.1 taken
past_legal d l (Targeted t tree ∷ r) n legal taken = past_legal d l r n legal.1 taken
past_legal d l (Invalidated points ∷ r) n legal taken = past_legal d l r n legal.1 taken
past_legal d l (Snapped ∷ r) n legal taken = elim (cases_lt (snapshots r) n) [
  | inl last ↦ subst (WasLegal d l) (sym (past_last r n (omega (arith, last, taken.1)))) record { legal = legal.1; gains = legal.0.1.1.1.0 }
  | inr earlier ↦ subst (WasLegal d l) (sym (past_earlier r n earlier)) (past_legal d l r n legal.1 (taken.0, earlier))
]
past_legal d l (Published m plan ∷ r) n legal taken = past_legal d l r n legal.1 taken
past_legal d l (Installed m ∷ r) n legal taken = past_legal d l r n legal.1 taken

-- no total exceeds its limit
pub total_within : (d : DefinitionData) (l : LimitsData) (r : List Record) (j : ℕ) → Legal d l r → j < length (links d) → total r j ≤ l.total
total_within d l [] j legal h = omega arith
total_within d l (Flushed w hits ∷ r) j legal h = legal.0.1.1.1.0 j h
total_within d l (Targeted t tree ∷ r) j legal h = total_within d l r j legal.1 h
total_within d l (Invalidated points ∷ r) j legal h = total_within d l r j legal.1 h
total_within d l (Snapped ∷ r) j legal h = total_within d l r j legal.1 h
total_within d l (Published n plan ∷ r) j legal h = total_within d l r j legal.1 h
total_within d l (Installed m ∷ r) j legal h = total_within d l r j legal.1 h

-- ---- the rows of a snapshot
same_all : (p q : ℕ → Bool) (xs : List ℕ) → All (λ x. p x ≡ q x) xs → list_all p xs ≡ list_all q xs
same_all p q [] h = refl
same_all p q (x ∷ xs) h = rw (All-head (λ y. p y ≡ q y) x xs h, same_all p q xs (All-tail (λ y. p y ≡ q y) x xs h)) refl

pub eligible_same : (d : DefinitionData) (g : List Record) (j : ℕ) → IsDefinition d → j < length (links d) → are_valid (valid_points d g) (link_at d j).1.needs ≡ is_eligible d g j
eligible_same d g j is h =
    same_all (λ p. slice_index_or (valid_points d g) p false) (is_valid g) (link_at d j).1.needs
    (λ k e within. get_or-map-range_with_len (is_valid g) 0 (length d.points) _ _ false ((lawful_link d j is h).known k e within) (omega arith))

row_same : (d : DefinitionData) (g : List Record) (j : ℕ) → IsDefinition d → j < length (links d) → row_in d (snapshot_of d g).totals (snapshot_of d g).valid j ≡ row d g j
row_same d g j is h =
    let made : ℕ → Bool → LinkRow = λ n b. record { gain = (link_at d j).1.weight * n; eligible = b; needs = (link_at d j).1.needs; charge = (link_at d j).1.charge } in
    ap (λ (n : ℕ). made n (are_valid (valid_points d g) (link_at d j).1.needs)) (at_number (total g) (length (links d)) j h)
    ∙ ap (made (total g j)) (eligible_same d g j is h)

-- the rows of a stored snapshot are those of its records
pub rows_same : (d : DefinitionData) (g : List Record) → IsDefinition d → rows_in d (snapshot_of d g).totals (snapshot_of d g).valid ≡ map (row d g) (numbers (length (links d)))
rows_same d g is = same_numbers record { gain = 0; eligible = false; needs = []; charge = 0 } (row_in d (snapshot_of d g).totals (snapshot_of d g).valid) (row d g) (length (links d)) (λ j h. row_same d g j is h)

pub problem_same : (d : DefinitionData) (g : List Record) → IsDefinition d → problem_of (rows_in d (snapshot_of d g).totals (snapshot_of d g).valid) (costs_of d) ≡ problem_after d g
problem_same d g is = ap (λ (rows : List LinkRow). problem_of rows (costs_of d)) (rows_same d g is)

pub gains_same : (d : DefinitionData) (g : List Record) → IsDefinition d → sum_by kept_gain (rows_in d (snapshot_of d g).totals (snapshot_of d g).valid) ≡ sum_of_gains (problem_after d g)
gains_same d g is =
    sym (kept_gains (rows_in d (snapshot_of d g).totals (snapshot_of d g).valid) (costs_of d)) ∙ ap sum_of_gains (problem_same d g is)
