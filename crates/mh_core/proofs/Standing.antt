-- What a book has now: its totals, and what a snapshot of it keeps.
use Rattle.std.proofs.Common.{◌≡◌, ℕ, ◌+◌, ◌^◌, ◌<◌, ◌≤◌, Bool, List, ◌∷◌, length, map, slice_index_or, sym, subst, ap, ◌∙◌, arith, ◌-◌}
use Rattle.std.specs.List.{All, sum_by}
use Rattle.std.specs.Prelude.{reverse}
use Rattle.std.proofs.lemmas.List.{ext_get_or, length-reverse, reverse-reverse}
use Rattle.std.proofs.lemmas.List.FromFn.{length-map-range_with_len}
use Rattle.mh_ledger.specs.Ledgers.{at, flushed_into, FlushFits, LedgerState, TotalsState}
use Rattle.mh_ledger.specs.Laws.{length-added}
use Rattle.mh_network.specs.Problems.{kept_gain, problem_of, sum_of_gains}
use Rattle.mh_site.specs.Defined.{DefinitionData}
use Rattle.mh_site.specs.Lawful.{IsDefinition}
use Rattle.mh_site.specs.Links.{links}
use Rattle.mh_site.specs.Worlds.{SiteState, WorldState, state_at}
use Rattle.mh_core.specs.declared.record.Record.{Record}
use Rattle.mh_core.specs.declared.record.Record.TheVariants.{Flushed}
use Rattle.mh_core.specs.Books.{BookState, IsBook, AreTotals}
use Rattle.mh_core.specs.Limits.{LimitsData, IsLimits}
use Rattle.mh_core.specs.Problems.{IsTaken, problem_after, problem_at}
use Rattle.mh_core.specs.Records.{hits_in, numbers, past, snapshots, total, valid_points, version}
use Rattle.mh_core.specs.Rows.{TotalsFit}
use Rattle.mh_core.specs.Snapshots.{SnapshotState, snapshot_of, snapshots_of}
use Rattle.mh_core.proofs.HitCounts.{hits_counted}
use Rattle.mh_core.specs.Laws.Numbered.{all_numbers, at_number, same_numbers}
use Rattle.mh_core.specs.Laws.PastSnapshots.{WasLegal, gains_same, kept_at, past_legal, problem_same, snapshots_count, total_within}
use Rattle.mh_core.specs.Laws.ProblemRows.{costs_of, rows_in}
use Rattle.mh_core.specs.Laws.Worlds.{read, valid_is}

-- ---- room for a flush
pub room_fits : (b : BookState) (l : LedgerState) → IsBook b → FlushFits b.totals l → TotalsFit b.definition b.limits b.records (hits_in l.unflushed)
room_fits b l is room j h =
    let fits = room j (omega (arith, h, is.totals.count)) in
    omega (arith, fits, is.totals.sums j h, is.totals.limit, hits_counted l.unflushed j)

pub fits_room : (b : BookState) (l : LedgerState) → IsBook b → TotalsFit b.definition b.limits b.records (hits_in l.unflushed) → FlushFits b.totals l
fits_room b l is fit j h =
    let inside : j < length (links b.definition) = omega (arith, h, is.totals.count) in
    omega (arith, fit j inside, is.totals.sums j inside, is.totals.limit, hits_counted l.unflushed j)

-- the totals are the sums of one flush more
pub flushed_totals : (b : BookState) (l : LedgerState) (new : TotalsState) → IsBook b → new ≡ flushed_into b.totals l → ((j : ℕ) → at new.total j ≡ at b.totals.total j + at l.unflushed j)
    → AreTotals b.definition b.limits (Flushed l.worker (hits_in l.unflushed) ∷ b.records) new
flushed_totals b l new is same rises = record {
  count = ap (λ (t : TotalsState). length t.total) same ∙ (length-added b.totals.total l.unflushed ∙ is.totals.count);
  sums = λ j h. omega (arith, rises j, is.totals.sums j h, hits_counted l.unflushed j);
  limit = ap (λ (t : TotalsState). t.limit) same ∙ is.totals.limit;
}

-- ---- a snapshot
totals_now : (b : BookState) → IsBook b → b.totals.total ≡ map (total b.records) (numbers (length (links b.definition)))
totals_now b is =
    let count : length (map (total b.records) (numbers (length (links b.definition)))) ≡ length (links b.definition) = length-map-range_with_len (total b.records) 0 (length (links b.definition)) in
    ext_get_or 0 _ _ (is.totals.count ∙ sym count)
    (λ j h.
    let inside : j < length (links b.definition) = omega (arith, h, is.totals.count) in
    is.totals.sums j inside ∙ sym (at_number (total b.records) (length (links b.definition)) j inside))

pub valid_now : (b : BookState) → IsBook b → b.world.valid ≡ valid_points b.definition b.records
valid_now b is = ap (λ (w : WorldState). w.valid) is.world ∙ valid_is b.definition b.records

versions_now : (b : BookState) → IsBook b → map (λ i. (state_at b.world i).version) (numbers (length b.definition.sites)) ≡ map (version b.records) (numbers (length b.definition.sites))
versions_now b is =
    same_numbers 0 (λ i. (state_at b.world i).version) (version b.records) (length b.definition.sites)
    (λ i h. ap (λ (w : WorldState). (state_at w i).version) is.world ∙ ap (λ (x : SiteState). x.version) (read b.definition b.records i h))

abbrev pub standing : BookState → SnapshotState
standing b = record { totals = b.totals.total; valid = b.world.valid; versions = map (λ i. (state_at b.world i).version) (numbers (length b.definition.sites)) }

pub snapshot_now : (b : BookState) → IsBook b → standing b ≡ snapshot_of b.definition b.records
snapshot_now b is =
    let made : List ℕ → List Bool → List ℕ → SnapshotState = λ t v n. record { totals = t; valid = v; versions = n } in
    let now = standing b in
    let then' = snapshot_of b.definition b.records in
    ap (λ (t : List ℕ). made t now.valid now.versions) (totals_now b is)
    ∙ (ap (λ (v : List Bool). made then'.totals v now.versions) (valid_now b is) ∙ ap (made then'.totals then'.valid) (versions_now b is))

gains_now : (b : BookState) → IsBook b → sum_by kept_gain (rows_in b.definition b.totals.total b.world.valid) ≡ sum_of_gains (problem_after b.definition b.records)
gains_now b is =
    ap (λ (s : SnapshotState). sum_by kept_gain (rows_in b.definition s.totals s.valid)) (snapshot_now b is) ∙ gains_same b.definition b.records is.definition

-- the gains that are read from a book's tables, which callers see as `now`
pub gains_read : (b now : BookState) (totals : List ℕ) (valid : List Bool) → IsBook b → b ≡ now → totals ≡ b.totals.total → valid ≡ b.world.valid
    → sum_by kept_gain (rows_in b.definition totals valid) ≡ sum_of_gains (problem_after now.definition now.records)
gains_read b now totals valid is seen same points =
    ap (λ (t : List ℕ). sum_by kept_gain (rows_in b.definition t valid)) same
    ∙ (ap (λ (v : List Bool). sum_by kept_gain (rows_in b.definition b.totals.total v)) points
    ∙ (gains_now b is ∙ ap (λ (x : BookState). sum_of_gains (problem_after x.definition x.records)) seen))

-- ---- what a kept snapshot makes a problem by
pub record MakesProblem (d : DefinitionData) (totals : List ℕ) (valid : List Bool) : Type 0 where
  pub links : length totals ≡ length (links d)
  pub few : All (λ n. n ≤ 2 ^ 40) totals
  pub gains : sum_by kept_gain (rows_in d totals valid) ≤ 2 ^ 62

pub makes_problem : (d : DefinitionData) (l : LimitsData) (g : List Record) → IsDefinition d → IsLimits l → WasLegal d l g → MakesProblem d (snapshot_of d g).totals (snapshot_of d g).valid
makes_problem d l g is limits was = record {
  links = length-map-range_with_len (total g) 0 (length (links d));
  few = all_numbers (λ (n : ℕ). n ≤ 2 ^ 40) (total g) (length (links d)) (λ j h. omega (arith, total_within d l g j was.legal h, limits.total));
  gains = omega (arith, was.gains, gains_same d g is);
}

-- ---- the snapshots, which are kept oldest first
pub snapshots_now : (b now : BookState) (kept : List SnapshotState) → IsBook b → b ≡ now → b.snapshots ≡ reverse kept → length kept ≡ snapshots now.records
snapshots_now b now kept is seen e =
    sym (length-reverse kept) ∙ (ap length (sym e ∙ is.snapshots) ∙ (snapshots_count b.definition b.records ∙ ap (λ (x : BookState). snapshots x.records) seen))

-- the kept snapshot of a number
pub kept_read : (b : BookState) (kept : List SnapshotState) (n : ℕ) (s : SnapshotState) → IsBook b → b.snapshots ≡ reverse kept → IsTaken b.records n → s ≡ slice_index_or kept (n - 1) s
    → s ≡ snapshot_of b.definition (past b.records n)
kept_read b kept n s is e taken which =
    let oldest : kept ≡ reverse (snapshots_of b.definition b.records) = sym (reverse-reverse kept) ∙ ap reverse (sym e ∙ is.snapshots) in
    let place : n - 1 + 1 ≡ n = omega (arith, taken.0) in
    which
    ∙ (ap (λ (l : List SnapshotState). slice_index_or l (n - 1) s) oldest
    ∙ (kept_at b.definition b.records (n - 1) s (omega (arith, taken.0, taken.1)) ∙ ap (λ (i : ℕ). snapshot_of b.definition (past b.records i)) place))

-- a kept snapshot as it is read, by a book that callers see as `now`
pub record Reads (b now : BookState) (kept : List SnapshotState) (n : ℕ) (totals : List ℕ) (valid : List Bool) : Type 0 where
  pub book : IsBook b
  pub seen : b ≡ now
  pub snapshots : b.snapshots ≡ reverse kept
  pub taken : IsTaken now.records n
  pub snapshot : SnapshotState
  pub which : snapshot ≡ slice_index_or kept (n - 1) snapshot
  pub numbers : totals ≡ snapshot.totals
  pub points : valid ≡ snapshot.valid

module _ (b now : BookState) (kept : List SnapshotState) (n : ℕ) (totals : List ℕ) (valid : List Bool) (h : Reads b now kept n totals valid) where
  taken_then : IsTaken b.records n
  taken_then = subst (λ (x : BookState). IsTaken x.records n) (sym h.seen) h.taken

  is_then : h.snapshot ≡ snapshot_of b.definition (past b.records n)
  is_then = kept_read b kept n h.snapshot h.book h.snapshots taken_then h.which

  totals_then : totals ≡ (snapshot_of b.definition (past b.records n)).totals
  totals_then = h.numbers ∙ ap (λ (s : SnapshotState). s.totals) is_then

  valid_then : valid ≡ (snapshot_of b.definition (past b.records n)).valid
  valid_then = h.points ∙ ap (λ (s : SnapshotState). s.valid) is_then

  pub read_makes : MakesProblem b.definition totals valid
  read_makes =
      let made = makes_problem b.definition b.limits (past b.records n) h.book.definition h.book.limits (past_legal b.definition b.limits b.records n h.book.legal taken_then) in
      subst (λ (t : List ℕ). MakesProblem b.definition t valid) (sym totals_then) (subst (MakesProblem b.definition (snapshot_of b.definition (past b.records n)).totals) (sym valid_then) made)

  pub read_problem : problem_of (rows_in b.definition totals valid) (costs_of b.definition) ≡ problem_at now.definition now.records n
  read_problem =
      ap (λ (t : List ℕ). problem_of (rows_in b.definition t valid) (costs_of b.definition)) totals_then
      ∙ (ap (λ (v : List Bool). problem_of (rows_in b.definition (snapshot_of b.definition (past b.records n)).totals v) (costs_of b.definition)) valid_then
      ∙ (problem_same b.definition (past b.records n) h.book.definition ∙ ap (λ (x : BookState). problem_at x.definition x.records n) h.seen))
