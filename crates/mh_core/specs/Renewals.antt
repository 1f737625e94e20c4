-- A new history over the current trees, points and hits.
use Rattle.std.specs.Prelude.{◌≡◌, ◌<◌, ℕ, zero, suc, Bool, not, ◌||◌, List, [], ◌∷◌, map, filter, length, reverse, slice_index_or}
use Rattle.std.specs.List.{All}
use Rattle.mh_base.specs.Tests.{Tests, test, only}
use Rattle.mh_type.specs.declared.value.Value.{Value}
use Rattle.mh_tree.specs.Handle.{TypedTree}
use Rattle.mh_tree.specs.Meaning.{mean}
use Rattle.mh_tree.specs.Typing.{IsTyped}
use Rattle.mh_pic.specs.Specialised.{is_among, retired_tree}
use Rattle.mh_ledger.specs.declared.old_hits.OldHits.{OldHits}
use Rattle.mh_ledger.specs.Renewals.{renewed_shares, renewed_totals}
use Rattle.mh_site.specs.Defined.{DefinitionData}
use Rattle.mh_site.specs.Links.{links}
use Rattle.mh_site.specs.Targets.{with_targets}
use Rattle.mh_core.specs.declared.record.Record.{Record}
use Rattle.mh_core.specs.declared.record.Record.TheVariants.{Flushed, Invalidated}
use Rattle.mh_core.specs.declared.renewing.Beginning.{Beginning}
use Rattle.mh_core.specs.declared.refusal.Refusal.{Refusal}
use Rattle.mh_core.specs.declared.refusal.Refusal.TheVariants.{HistoryFull, NoPoint}
use Rattle.mh_core.specs.declared.succession.Succession.{Succession}
use Rattle.mh_core.specs.Books.{BookState}
use Rattle.mh_core.specs.Limits.{LimitsData}
use Rattle.mh_core.specs.Records.{base, environment_of_bases, hits_in, is_valid, numbers, valid_points}
use Rattle.mh_core.specs.Refusals.{memory_last}
use Rattle.mh_core.specs.Replayed.{world}

-- the points that are given back: those of the points to be valid again that are invalid
abbrev pub given_back : List Record → List ℕ → List ℕ
given_back r again = filter (λ p. not (is_valid r p)) again

-- the base tree of each site, by number, in which each point given back is replaced by its fallback
abbrev pub renewed_bases : DefinitionData → List Record → List ℕ → List TypedTree
renewed_bases d r again = map (λ s. retired_tree (given_back r again) (base d r s)) (numbers (length d.sites))

-- the definition of the new history: each site has that tree as its target
abbrev pub renewed : DefinitionData → List Record → List ℕ → DefinitionData
renewed d r again = with_targets d (renewed_bases d r again)

-- a point is valid in the new history if it was valid, or is to be valid again
abbrev pub is_valid_anew : List Record → List ℕ → ℕ → Bool
is_valid_anew r again p = is_valid r p || is_among again p

-- the points that stay invalid
abbrev pub fallen : DefinitionData → List Record → List ℕ → List ℕ
fallen d r again = filter (λ p. not (is_valid_anew r again p)) (numbers (length d.points))

-- a flush of each of the first shares, after other records
abbrev pub carried : List Record → List (List ℕ) → ℕ → List Record
carried r shares zero = r
carried r shares (suc w) = Flushed w (hits_in (slice_index_or shares w [])) ∷ carried r shares w

-- the new history: an invalidation of the points that stay invalid, and a flush of each worker's share
abbrev pub renewed_records : DefinitionData → List Record → List ℕ → List (List ℕ) → List Record
renewed_records d r again shares = carried (Invalidated (fallen d r again) ∷ []) shares (length shares)

-- the book begins a new history, in which these points are valid again
pub record Renews (again : List ℕ) (h : OldHits) (b new : BookState) : Type 0 where
  pub definition : new.definition ≡ renewed b.definition b.records again
  pub limits : new.limits ≡ b.limits
  pub records : new.records ≡ renewed_records b.definition b.records again (renewed_shares h b.totals)
  pub totals : new.totals ≡ renewed_totals h b.totals

-- each site's calls mean what they meant, and the same points are valid, as well as those that are to be valid again
pub record MeansTheSame (again : List ℕ) (b new : BookState) : Type 0 where
  pub calls : (s : ℕ) → (a : List Value) → s < length b.definition.sites
      → mean (environment_of_bases new.definition new.records) (base new.definition new.records s).tree a
      ≡ mean (environment_of_bases b.definition b.records) (base b.definition b.records s).tree a
  pub valid : valid_points new.definition new.records ≡ map (is_valid_anew b.records again) (numbers (length b.definition.points))

-- the beginning of another book that continues from the state of this one, once its first record invalidates the points that stay invalid
pub record Succeeds (again : List ℕ) (b : BookState) (next : Succession) : Type 0 where
  pub definition : next.definition ≡ renewed b.definition b.records again
  pub invalid : next.invalid ≡ fallen b.definition b.records again
  pub links : links next.definition ≡ links b.definition
  pub means : (new : BookState) → new.definition ≡ next.definition → new.records ≡ Invalidated next.invalid ∷ [] → MeansTheSame again b new

-- the points exist
abbrev pub AreKnown : DefinitionData → List ℕ → Type 0
AreKnown d points = All (λ p. p < length d.points) points

-- the tests of points that are to be valid again: they exist
abbrev pub again_tests : DefinitionData → List ℕ → Tests Refusal
again_tests d again = test (AreKnown d again) (only NoPoint) memory_last

-- the tests of a renewal with this many workers: the new history has room for its first records, and the points to be valid again exist
abbrev pub renewal_tests : DefinitionData → LimitsData → ℕ → List ℕ → Tests Refusal
renewal_tests d l workers again = test (workers < l.history) (only HistoryFull) (again_tests d again)

-- each site's base tree has its type
abbrev pub BasesAreTyped : DefinitionData → List Record → Type 0
BasesAreTyped d r = (s : ℕ) → s < length d.sites → IsTyped (base d r s).tree (base d r s).signature

-- the contents of a book at the beginning of the new history
pub record Begins (again : List ℕ) (h : OldHits) (b : BookState) (first : Beginning) : Type 0 where
  pub definition : first.definition ≡ renewed b.definition b.records again
  pub world : first.world ≡ world (renewed b.definition b.records again) (renewed_records b.definition b.records again (renewed_shares h b.totals))
  pub records : reverse first.records.items ≡ renewed_records b.definition b.records again (renewed_shares h b.totals)
  pub typed : BasesAreTyped b.definition b.records
