-- The plans that a book stores, by number.
use Rattle.std.proofs.Common.{◌≡◌, inl, inr, ℕ, ◌+◌, ◌-◌, ◌<◌, ◌≤◌, Bool, true, cond, List, [], ◌∷◌, ◌++◌, length, map, slice_index_or, refl, sym, subst, ap, ◌∙◌, arith}
use Rattle.std.specs.Prelude.{reverse}
use Rattle.std.specs.List.{All}
use Rattle.std.specs.List.Sorted.{IsStrictlyIncreasing}
use Rattle.std.proofs.lemmas.Bool.{cases_lt, eq-eqb, ne_eqb, false≢true}
use Rattle.std.proofs.lemmas.List.{get_or_append_left, get_or-append-add, get_or_past, length-map, length-reverse, reverse-reverse}
use Rattle.std.proofs.lemmas.List.FromFn.{length-map-range_with_len}
use Rattle.mh_cert.specs.Plans.{Matches}
use Rattle.mh_cert.specs.declared.plan.Plan.{Plan}
use Rattle.mh_network.specs.declared.link_row.LinkRow.{LinkRow}
use Rattle.mh_network.specs.Problems as network
use Rattle.mh_network.specs.Problems.{ProblemData, kept_row}
use Rattle.mh_site.specs.Defined.{DefinitionData}
use Rattle.mh_site.specs.Links.{links}
use Rattle.mh_core.specs.declared.record.Record.{Record}
use Rattle.mh_core.specs.declared.record.Record.TheVariants.{Flushed, Targeted, Invalidated, Snapped, Published, Installed}
use Rattle.mh_core.specs.Books.{BookState, IsBook, Legal}
use Rattle.mh_core.specs.Installations.{IsPublished, PublishedPlan, plan_at}
use Rattle.mh_core.specs.Limits.{LimitsData}
use Rattle.mh_core.specs.PlanTables.{plans_of}
use Rattle.mh_core.specs.Problems.{IsTaken, problem_after, problem_at, row}
use Rattle.mh_core.specs.Records.{numbers, past, plans, snapshots}
use Rattle.mh_core.specs.Laws.Worlds.{oldest_push}

pub plans_count : (r : List Record) → length (plans_of r) ≡ plans r
plans_count [] = refl
plans_count (Flushed w hits ∷ r) = plans_count r
plans_count (Targeted t tree ∷ r) = plans_count r
plans_count (Invalidated points ∷ r) = plans_count r
plans_count (Snapped ∷ r) = plans_count r
plans_count (Published n plan ∷ r) = let h = plans_count r in omega arith
plans_count (Installed m ∷ r) = plans_count r

abbrev published : ℕ → Plan → PublishedPlan
published n plan = record { snapshot = n; plan = plan }

plan_last : (r : List Record) (n : ℕ) (plan : Plan) (m : ℕ) → m ≡ plans r + 1 → plan_at (Published n plan ∷ r) m ≡ published n plan
plan_last r n plan m e = ap (λ (b : Bool). cond b (published n plan) (plan_at r m)) (eq-eqb (plans r + 1) m (sym e))

plan_earlier : (r : List Record) (n : ℕ) (plan : Plan) (m : ℕ) → m ≤ plans r → plan_at (Published n plan ∷ r) m ≡ plan_at r m
plan_earlier r n plan m h = ap (λ (b : Bool). cond b (published n plan) (plan_at r m)) (ne_eqb (plans r + 1) m (λ e. absurd (omega arith)))

-- the plan with a number as it is stored, oldest first
pub plan_kept : (r : List Record) (m : ℕ) (none : PublishedPlan) → m < plans r → slice_index_or (reverse (plans_of r)) m none ≡ plan_at r (m + 1)
plan_kept [] m none h = absurd (omega arith)
plan_kept (Flushed w hits ∷ r) m none h = plan_kept r m none h
plan_kept (Targeted t tree ∷ r) m none h = plan_kept r m none h
plan_kept (Invalidated points ∷ r) m none h = plan_kept r m none h
plan_kept (Snapped ∷ r) m none h = plan_kept r m none h
plan_kept (Published n plan ∷ r) m none h =
    let older = reverse (plans_of r) in
    let count : length older ≡ plans r = length-reverse (plans_of r) ∙ plans_count r in
    let pushed : slice_index_or (reverse (plans_of (Published n plan ∷ r))) m none ≡ slice_index_or (older ++ published n plan ∷ []) m none =
    ap (λ (s : List PublishedPlan). slice_index_or s m none) (oldest_push (published n plan) (plans_of r)) in
    elim (cases_lt m (plans r)) [
      | inl earlier ↦
          pushed ∙ (get_or_append_left older (published n plan ∷ []) none m (omega arith)
          ∙ (plan_kept r m none earlier ∙ sym (plan_earlier r n plan (m + 1) (omega arith))))
      | inr last ↦
          let same : m ≡ length older + 0 = omega arith in
          pushed ∙ (ap (λ (i : ℕ). slice_index_or (older ++ published n plan ∷ []) i none) same
          ∙ (get_or-append-add older (published n plan ∷ []) 0 none ∙ sym (plan_last r n plan (m + 1) (omega arith))))
    ]
plan_kept (Installed m′ ∷ r) m none h = plan_kept r m none h

-- ---- the plans, which are kept oldest first
pub plans_now : (b now : BookState) (kept : List PublishedPlan) → IsBook b → b ≡ now → b.plans ≡ reverse kept → length kept ≡ plans now.records
plans_now b now kept is seen e =
    sym (length-reverse kept) ∙ (ap length (sym e ∙ is.plans) ∙ (plans_count b.records ∙ ap (λ (x : BookState). plans x.records) seen))

-- a stored plan as it is read, by a book that callers see as `now`
pub plan_read : (b now : BookState) (kept : List PublishedPlan) (m : ℕ) (p : PublishedPlan) → IsBook b → b ≡ now → b.plans ≡ reverse kept → IsPublished now.records m → p ≡ slice_index_or kept (m - 1) p
    → p ≡ plan_at now.records m
plan_read b now kept m p is seen e known which =
    let then' : IsPublished b.records m = subst (λ (x : BookState). IsPublished x.records m) (sym seen) known in
    let oldest : kept ≡ reverse (plans_of b.records) = sym (reverse-reverse kept) ∙ ap reverse (sym e ∙ is.plans) in
    let place : m - 1 + 1 ≡ m = omega (arith, then'.0) in
    which
    ∙ (ap (λ (s : List PublishedPlan). slice_index_or s (m - 1) p) oldest
    ∙ (plan_kept b.records (m - 1) p (omega (arith, then'.0, then'.1))
    ∙ (ap (plan_at b.records) place ∙ ap (λ (x : BookState). plan_at x.records m) seen)))

-- ---- a published plan passed its tests
pub record WasTested (d : DefinitionData) (r : List Record) (p : PublishedPlan) : Type 0 where
  pub taken : IsTaken r p.snapshot
  pub matching : Matches (problem_at d r p.snapshot) p.plan

past_earlier : (r : List Record) (n : ℕ) → n ≤ snapshots r → past (Snapped ∷ r) n ≡ past r n
past_earlier r n h = ap (λ (b : Bool). cond b r (past r n)) (ne_eqb (snapshots r + 1) n (λ e. absurd (omega arith)))

snapped_tested : (d : DefinitionData) (r : List Record) (p : PublishedPlan) → WasTested d r p → WasTested d (Snapped ∷ r) p
snapped_tested d r p was =
    let before : p.snapshot ≤ snapshots r = was.taken.1 in
    record {
      taken = (was.taken.0, omega (arith, before));
      matching = subst (λ (g : List Record). Matches (problem_after d g) p.plan) (sym (past_earlier r p.snapshot before)) was.matching;
    }

pub was_tested : (d : DefinitionData) (l : LimitsData) (r : List Record) (m : ℕ) → Legal d l r → IsPublished r m → WasTested d r (plan_at r m)
was_tested d l [] m legal known = absurd (omega (arith, known.0, known.1))
was_tested d l (Flushed w hits ∷ r) m legal known = let was = was_tested d l r m legal.1 known in record { taken = was.taken; matching = was.matching }
was_tested d l (Targeted t tree ∷ r) m legal known = let was = was_tested d l r m legal.1 known in record { taken = was.taken; matching = was.matching }
was_tested d l (Invalidated points ∷ r) m legal known = let was = was_tested d l r m legal.1 known in record { taken = was.taken; matching = was.matching }
was_tested d l (Snapped ∷ r) m legal known = snapped_tested d r (plan_at r m) (was_tested d l r m legal.1 known)
was_tested d l (Published n plan ∷ r) m legal known = elim (cases_lt (plans r) m) [
  | inl last ↦
      subst (WasTested d (Published n plan ∷ r)) (sym (plan_last r n plan m (omega (arith, last, known.1)))) record { taken = legal.0.1.1.0; matching = legal.0.1.1.1.0 }
  | inr earlier ↦
      let was = was_tested d l r m legal.1 (known.0, earlier) in
      subst (WasTested d (Published n plan ∷ r)) (sym (plan_earlier r n plan m earlier)) record { taken = was.taken; matching = was.matching }
]
was_tested d l (Installed m′ ∷ r) m legal known = let was = was_tested d l r m legal.1 known in record { taken = was.taken; matching = was.matching }

-- ---- the links of a published plan
pub record AreKnown (d : DefinitionData) (js : List ℕ) : Type 0 where
  pub inside : All (λ j. j < length (links d)) js
  pub ascending : IsStrictlyIncreasing js

eligible_inside : (P : ProblemData) (j : ℕ) → (network.link_at P j).eligible ≡ true → j < length P.links
eligible_inside P j e = elim (cases_lt j (length P.links)) [
  | inl below ↦ below
  | inr over ↦
      let none = ap (λ (r : LinkRow). r.eligible) (get_or_past P.links j network.no_link over) in
      absurd (false≢true (sym none ∙ e))
]

links_count : (d : DefinitionData) (g : List Record) → length (problem_after d g).links ≡ length (links d)
links_count d g =
    length-map (map (row d g) (numbers (length (links d)))) kept_row ∙ length-map-range_with_len (row d g) 0 (length (links d))

pub plan_known : (b : BookState) (m : ℕ) → IsBook b → IsPublished b.records m → AreKnown b.definition (plan_at b.records m).plan.links
plan_known b m is known =
    let p = plan_at b.records m in
    let was = was_tested b.definition b.limits b.records m is.legal known in
    let P = problem_at b.definition b.records p.snapshot in
    let eligible = was.matching.0 in
    let ascending = was.matching.1.0 in
    record {
      inside = λ k e h. omega (arith, eligible_inside P (slice_index_or p.plan.links k e) (eligible k e h), links_count b.definition (past b.records p.snapshot));
      ascending = ascending;
    }
