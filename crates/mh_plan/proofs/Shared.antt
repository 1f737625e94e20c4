-- Parts shared out among workers, and their runs found again.
use Rattle.std.proofs.Common.{◌≡◌, ℕ, zero, suc, ◌+◌, ◌-◌, ◌*◌, ◌/◌, ◌%◌, ◌<◌, List, [], ◌∷◌, ◌++◌, refl, arith, sym, ◌∙◌, ap, inl, inr, length, get_or, subst, length-append}
use Rattle.std.specs.Prelude.{All, Result, Ok, Err, IfOk, IsOk}
use Rattle.std.specs.List.{slice_index_or}
use Rattle.std.proofs.Math.Nat.{mod-add-div, mod-lt}
use Rattle.std.proofs.lemmas.Bool.{cases_lt, true≢false}
use Rattle.std.proofs.lemmas.List.{get_or-append_right, get_or_append_left}
use Rattle.mh_base.specs.declared.memory.NoMemory.{NoMemory}
use Rattle.mh_network.specs.declared.part.Part.{Part}
use Rattle.mh_network.specs.Problems.{ProblemData}
use Rattle.mh_network.specs.Parts.{part_at, part_problem}
use Rattle.mh_flow.specs.FlowData.{FlowData}
use Rattle.mh_plan.specs.inner.Shares.{IsShare, share_of}
use Rattle.mh_plan.specs.Solved.{IsSolved, no_run}

found_share : (P : ProblemData) (parts : List Part) (workers worker : ℕ) (share : Result (List FlowData) NoMemory) → IsOk share → IfOk share (λ runs. IsShare P parts workers worker runs) → IsShare P parts workers worker (share_of share)
found_share P parts workers worker (Ok runs) ok h = h
found_share P parts workers worker (Err e) ok h = absurd (true≢false (sym ok))

-- part i is run i / workers of worker i % workers
pub solved_at : (P : ProblemData) (parts : List Part) (workers : ℕ) (shares : List (Result (List FlowData) NoMemory)) → 0 < workers → length shares ≡ workers → All (λ share. IsOk share) shares →
    ((w : ℕ) → w < workers → IfOk (slice_index_or shares w (Ok [])) (λ runs. IsShare P parts workers w runs)) → (i : ℕ) → i < length parts →
    IsSolved (part_problem P (part_at parts i)) (slice_index_or (share_of (slice_index_or shares (i % workers) (Ok []))) (i / workers) no_run)
solved_at P parts workers shares some count ok each i l =
    let inside : i % workers < workers = mod-lt i some in
    let split : i % workers + i / workers * workers ≡ i = omega (arith, mod-add-div i workers) in
    let share : IsShare P parts workers (i % workers) (share_of (slice_index_or shares (i % workers) (Ok []))) =
    found_share P parts workers (i % workers) (slice_index_or shares (i % workers) (Ok [])) (ok (i % workers) (Ok []) (omega (arith, inside, count))) (each (i % workers) inside) in
    let full = share.full (i / workers) (omega (arith, split, l)) in
    subst (λ (k : ℕ). IsSolved (part_problem P (part_at parts k)) (slice_index_or (share_of (slice_index_or shares (i % workers) (Ok []))) (i / workers) no_run)) split (share.solved (i / workers) full)

nothing_left : (n : ℕ) → n - n ≡ 0
nothing_left n = omega arith

-- a share with one run more
pub share_more : (P : ProblemData) (parts : List Part) (workers worker part : ℕ) (old new : List FlowData) (run : FlowData) → new ≡ old ++ run ∷ [] → part ≡ worker + length old * workers →
    ((t : ℕ) → t < length old → IsSolved (part_problem P (part_at parts (worker + t * workers))) (slice_index_or old t no_run)) → IsSolved (part_problem P (part_at parts part)) run →
    (t : ℕ) → t < length new → IsSolved (part_problem P (part_at parts (worker + t * workers))) (slice_index_or new t no_run)
share_more P parts workers worker part old new run more place each last t l =
    let count : length new ≡ length old + 1 = ap length more ∙ length-append old (run ∷ []) in
    elim (cases_lt t (length old)) [
      | inl below ↦
          let same : get_or new t no_run ≡ get_or old t no_run = ap (λ (xs : List FlowData). get_or xs t no_run) more ∙ get_or_append_left old (run ∷ []) no_run t below in
          subst (λ (r : FlowData). IsSolved (part_problem P (part_at parts (worker + t * workers))) r) (sym same) (each t below)
      | inr past ↦
          let here : t ≡ length old = omega (arith, l, past, count) in
          let end : get_or (old ++ run ∷ []) (length old) no_run ≡ run = get_or-append_right old (run ∷ []) (length old) (length old) no_run refl (omega arith) ∙ ap (λ (k : ℕ). get_or (run ∷ []) k no_run) (nothing_left (length old)) in
          let value : get_or new t no_run ≡ run = ap (λ (k : ℕ). get_or new k no_run) here ∙ (ap (λ (xs : List FlowData). get_or xs (length old) no_run) more ∙ end) in
          let number : worker + t * workers ≡ part = sym (place ∙ ap (λ (k : ℕ). worker + k * workers) (sym here)) in
          subst (λ (r : FlowData). IsSolved (part_problem P (part_at parts (worker + t * workers))) r) (sym value)
          (subst (λ (k : ℕ). IsSolved (part_problem P (part_at parts k)) run) (sym number) last)
    ]

-- ---- all parts as the share of one worker
abbrev only : List FlowData → List (Result (List FlowData) NoMemory)
only runs = Ok runs ∷ []

only_ok : (runs : List FlowData) → All (λ share. IsOk share) (only runs)
only_ok runs zero d l = refl
only_ok runs (suc k) d l = absurd (omega (arith, l))

only_share : (P : ProblemData) (parts : List Part) (runs : List FlowData) → IsShare P parts 1 0 runs
    → (w : ℕ) → w < 1 → IfOk (slice_index_or (only runs) w (Ok [])) (λ rs. IsShare P parts 1 w rs)
only_share P parts runs share zero l = share
only_share P parts runs share (suc w) l = absurd (omega (arith, l))

pub solved_alone : (P : ProblemData) (parts : List Part) (shares : List (Result (List FlowData) NoMemory)) (runs : List FlowData) → shares ≡ Ok runs ∷ [] → IsShare P parts 1 0 runs → (i : ℕ) → i < length parts →
    IsSolved (part_problem P (part_at parts i)) (slice_index_or (share_of (slice_index_or shares (i % 1) (Ok []))) (i / 1) no_run)
solved_alone P parts shares runs same share i l =
    subst (λ (xs : List (Result (List FlowData) NoMemory)). IsSolved (part_problem P (part_at parts i)) (slice_index_or (share_of (slice_index_or xs (i % 1) (Ok []))) (i / 1) no_run)) (sym same)
    (solved_at P parts 1 (Ok runs ∷ []) (omega arith) refl (only_ok runs) (only_share P parts runs share) i l)

pub full_alone : (P : ProblemData) (parts : List Part) (shares : List (Result (List FlowData) NoMemory)) (runs : List FlowData) → shares ≡ Ok runs ∷ [] → IsShare P parts 1 0 runs → (i : ℕ) → i < length parts →
    i / 1 < length (share_of (slice_index_or shares (i % 1) (Ok [])))
full_alone P parts shares runs same share i l =
    let below : i % 1 < 1 = mod-lt i (omega arith) in
    let first : i % 1 ≡ 0 = omega (arith, below) in
    let found : share_of (slice_index_or shares (i % 1) (Ok [])) ≡ runs =
    ap (λ (xs : List (Result (List FlowData) NoMemory)). share_of (slice_index_or xs (i % 1) (Ok []))) same
    ∙ ap (λ (k : ℕ). share_of (slice_index_or (only runs) k (Ok []))) first in
    let place : i / 1 < length runs = share.full (i / 1) (omega (arith, l, first, mod-add-div i 1)) in
    omega (arith, place, ap length found)
