-- The phases of a run, and what they carry.
use Rattle.std.proofs.Common.{◌≡◌, ◌<◌, ◌≤◌, ◌+◌, ◌↔◌, ℕ, zero, suc, List, [], ◌∷◌, arith, refl, sym, ◌∙◌, ap, subst, Bool, true, inl, inr}
use Rattle.std.specs.Prelude.{nat_lt}
use Rattle.std.specs.List.{sum_by}
use Rattle.std.proofs.lemmas.Bool.{cases_Bool, ltb-true}
use Rattle.std.proofs.lemmas.List.Sums.{sum_by-cons}
use Rattle.mh_network.specs.Problems.{ProblemData}
use Rattle.mh_network.specs.Selection.{Row}
use Rattle.mh_flow.specs.declared.need_row.NeedRow.{NeedRow}
use Rattle.mh_flow.specs.declared.path.Turn.{Turn}
use Rattle.mh_flow.specs.Carried.{carried, number_at, row_at}
use Rattle.mh_flow.specs.Distances.{AreDistances}
use Rattle.mh_flow.specs.FlowData.{FlowData}
use Rattle.mh_flow.specs.LayerData.{LayerData, IsEnd, IsLayerRun, IsSameFlow, IsSinkLevel}
use Rattle.mh_flow.specs.Levels.{far}
use Rattle.mh_flow.specs.inner.Over.{IsOver}
use Rattle.mh_flow.specs.Phases.{IsUpward, Pushes, IsPhased, Phases, IsRunOf}
use Rattle.mh_flow.specs.Run.{IsLayered, positive_rows}
use Rattle.mh_flow.proofs.Answered.{positive-sum}
use Rattle.mh_flow.proofs.Blocked.{over_blocked, open_link, open_point}
use Rattle.mh_flow.proofs.Phases.{IsBlocked, sink_rises}

-- a path up the levels ends at a point that is not spent
path_open : (c : LayerData) (D E : ℕ → Bool) → IsBlocked c.rows c.gain_left c.cost_left c.links c.points c.sink D E → (p : ℕ) (turns : List Turn) (first : ℕ) → IsUpward c p turns first → E p ≡ true
path_open c D E h p [] first path =
    let chosen = h.start (row_at c.rows first).link path.some path.start in
    subst (λ (q : ℕ). E q ≡ true) path.to_point (h.forth first path.in_range chosen (omega (arith, path.link_level, ap (number_at c.points) path.to_point)))
path_open c D E h p (turn ∷ rest) first path =
    let this = path.0 in
    let below = path_open c D E h (row_at c.rows turn.back).point rest first path.1 in
    let taken = h.back turn.back this.back_in_range this.some below (sym this.point_level) in
    let chosen : D (row_at c.rows turn.forth).link ≡ true = subst (λ (j : ℕ). D j ≡ true) this.same_link taken in
    subst (λ (q : ℕ). E q ≡ true) this.to_point (h.forth turn.forth this.forth_in_range chosen (omega (arith, this.link_level, ap (number_at c.points) this.to_point)))

no_path : (c : LayerData) → IsLayerRun c → IsOver c → (p : ℕ) (turns : List Turn) (first : ℕ) → IsEnd c p → IsUpward c p turns first → ⊥
no_path c kept over p turns first end path =
    let blocked = over_blocked c kept over in
    blocked.stop p (path_open c _ _ blocked p turns first path) end.room end.next

-- where levels reach the sink something is pushed along them
some_push : (b c : LayerData) → IsLayerRun b → IsLayered b.rows b.gain_left b.links b.points → IsSinkLevel b.cost_left b.points b.sink → b.sink < far → IsOver c → (n : ℕ) → Pushes n b c →
    (m : ℕ) × Pushes (suc m) b c
some_push b c kept layered level near over zero same =
    let here : IsOver b = subst IsOver (sym same) over in
    let end = level.found near in
    let up = sink_rises b.rows b.gain_left b.cost_left b.links b.points b.links b.points b.sink end.0 (open_link b.gain_left here.link_rows) (open_point here.point_rows)
    here.phase.phase (over_blocked b kept here) layered end.1 (omega (arith, end.3, near)) end.2 in
    absurd (omega (arith, up, end.3))
some_push b c kept layered level near over (suc n) pushes = (n, pushes)

pub phase_made : (a b c : LayerData) → IsLayerRun b → IsLayerRun c → IsSameFlow b a → AreDistances b → IsLayered b.rows b.gain_left b.links b.points → IsSinkLevel b.cost_left b.points b.sink →
    b.sink < far → IsOver c → (n : ℕ) × Pushes n b c → IsPhased a c
phase_made a b c kept_b kept_c same distances layered level near over pushes =
    let some = some_push b c kept_b layered level near over pushes.0 pushes.1 in
    record {
      layered = b;
      built = record { flow = same; distances = distances };
      near = near;
      more = some.0;
      pushes = some.1;
      blocked = no_path c kept_c over;
    }

pushes_carry : (n : ℕ) (a c : LayerData) → Pushes n a c → carried a.rows + n ≤ carried c.rows
pushes_carry zero a c same = omega (arith, ap (λ (x : LayerData). carried x.rows) same)
pushes_carry (suc n) a c h = omega (arith, pushes_carry n a h.0 h.1, h.2.sent.pushed.flow.value, h.2.sent.pushed.some)

phases_carry : (n : ℕ) (a c : LayerData) → Phases n a c → carried a.rows + n ≤ carried c.rows
phases_carry zero a c same = omega (arith, ap (λ (x : LayerData). carried x.rows) same)
phases_carry (suc n) a c h =
    let last = h.2 in
    omega (arith, phases_carry n a h.0 h.1, ap carried last.built.flow.rows, pushes_carry (suc last.more) last.layered c last.pushes)

positive_none : (rows : List NeedRow) → carried rows ≡ 0 → positive_rows rows ≡ []
positive_none [] e = refl
positive_none (r ∷ rows) e =
    let whole = sum_by-cons (λ (x : NeedRow). x.amount) r rows in
    elim (cases_Bool (nat_lt 0 r.amount)) [
      | inl some ↦ absurd (omega (arith, ltb-true 0 r.amount some, whole, e))
      | inr none ↦ rw none (positive_none rows (omega (arith, whole, e)))
    ]

-- one phase alone is taken just where nothing is carried over needs
pub run_idle : (P : ProblemData) (run : FlowData) → IsRunOf P run → (run.phases ≡ 1) ↔ (run.rows ≡ [])
run_idle P run h =
    let same : carried h.last.rows ≡ carried h.over.rows = ap carried h.built.flow.rows in
    let sum : sum_by (λ (r : Row). r.2) (positive_rows h.last.rows) ≡ carried h.last.rows = positive-sum (λ (r : Row). r.2) h.last.rows (λ r e. e) in (
      λ one.
          let none : h.full ≡ 0 = omega (arith, one, h.count) in
          let still : h.start ≡ h.over = subst (λ (n : ℕ). Phases n h.start h.over) none h.phases in
          h.rows ∙ positive_none h.last.rows (omega (arith, same, h.begun.idle, ap (λ (x : LayerData). carried x.rows) still)),
      λ empty.
          let nothing : carried h.last.rows ≡ 0 = omega (arith, sum, ap (λ (rs : List Row). sum_by (λ (r : Row). r.2) rs) (sym h.rows ∙ empty)) in
          omega (arith, phases_carry h.full h.start h.over h.phases, same, nothing, h.count),
    )
