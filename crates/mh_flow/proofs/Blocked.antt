-- A phase, from its first push to its end.
use Rattle.std.proofs.Common.{◌≡◌, ◌<◌, ◌≤◌, ◌+◌, ◌-◌, ℕ, List, length, arith, refl, sym, ◌∙◌, ap, subst, inl, inr, sum, get_or-set_same, get_or-set_other}
use Rattle.std.specs.Prelude.{slice_set, nat_lt, Bool}
use Rattle.std.proofs.lemmas.Bool.{cases_eq, cases_lt, lt-ltb, ltb-true}
use Rattle.std.proofs.lemmas.List.{get_or_past}
use Rattle.std.proofs.lemmas.List.Sums.{sum_by-set}
use Rattle.mh_flow.specs.declared.need_row.NeedRow.{NeedRow}
use Rattle.mh_flow.specs.Carried.{row_at, number_at}
use Rattle.mh_flow.specs.Paths.{IsPushed}
use Rattle.mh_flow.specs.Levels.{IsLower}
use Rattle.mh_flow.specs.LayerData.{LayerData, IsLayerRun, IsEnd, IsPathPushed}
use Rattle.mh_flow.specs.inner.Over.{IsOpen, IsOver, IsSameLevels}
use Rattle.mh_flow.specs.inner.Spent.{IsPhase, IsSpent, IsSpentForth, IsSpentBack}
use Rattle.mh_flow.proofs.Phases.{levelling_kept, IsBlocked}

pub spent_pushed : (old new : List NeedRow) (left left' links points lp pp : List ℕ) (top p d : ℕ) → IsSpent old left links points lp pp →
    IsPushed old new left left' (number_at links) (number_at points) top p d → IsSpent new left' links points lp pp
spent_pushed old new left left' links points lp pp top p d h pushed = record {
  link_count = h.link_count;
  point_count = h.point_count;
  link_within = λ j. omega (arith, h.link_within j, pushed.length);
  point_within = λ q. omega (arith, h.point_within q, pushed.length);
  link_place = λ j k e. let old_place = h.link_place j k e in (omega (arith, old_place.0, pushed.length), (pushed.places k).link ∙ old_place.1);
  point_place = λ q k e. let old_place = h.point_place q k e in (omega (arith, old_place.0, pushed.length), (pushed.places k).point ∙ old_place.1);
  forth = λ k l m.
      let link = (pushed.places k).link in
      let point = (pushed.places k).point in
      let before : IsSpentForth old left links points lp k = h.forth k (omega (arith, l, pushed.length)) (omega (arith, m, ap (number_at pp) point)) in
      elim before [
        | inl up ↦ inl (omega (arith, up, ap (number_at links) link, ap (number_at points) point))
        | inr dead ↦ inr (omega (arith, dead.0, ap (number_at lp) link), omega (arith, dead.1, ap (number_at left') link, pushed.less (row_at old k).link))
      ];
  back = λ k l m.
      let link = (pushed.places k).link in
      let point = (pushed.places k).point in
      let before : IsSpentBack old links points pp k = h.back k (omega (arith, l, pushed.length)) (omega (arith, m, ap (number_at lp) link)) in
      elim before [
        | inl none ↦ elim (cases_lt 0 (row_at new k).amount) [
          | inl some ↦ inr (inl (omega (arith, pushed.grown k (omega (arith, none, some)), ap (number_at links) link, ap (number_at points) point)))
          | inr still ↦ inl (omega (arith, still))
        ]
        | inr other ↦ inr (elim other [
          | inl up ↦ inl (omega (arith, up, ap (number_at links) link, ap (number_at points) point))
          | inr dead ↦ inr (omega (arith, dead, ap (number_at pp) point))
        ])
      ];
}

pub record IsBlocking (a b : LayerData) (lp pp : List ℕ) (n : ℕ) : Type 0 where
  pub kept : IsLayerRun b
  pub same : IsSameLevels a b
  pub phase : IsOpen b
  pub spent : IsSpent b.rows b.gain_left b.links b.points lp pp
  pub ends : (p : ℕ) → p < n → IsEnd b p → number_at pp p ≡ 0

pub blocking_begun : (a : LayerData) (lp pp : List ℕ) → IsLayerRun a → IsOpen a → IsSpent a.rows a.gain_left a.links a.points lp pp → IsBlocking a a lp pp 0
blocking_begun a lp pp kept phase spent = record {
  kept = kept;
  same = record { problem = refl; links = refl; points = refl; sink = refl; phases = refl };
  phase = phase;
  spent = spent;
  ends = λ p l. absurd (omega (arith, l));
}

pub blocking_searched : (a b : LayerData) (lp pp lp' pp' : List ℕ) (n : ℕ) → IsBlocking a b lp pp n → IsSpent b.rows b.gain_left b.links b.points lp' pp' → IsLower pp pp' → IsBlocking a b lp' pp' n
blocking_searched a b lp pp lp' pp' n h spent lower = record {
  kept = h.kept;
  same = h.same;
  phase = h.phase;
  spent = spent;
  ends = λ p l e. omega (arith, h.ends p l e, lower.lower p);
}

cost_lower : (xs : List ℕ) (i d k : ℕ) → i < length xs → number_at (slice_set xs i (number_at xs i - d)) k ≤ number_at xs k
cost_lower xs i d k l = elim (cases_eq k i) [
  | inl e ↦
      let here : number_at (slice_set xs i (number_at xs i - d)) k ≡ number_at xs i - d = rw (e, get_or-set_same) refl in
      omega (arith, here, ap (number_at xs) e)
  | inr ne ↦
      let there : number_at (slice_set xs i (number_at xs i - d)) k ≡ number_at xs k = rw get_or-set_other refl in
      omega (arith, there)
]

pub costs_lower : (b c : LayerData) (p : ℕ) → IsPathPushed b c p → p < length b.cost_left → (k : ℕ) → number_at c.cost_left k ≤ number_at b.cost_left k
costs_lower b c p h l k = omega (arith, cost_lower b.cost_left p h.amount k l, ap (λ (xs : List ℕ). number_at xs k) h.cost)

pub costs_less : (b c : LayerData) (p : ℕ) → IsPathPushed b c p → p < length b.cost_left → sum c.cost_left < sum b.cost_left
costs_less b c p h l =
    let set : sum (slice_set b.cost_left p (number_at b.cost_left p - h.amount)) + number_at b.cost_left p ≡ sum b.cost_left + (number_at b.cost_left p - h.amount) =
    sum_by-set (λ x. x) b.cost_left p (number_at b.cost_left p - h.amount) 0 l in
    omega (arith, set, h.some, h.within, ap sum h.cost)

same_trans : (a b c : LayerData) (p : ℕ) → IsSameLevels a b → IsPathPushed b c p → IsSameLevels a c
same_trans a b c p f g = record {
  problem = g.problem ∙ f.problem;
  links = g.links ∙ f.links;
  points = g.points ∙ f.points;
  sink = g.sink ∙ f.sink;
  phases = g.phases ∙ f.phases;
}

pub inside_costs : (b : LayerData) (p : ℕ) → IsLayerRun b → p < length b.points → p < length b.cost_left
inside_costs b p kept l = omega (arith, kept.point_levels, kept.run.point_count, l)

pub blocking_pushed : (a b c : LayerData) (lp pp : List ℕ) (n p : ℕ) → IsBlocking a b lp pp n → IsPathPushed b c p → IsLayerRun c → p < length b.points → IsBlocking a c lp pp n
blocking_pushed a b c lp pp n p h pushed kept l =
    let lower = costs_lower b c p pushed (inside_costs b p h.kept l) in
    let spent : IsSpent c.rows c.gain_left b.links b.points lp pp = spent_pushed b.rows c.rows b.gain_left c.gain_left b.links b.points lp pp _ p pushed.amount h.spent pushed.flow in
    let phase : IsPhase c.rows c.gain_left b.links b.points = levelling_kept b.rows c.rows b.gain_left c.gain_left b.links b.points _ p pushed.amount h.phase.phase pushed.flow in
    record {
      kept = kept;
      same = same_trans a b c p h.same pushed;
      phase = record {
        phase = rw (pushed.links, pushed.points) phase;
        sink = λ q inside room.
            let was : b.sink ≤ number_at b.points q + 1 = h.phase.sink q (omega (arith, inside, ap length pushed.points)) (omega (arith, room, lower q)) in
            omega (arith, was, pushed.sink, ap (λ (xs : List ℕ). number_at xs q) pushed.points);
      };
      spent = rw (pushed.links, pushed.points) spent;
      ends = λ q m e. h.ends q m record {
        room = omega (arith, e.room, lower q);
        next = omega (arith, e.next, pushed.sink, ap (λ (xs : List ℕ). number_at xs q) pushed.points);
      };
    }

pub blocking_next : (a b : LayerData) (lp pp : List ℕ) (n : ℕ) → IsBlocking a b lp pp n → (IsEnd b n → number_at pp n ≡ 0) → IsBlocking a b lp pp (n + 1)
blocking_next a b lp pp n h last = record {
  kept = h.kept;
  same = h.same;
  phase = h.phase;
  spent = h.spent;
  ends = λ p l e. elim (cases_lt p n) [
    | inl m ↦ h.ends p m e
    | inr m ↦
        let same : p ≡ n = omega (arith, l, m) in
        subst (λ (i : ℕ). number_at pp i ≡ 0) (sym same) (last (subst (λ (i : ℕ). IsEnd b i) same e))
  ];
}

pub blocking_over : (a b : LayerData) (lp pp : List ℕ) (n : ℕ) → IsBlocking a b lp pp n → length b.points ≤ n → IsOver b
blocking_over a b lp pp n h all = record {
  phase = h.phase;
  link_rows = lp;
  point_rows = pp;
  spent = h.spent;
  ends = λ p l e. h.ends p (omega (arith, l, all)) e;
}

-- what is not spent: links with rows or gain left to try, points with rows left
abbrev pub open_link : List ℕ → List ℕ → ℕ → Bool
open_link left lp j = nat_lt 0 (number_at lp j + number_at left j)

abbrev pub open_point : List ℕ → ℕ → Bool
open_point pp p = nat_lt 0 (number_at pp p)

pub over_blocked : (a : LayerData) → IsLayerRun a → (over : IsOver a) → IsBlocked a.rows a.gain_left a.cost_left a.links a.points a.sink (open_link a.gain_left over.link_rows) (open_point over.point_rows)
over_blocked a kept over = record {
  start = λ j some e. lt-ltb 0 (number_at over.link_rows j + number_at a.gain_left j) (omega (arith, some));
  forth = λ k l open_at level.
      let some : 0 < number_at over.link_rows (row_at a.rows k).link + number_at a.gain_left (row_at a.rows k).link = ltb-true 0 _ open_at in
      elim (cases_lt 0 (number_at over.point_rows (row_at a.rows k).point)) [
        | inl left ↦ lt-ltb 0 (number_at over.point_rows (row_at a.rows k).point) left
        | inr none ↦ elim (over.spent.forth k l (omega (arith, none))) [
          | inl up ↦ absurd (omega (arith, up, level))
          | inr dead ↦ absurd (omega (arith, dead.0, dead.1, some))
        ]
      ];
  back = λ k l carries open_at level.
      let some : 0 < number_at over.point_rows (row_at a.rows k).point = ltb-true 0 _ open_at in
      elim (cases_lt 0 (number_at over.link_rows (row_at a.rows k).link + number_at a.gain_left (row_at a.rows k).link)) [
        | inl left ↦ lt-ltb 0 (number_at over.link_rows (row_at a.rows k).link + number_at a.gain_left (row_at a.rows k).link) left
        | inr none ↦ elim (over.spent.back k l (omega (arith, none))) [
          | inl idle ↦ absurd (omega (arith, idle, carries))
          | inr other ↦ elim other [ inl up ↦ absurd (omega (arith, up, level)) | inr dead ↦ absurd (omega (arith, dead, some)) ]
        ]
      ];
  stop = λ p open_at room next.
      let some : 0 < number_at over.point_rows p = ltb-true 0 _ open_at in
      elim (cases_lt p (length a.points)) [
        | inl inside ↦ absurd (omega (arith, some, over.ends p inside record { room = room; next = next }))
        | inr past ↦ absurd (omega (arith, room, get_or_past a.cost_left p 0 (omega (arith, past, kept.point_levels, kept.run.point_count))))
      ];
  far_off = λ p room. elim (cases_lt p (length a.points)) [
    | inl inside ↦ over.phase.sink p inside room
    | inr past ↦ absurd (omega (arith, room, get_or_past a.cost_left p 0 (omega (arith, past, kept.point_levels, kept.run.point_count))))
  ];
}
