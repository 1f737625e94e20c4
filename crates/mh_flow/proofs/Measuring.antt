-- Levels that are supported and settled are distances.
use Rattle.std.proofs.Common.{◌≡◌, ◌<◌, ◌≤◌, ◌+◌, ℕ, zero, suc, length, arith, refl, sym, ap, subst, inl, inr, true}
use Rattle.std.specs.Prelude.{nat_lt}
use Rattle.std.proofs.lemmas.Bool.{cases_lt}
use Rattle.std.proofs.lemmas.List.{get_or_past}
use Rattle.std.proofs.lemmas.List.Sums.{count_by-le-length}
use Rattle.mh_network.specs.Problems.{needs_point}
use Rattle.mh_flow.specs.Carried.{row_at, no_row, number_at}
use Rattle.mh_flow.specs.Distances.{Node, IsNode, IsResidual, Reaches, level_of, AreDistances}
use Rattle.mh_flow.specs.Distances.Node.{source, link, point, sink}
use Rattle.mh_flow.specs.Levels.{far, reached_count}
use Rattle.mh_flow.specs.LayerData.{LayerData, IsLayerRun, IsSinkLevel}
use Rattle.mh_flow.specs.Run.{IsLayered}
use Rattle.mh_flow.proofs.Paying.{no_charge, paid_whole, reached_gains}

module _ (a : LayerData) (kept : IsLayerRun a) (layered : IsLayered a.rows a.gain_left a.links a.points) (level : IsSinkLevel a.cost_left a.points a.sink) where
  few : reached_count a.links + reached_count a.points + 2 < far
  few = omega (arith, count_by-le-length (λ v. nat_lt v far) a.links, count_by-le-length (λ v. nat_lt v far) a.points, kept.link_levels, kept.point_levels, kept.known.links, kept.known.points)

  onward : (u v : Node) → IsResidual a u v → level_of a u < far → (level_of a v ≤ level_of a u + 1) × (level_of a v < far)
  onward source (link j) room f = (omega (arith, layered.spare j room), omega (arith, layered.spare j room))
  onward (link j) (point p) room f =
      let row = kept.run.complete j p room in
      let from : number_at a.links (row_at a.rows row.0).link ≡ number_at a.links j = ap (number_at a.links) row.2 in
      let to : number_at a.points (row_at a.rows row.0).point ≡ number_at a.points p = ap (number_at a.points) row.3 in
      let up = (layered.settled row.0 row.1).forth (omega (arith, from, f)) in
      (omega (arith, up, from, to), omega (arith, up, from, to, layered.levels.bounded.link_levels j f, few))
  onward (point p) (link j) row f =
      let from : number_at a.points (row_at a.rows row.0).point ≡ number_at a.points p = ap (number_at a.points) row.3 in
      let to : number_at a.links (row_at a.rows row.0).link ≡ number_at a.links j = ap (number_at a.links) row.2 in
      let up = (layered.settled row.0 row.1).back row.4 (omega (arith, from, f)) in
      (omega (arith, up, from, to), omega (arith, up, from, to, layered.levels.bounded.point_levels p f, few))
  onward (point p) sink room f =
      let inside : p < length a.points = elim (cases_lt p (length a.points)) [
        | inl m ↦ m
        | inr m ↦ absurd (omega (arith, room, get_or_past a.cost_left p 0 (omega (arith, m, kept.point_levels, kept.run.point_count))))
      ] in
      (level.least p inside room, omega (arith, level.least p inside room, layered.levels.bounded.point_levels p f, few))
  onward (link j) sink room f =
      elim (cases_lt j (length a.links)) [
        | inl m ↦ absurd (omega (arith, room, paid_whole a.problem j (reached_gains a.problem a.rows a.gain_left a.cost_left a.links a.points kept.run layered j m f)))
        | inr m ↦ absurd (omega (arith, room, no_charge a.problem j (omega (arith, m, kept.link_levels))))
      ]
  onward source source room f = absurd room
  onward source (point p) room f = absurd room
  onward source sink room f = absurd room
  onward (link j) source room f = absurd room
  onward (link j) (link i) room f = absurd room
  onward (point p) source room f = absurd room
  onward (point p) (point q) room f = absurd room
  onward sink source room f = absurd room
  onward sink (link j) room f = absurd room
  onward sink (point p) room f = absurd room
  onward sink sink room f = absurd room

  within : (n : ℕ) (v : Node) → Reaches a n v → (level_of a v ≤ n) × (level_of a v < far)
  within zero v h = subst (λ (u : Node). (level_of a u ≤ 0) × (level_of a u < far)) (sym h) (omega arith, omega arith)
  within (suc n) v h =
      let before = within n h.0 h.1 in
      let on = onward h.0 v h.2 before.1 in
      (omega (arith, on.0, before.0), on.1)

  walks : (n : ℕ) → ((j : ℕ) → j < length a.links → number_at a.links j ≡ n → n < far → Reaches a n (link j)) × ((p : ℕ) → p < length a.points → number_at a.points p ≡ n → n < far → Reaches a n (point p))
  walks zero = (
    λ j l e f. elim (layered.levels.supported.link_rows j l (omega (arith, e, f))) [
      | inl first ↦ absurd (omega (arith, first.0, e))
      | inr row ↦ absurd (omega (arith, row.4, e))
    ],
    λ p l e f. let row = layered.levels.supported.point_rows p l (omega (arith, e, f)) in absurd (omega (arith, row.3, e)),
  )
  walks (suc n) =
      let before = walks n in (
        λ j l e f. elim (layered.levels.supported.link_rows j l (omega (arith, e, f))) [
          | inl first ↦
              let none : n ≡ 0 = omega (arith, first.0, e) in
              let begin : Reaches a n source = subst (λ (i : ℕ). Reaches a i source) (sym none) refl in
              (source, begin, first.1)
          | inr row ↦
              let k : ℕ = row.0 in
              let same : number_at a.links (row_at a.rows k).link ≡ number_at a.links j = ap (number_at a.links) row.2 in
              let up = (layered.settled k row.1).back row.3 (omega (arith, row.4, e, f)) in
              let below : number_at a.points (row_at a.rows k).point ≡ n = omega (arith, up, same, row.4, e) in
              (point (row_at a.rows k).point, before.1 (row_at a.rows k).point (layered.levels.range.point_range k no_row row.1) below (omega (arith, f)), (k, row.1, row.2, refl, row.3))
        ],
        λ p l e f.
            let row = layered.levels.supported.point_rows p l (omega (arith, e, f)) in
            let k : ℕ = row.0 in
            let same : number_at a.points (row_at a.rows k).point ≡ number_at a.points p = ap (number_at a.points) row.2 in
            let up = (layered.settled k row.1).forth (omega (arith, row.3, e, f)) in
            let below : number_at a.links (row_at a.rows k).link ≡ n = omega (arith, up, same, row.3, e) in
            let needs : needs_point a.problem (row_at a.rows k).link p ≡ true = subst (λ (i : ℕ). needs_point a.problem (row_at a.rows k).link i ≡ true) row.2 (kept.run.needed k no_row row.1) in
            (link (row_at a.rows k).link, before.0 (row_at a.rows k).link (layered.levels.range.link_range k no_row row.1) below (omega (arith, f)), needs),
      )

  found : (v : Node) → IsNode a v → level_of a v < far → Reaches a (level_of a v) v
  found source h f = refl
  found (link j) h f = (walks (number_at a.links j)).0 j (omega (arith, h, kept.link_levels)) refl f
  found (point p) h f = (walks (number_at a.points p)).1 p (omega (arith, h, kept.point_levels)) refl f
  found sink h f =
      let end = level.found f in
      let p : ℕ = end.0 in
      let before : Reaches a (number_at a.points p) (point p) = (walks (number_at a.points p)).1 p end.1 refl (omega (arith, end.3, f)) in
      let whole : Reaches a (suc (number_at a.points p)) sink = (point p, before, end.2) in
      let same : suc (number_at a.points p) ≡ a.sink = omega (arith, end.3) in
      subst (λ (n : ℕ). Reaches a n sink) same whole

  pub distances : AreDistances a
  distances = record { least = within; reached = found }
