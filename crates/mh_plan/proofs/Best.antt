-- The links of all parts' runs are the least best of the whole, and their flows show it.
use Rattle.std.proofs.Common.{◌≡◌, ℕ, ◌<◌, List, Bool, true, arith, sym, ◌∙◌, ap, length, get_or, subst}
use Rattle.std.specs.Prelude.{All, nat_lt, pos, ℤ, ◌+ℤ◌, ◌-ℤ◌}
use Rattle.std.specs.List.{sum_by}
use Rattle.std.proofs.Math.Path.{fun_ext}
use Rattle.std.proofs.lemmas.Int.{ints}
use Rattle.std.proofs.lemmas.Bool.{and_parts, and_from, lt-ltb, ltb-true}
use Rattle.std.proofs.lemmas.List.{length-map}
use Rattle.std.proofs.lemmas.List.Elements.{All-map}
use Rattle.mh_network.specs.declared.part.Part.{Part}
use Rattle.mh_network.specs.Problems.{ProblemData, sum_of_gains}
use Rattle.mh_network.specs.Alone.{StandAlone}
use Rattle.mh_network.specs.Parts.{AreParts, part_at, place_of, part_row, part_problem, restricted}
use Rattle.mh_network.specs.Laws.SumLaws.{sum_below-add}
use Rattle.mh_network.specs.Sums.{sum_below}
use Rattle.mh_network.specs.Parts.Item.{link}
use Rattle.mh_network.specs.Parts.IsJoined.{here}
use Rattle.mh_network.specs.Selection.{Row, Charge, IsLeast, member, value_of, worth}
use Rattle.mh_flow.specs.FlowData.{FlowData}
use Rattle.mh_plan.specs.Joined.{joined, charges_of, links_of, rows_of, whole_charge, whole_link, whole_row}
use Rattle.mh_plan.specs.Solved.{AreSolved}
use Rattle.mh_plan.proofs.Concat.{joined_all, joined_member, joined_gives, joined_sum, mapped_member, mapped_gives, sum_map}
use Rattle.mh_plan.proofs.Members.{all_members, eligible_below, member_is, num, same_answer}

left_over : (worths : ℤ) (value total : ℕ) → worths +ℤ pos value ≡ pos total → worths ≡ pos total -ℤ pos value
left_over worths value total h = omega (arith, ints, h)

module _ (P : ProblemData) (parts : List Part) (are : AreParts P parts) (alone : StandAlone P parts) (run : ℕ → FlowData) (solved : AreSolved P parts run) where
  reached_inside : (i : ℕ) → i < length parts → (k : ℕ) → member (run i).reached k ≡ true → k < length (part_at parts i).links
  reached_inside i l k e =
      omega (arith, eligible_below (part_problem P (part_at parts i)) k ((solved i l).least.best.eligible k e), length-map (part_at parts i).links (part_row P (part_at parts i)))

  pub reached_below : (i : ℕ) → i < length parts → All (λ k. k < length (part_at parts i).links) (run i).reached
  reached_below i l = all_members (λ k. k < length (part_at parts i).links) (run i).reached (reached_inside i l)

  abbrev pub chosen : List ℕ
  chosen = joined (links_of parts run) (length parts)

  pub chosen_below : All (λ j. j < length P.links) chosen
  chosen_below =
      joined_all (λ j. j < length P.links) (links_of parts run) (length parts)
      (λ i l. All-map (λ j. j < length P.links) (whole_link (part_at parts i)) (run i).reached
      (λ k d m. (alone.part i).links_in _ ((alone.links i).number (get_or (run i).reached k d) (reached_below i l k d m)).0))

  chosen_here : (i : ℕ) → i < length parts → (k : ℕ) → member (run i).reached k ≡ restricted (member chosen) (part_at parts i) k
  chosen_here i l k =
      let xs : List ℕ = (part_at parts i).links in
      same_answer (member (run i).reached k) (restricted (member chosen) (part_at parts i) k)
      (λ e.
      and_from (nat_lt k (length xs)) (member chosen (num xs k)) (lt-ltb k (length xs) (reached_inside i l k e))
      (joined_member (links_of parts run) (length parts) i (num xs k) l (mapped_member (whole_link (part_at parts i)) (run i).reached k e)))
      (λ e.
      let both = and_parts (nat_lt k (length xs)) (member chosen (num xs k)) e in
      let below : k < length xs = ltb-true k (length xs) both.0 in
      let found = joined_gives (links_of parts run) (length parts) (num xs k) both.1 in
      let i' : ℕ = found.0 in
      let got = mapped_gives (whole_link (part_at parts i')) (run i').reached (num xs k) found.2 in
      let inside : got.0 < length (part_at parts i').links = reached_inside i' found.1 got.0 got.1 in
      let there : member (part_at parts i').links (num xs k) ≡ true = sym (ap (member (part_at parts i').links) got.2) ∙ ((alone.links i').number got.0 inside).0 in
      let same : i' ≡ i = are.apart i' i (link (num xs k)) (link (num xs k)) there ((alone.links i).number k below).0 here in
      let by_part : (m : ℕ) → m ≡ i → got.0 < length (part_at parts m).links → num (part_at parts m).links got.0 ≡ num xs k → got.0 ≡ k = λ m f a b.
      let a' : got.0 < length xs = subst (λ (q : ℕ). got.0 < length (part_at parts q).links) f a in
      let b' : num xs got.0 ≡ num xs k = subst (λ (q : ℕ). num (part_at parts q).links got.0 ≡ num xs k) f b in
      sym ((alone.links i).number got.0 a').1 ∙ (ap (place_of xs) b' ∙ ((alone.links i).number k below).1) in
      let place : got.0 ≡ k = by_part i' same inside got.2 in
      let reached : member (run i).reached got.0 ≡ true = subst (λ (q : ℕ). member (run q).reached got.0 ≡ true) same got.1 in
      subst (λ (q : ℕ). member (run i).reached q ≡ true) place reached)

  chosen_inside : (j : ℕ) → member chosen j ≡ true → j < length P.links
  chosen_inside j e = member_is (λ i. i < length P.links) chosen chosen_below j e

  pub least_chosen : IsLeast P (member chosen)
  least_chosen =
      alone.join (member chosen) chosen_inside
      (λ i l. subst (λ (S : ℕ → Bool). IsLeast (part_problem P (part_at parts i)) S) (fun_ext (chosen_here i l)) (solved i l).least)

  -- what the flow of a part carries, by the numbers of the whole
  abbrev part_value : ℕ → ℕ
  part_value i = value_of (rows_of parts run i) (charges_of parts run i)

  -- of each part, its flow and its links are worth all its gains
  part_equal : (i : ℕ) → i < length parts →
      worth (part_problem P (part_at parts i)) (restricted (member chosen) (part_at parts i)) +ℤ pos (part_value i) ≡ pos (sum_of_gains (part_problem P (part_at parts i)))
  part_equal i l =
      let Q : ProblemData = part_problem P (part_at parts i) in
      let S : ℕ → Bool = restricted (member chosen) (part_at parts i) in
      let value : part_value i ≡ value_of (run i).rows (run i).charges =
      omega (arith, sum_map (λ (r : Row). r.2) (whole_row (part_at parts i)) (run i).rows, sum_map (λ (r : Charge). r.1) (whole_charge (part_at parts i)) (run i).charges) in
      ap (λ (v : ℕ). worth Q S +ℤ pos v) value
      ∙ subst (λ (T : ℕ → Bool). worth Q T +ℤ pos (value_of (run i).rows (run i).charges) ≡ pos (sum_of_gains Q)) (fun_ext (chosen_here i l)) (solved i l).equal

  pub worth_chosen : worth P (member chosen) ≡ pos (sum_of_gains P) -ℤ pos (value_of (joined (rows_of parts run) (length parts)) (joined (charges_of parts run) (length parts)))
  worth_chosen =
      let value : value_of (joined (rows_of parts run) (length parts)) (joined (charges_of parts run) (length parts)) ≡ sum_below (length parts) part_value =
      omega (
        arith,
        joined_sum (λ (r : Row). r.2) (rows_of parts run) (length parts),
        joined_sum (λ (r : Charge). r.1) (charges_of parts run) (length parts),
        sum_below-add (length parts) (λ i. sum_by (λ (r : Row). r.2) (rows_of parts run i)) (λ i. sum_by (λ (r : Charge). r.1) (charges_of parts run i)),
      ) in
      left_over (worth P (member chosen)) _ _
      (ap (λ (v : ℕ). worth P (member chosen) +ℤ pos v) value ∙ alone.add_up (member chosen) chosen_inside part_value part_equal)
