-- A plan that matches is best, and fails no test.
use Rattle.std.proofs.Common.{◌≡◌, ◌+◌, ℕ, arith, sym, ◌∙◌, true, inl, inr}
use Rattle.std.specs.Prelude.{pos, ◌-ℤ◌}
use Rattle.std.proofs.lemmas.Int.{ints}
use Rattle.mh_network.specs.Problems.{ProblemData, IsProblem, link_at}
use Rattle.mh_network.specs.Selection.{IsBest, member}
use Rattle.mh_base.specs.Tests.{Refuses}
use Rattle.mh_network.specs.Laws.{member_is, best_by_flow}
use Rattle.mh_cert.specs.declared.plan.Plan.{Plan}
use Rattle.mh_cert.specs.declared.fault.CheckFault.{CheckFault}
use Rattle.mh_cert.specs.Plans.{Matches, plan_tests}

difference-equal : (a b c d : ℕ) → pos a -ℤ pos c ≡ pos b -ℤ pos d → a + d ≡ b + c
difference-equal a b c d h = omega (arith, ints)

pub best_by_match : (P : ProblemData) (plan : Plan) → IsProblem P → Matches P plan → IsBest P (member plan.links)
best_by_match P plan problem (eligible, (links, (points, (rows, (gains, (costs, (charged, (worth, (balance, _))))))))) =
    best_by_flow P (λ r. r.0) (λ r. r.1) (λ r. r.2) plan.flow plan.charges (member plan.links) problem
    (record { needed = rows.0.needed; listed = rows.1.listed; gains = gains; costs = costs; charged = charged })
    (λ j chosen. member_is (λ i. (link_at P i).eligible ≡ true) plan.links eligible j chosen)
    (difference-equal _ _ _ _ (sym worth ∙ balance))

-- a plan that matches fails no test
pub refused_fails : (P : ProblemData) (plan : Plan) (e : CheckFault) → Refuses (plan_tests P plan) e → Matches P plan → ⊥
refused_fails P plan e (inl h) m = h.0 m.0
refused_fails P plan e (inr (_, inl h)) m = h.0 m.1.0
refused_fails P plan e (inr (_, inr (_, inl h))) m = h.0 m.1.1.0
refused_fails P plan e (inr (_, inr (_, inr (_, inl h)))) m = h.0 m.1.1.1.0
refused_fails P plan e (inr (_, inr (_, inr (_, inr (_, inl h))))) m = h.0 m.1.1.1.1.0
refused_fails P plan e (inr (_, inr (_, inr (_, inr (_, inr (_, inl h)))))) m = h.0 m.1.1.1.1.1.0
refused_fails P plan e (inr (_, inr (_, inr (_, inr (_, inr (_, inr (_, inl h))))))) m = h.0 m.1.1.1.1.1.1.0
refused_fails P plan e (inr (_, inr (_, inr (_, inr (_, inr (_, inr (_, inr (_, inl h)))))))) m = h.0 m.1.1.1.1.1.1.1.0
refused_fails P plan e (inr (_, inr (_, inr (_, inr (_, inr (_, inr (_, inr (_, inr (_, inl h))))))))) m = h.0 m.1.1.1.1.1.1.1.1.0
refused_fails P plan e (inr (_, inr (_, inr (_, inr (_, inr (_, inr (_, inr (_, inr (_, inr (_, h)))))))))) m = h
