-- The payments of charges. No flow does better than one in which each link pays what its gain allows: a charge is paid only by its own
-- link, so no path has a better use for the amount.
use Rattle.std.specs.Prelude.{ℕ, zero, suc, min, List, [], ◌∷◌, ◌++◌, cond, length, nat_lt}
use Rattle.mh_network.specs.Problems.{ProblemData, gain_of, charge_of}
use Rattle.mh_network.specs.Selection.{Charge}

-- the amount that a link pays of its charge
abbrev pub paid_of : ProblemData → ℕ → ℕ
paid_of P j = min (gain_of P j) (charge_of P j)

-- the positive amounts that the links below n pay
abbrev pub paid_below : ProblemData → ℕ → List Charge
paid_below P zero = []
paid_below P (suc n) = paid_below P n ++ cond (nat_lt 0 (paid_of P n)) ((n, paid_of P n) ∷ []) []

abbrev pub paid_charges : ProblemData → List Charge
paid_charges P = paid_below P (length P.links)
